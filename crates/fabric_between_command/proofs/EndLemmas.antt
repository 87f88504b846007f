-- How a judgement of two tables ends.
use Rattle.std.proofs.Common.{refl, ℕ, List, [], ◌∷◌, Some, None}
use Rattle.fabric_tables.specs.Cells.{TablesOf}
use Rattle.fabric_model.specs.Fabric.{FabricOf}
use Rattle.fabric_mixtures.specs.declared.judge.LoopChannel.{LoopChannel}
use Rattle.fabric_mixtures.specs.declared.looped.Looped.{Looped}
use Rattle.fabric_mixtures.specs.Verdict.{CycleIs, HasRanks, IsLooped}
use Rattle.fabric_call.specs.declared.status.Status.TheVariants.{Cycle}
use Rattle.fabric_between_command.specs.Judged.{IsEndOf, IsLoop, IsToldOf}

module _ (fabric : FabricOf) (old new : TablesOf) where
  -- the least cycle has channels, and is closed
  pub loop_is : (found : List LoopChannel) → CycleIs fabric old new found → IsLoop fabric old new found
  loop_is [] is = absurd is.least
  loop_is (one ∷ rest) is = is

  pub cycle_ends : (found : List LoopChannel) → CycleIs fabric old new found → IsEndOf fabric old new Cycle
  cycle_ends [] is = absurd is.least
  cycle_ends (one ∷ rest) is = (_, _, is.least.from.closed)

  -- which of the tables have one
  pub none_told : (ranks : List ℕ) → HasRanks fabric old new ranks → (found : List LoopChannel) → IsLoop fabric old new found → IsToldOf fabric old new found None
  none_told ranks has [] is = refl
  none_told ranks has (one ∷ rest) is = absurd (has.no_cycle _ _ is.least.from.closed)

  some_told : (channels found : List LoopChannel) (looped : Looped) → CycleIs fabric old new channels → IsLooped fabric old new looped → IsLoop fabric old new found → IsToldOf fabric old new found (Some looped)
  some_told [] found looped cycle are is = absurd cycle.least
  some_told (one ∷ rest) [] looped cycle are none = absurd (none _ _ cycle.least.from.closed)
  some_told (one ∷ rest) (other ∷ others) looped cycle are is = are

  pub looped_told : (channels found : List LoopChannel) (looped : Looped) → CycleIs fabric old new channels × IsLooped fabric old new looped → IsLoop fabric old new found → IsToldOf fabric old new found (Some looped)
  looped_told channels found looped both is = some_told channels found looped both.0 both.1 is
