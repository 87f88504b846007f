-- How a judgement ends.
use Rattle.std.proofs.Common.{◌≡◌, sym, subst, refl, ℕ, List, [], ◌∷◌, Option, Some, None, true, false, inl, inr}
use Rattle.fabric_tables.specs.Cells.{TablesOf}
use Rattle.fabric_model.specs.Fabric.{FabricOf}
use Rattle.fabric_model.specs.declared.traffic.Traffic.{Traffic}
use Rattle.fabric_verdict.specs.declared.verdict.LoopChannel.{LoopChannel}
use Rattle.fabric_verdict.specs.declared.verify.Rise.{Rise}
use Rattle.fabric_verdict.specs.declared.verify.Verified.{Verified}
use Rattle.fabric_verdict.specs.Verified.{IsVerified}
use Rattle.fabric_verdict.specs.Verdict.{CycleIs}
use Rattle.fabric_call.specs.declared.status.Status.{Status}
use Rattle.fabric_call.specs.declared.status.Status.TheVariants.{Ok, Usage, TopologyRefused, TopologyTooLong, TablesRefused, LanesRefused, LevelsRefused}
use Rattle.fabric_call.specs.declared.status.Status.TheVariants.{NewTablesRefused, RanksRefused, RanksTooLong, ReadFault, WriteFault, RoutesLost, Cycle, RanksRise, Undecided, OutOfMemory}
use Rattle.fabric_call.specs.Answer.{IsEnding}
use Rattle.fabric_judge_commands.specs.Certified.{IsEndBy}
use Rattle.fabric_judge_commands.specs.Judged.{IsEndOf, IsLoop}

module _ (fabric : FabricOf) (tables : TablesOf) (traffic : Traffic) where
  -- the least credit loop has channels, and is closed
  pub loop_is : (found : List LoopChannel) → CycleIs fabric tables traffic found → IsLoop fabric tables traffic found
  loop_is [] is = absurd is.least
  loop_is (one ∷ rest) is = is

  pub cycle_ends : (found : List LoopChannel) → CycleIs fabric tables traffic found → IsEndOf fabric tables traffic Cycle
  cycle_ends [] is = absurd is.least
  cycle_ends (one ∷ rest) is = (_, _, is.least.from.closed)

  -- what ends a judgement ends a command
  pub is_ending : (status : Status) → IsEndOf fabric tables traffic status → IsEnding status
  is_ending Ok is = tt
  is_ending Usage is = absurd is
  is_ending (TopologyRefused line cause) is = absurd is
  is_ending (TopologyTooLong line) is = absurd is
  is_ending (TablesRefused line cause) is = absurd is
  is_ending (LanesRefused line cause) is = absurd is
  is_ending (LevelsRefused line cause) is = absurd is
  is_ending (RanksRefused line cause) is = absurd is
  is_ending (RanksTooLong line) is = absurd is
  is_ending (NewTablesRefused line cause) is = absurd is
  is_ending ReadFault is = absurd is
  is_ending WriteFault is = absurd is
  is_ending RoutesLost is = tt
  is_ending Cycle is = tt
  is_ending RanksRise is = absurd is
  is_ending Undecided is = absurd is
  is_ending OutOfMemory is = absurd is

  pub is_ending_by : (rise : Option Rise) (status : Status) → IsEndBy fabric tables traffic rise status → IsEnding status
  is_ending_by None status (no_cycle, inl (ok, arrive)) = subst IsEnding (sym ok) tt
  is_ending_by None status (no_cycle, inr (lost, stopped)) = subst IsEnding (sym lost) tt
  is_ending_by (Some rise) status is = subst IsEnding (sym is) tt

  -- of ranks that fall
  module _ (ranks : List ℕ) (found : Verified) (is : IsVerified fabric tables traffic ranks found) (none : found.rise ≡ None) where
    pub ends_lost : found.stops ≡ true → IsEndBy fabric tables traffic found.rise RoutesLost
    ends_lost stops = subst (λ (rise : Option Rise). IsEndBy fabric tables traffic rise RoutesLost) (sym none) (is.no_cycle none, inr (refl, is.stops.0 stops))

    pub ends_well : found.stops ≡ false → IsEndBy fabric tables traffic found.rise Ok
    ends_well goes = subst (λ (rise : Option Rise). IsEndBy fabric tables traffic rise Ok) (sym none) (is.no_cycle none, inl (refl, is.passes none goes))

  -- where there is a credit loop, that is told
  pub cycle_status : (found : List LoopChannel) → CycleIs fabric tables traffic found → (status : Status) → IsEndOf fabric tables traffic status → status ≡ Cycle
  cycle_status [] is status ends = absurd is.least
  cycle_status (one ∷ rest) is Ok ends = absurd (ends.1.ranked.no_cycle _ _ is.least.from.closed)
  cycle_status (one ∷ rest) is Usage ends = absurd ends
  cycle_status (one ∷ rest) is (TopologyRefused line cause) ends = absurd ends
  cycle_status (one ∷ rest) is (TopologyTooLong line) ends = absurd ends
  cycle_status (one ∷ rest) is (TablesRefused line cause) ends = absurd ends
  cycle_status (one ∷ rest) is (LanesRefused line cause) ends = absurd ends
  cycle_status (one ∷ rest) is (LevelsRefused line cause) ends = absurd ends
  cycle_status (one ∷ rest) is (RanksRefused line cause) ends = absurd ends
  cycle_status (one ∷ rest) is (RanksTooLong line) ends = absurd ends
  cycle_status (one ∷ rest) is (NewTablesRefused line cause) ends = absurd ends
  cycle_status (one ∷ rest) is ReadFault ends = absurd ends
  cycle_status (one ∷ rest) is WriteFault ends = absurd ends
  cycle_status (one ∷ rest) is RoutesLost ends = absurd (ends.1.no_cycle _ _ is.least.from.closed)
  cycle_status (one ∷ rest) is Cycle ends = refl
  cycle_status (one ∷ rest) is RanksRise ends = absurd ends
  cycle_status (one ∷ rest) is Undecided ends = absurd ends
  cycle_status (one ∷ rest) is OutOfMemory ends = absurd ends
