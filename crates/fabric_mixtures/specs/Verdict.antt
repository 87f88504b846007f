-- The verdict on two tables of a fabric.
use Rattle.std.specs.Prelude.{◌≡◌, ◌≢◌, ◌<◌, ◌≤◌, ◌+◌, ◌%◌, ℕ, List, Some, length, map, slice_get}
use Rattle.common_graph.specs.Cycles.{AreRanks, HasNoCycle, IsCycle, IsLeastCycle}
use Rattle.fabric_tables.specs.Cells.{TablesOf}
use Rattle.fabric_model.specs.declared.node.Spot.{Spot}
use Rattle.fabric_model.specs.Fabric.{FabricOf, switch_count}
use Rattle.fabric_routes.specs.declared.hop.Hop.TheVariants.{On}
use Rattle.fabric_routes.specs.Counting.{IsCountOf}
use Rattle.fabric_routes.specs.Found.{IsChannel, channel_of}
use Rattle.fabric_routes.specs.Routes.{Channel, hop}
use Rattle.fabric_verdict.specs.Verdict.{channel_cmp, rank_in}
use Rattle.fabric_mixtures.specs.declared.turn.By.{By}
use Rattle.fabric_mixtures.specs.declared.turn.By.TheVariants.{Old, New, Both}
use Rattle.fabric_mixtures.specs.declared.turn.Turn.{Turn}
use Rattle.fabric_mixtures.specs.declared.looped.Looped.{Looped}
use Rattle.fabric_mixtures.specs.declared.looped.Looped.TheVariants as looped
use Rattle.fabric_mixtures.specs.declared.judge.LoopChannel.{LoopChannel}
use Rattle.fabric_mixtures.specs.declared.judge.Judgement.{Judgement}
use Rattle.fabric_mixtures.specs.declared.judge.Verdict.{Verdict}
use Rattle.fabric_mixtures.specs.declared.judge.Verdict.TheVariants.{Ranks, Cycle}
use Rattle.fabric_mixtures.specs.Mixtures.{MayBeFollowed, MayTakeBoth}

-- of two tables, the old and the new, by which something is so
abbrev pub IsBy : (by_old by_new : Type 0) → By → Type 0
IsBy by_old by_new Old = by_old × (by_new → ⊥)
IsBy by_old by_new New = (by_old → ⊥) × by_new
IsBy by_old by_new Both = by_old × by_new

-- a switch sends what goes to a LID out of a port, to whichever switch
abbrev pub GoesBy : FabricOf → TablesOf → (lid : ℕ) → Channel → Type 0
GoesBy fabric tables lid channel = (after : ℕ) × (hop fabric tables channel.switch lid ≡ On channel.port after)

-- what goes to a LID may take a channel and then another one, each by these tables
pub record IsTurn (fabric : FabricOf) (old new : TablesOf) (channel next : Channel) (turn : Turn) : Type 0 where
  pub by :
      IsBy (hop fabric old channel.switch turn.lid ≡ On channel.port next.switch)
      (hop fabric new channel.switch turn.lid ≡ On channel.port next.switch) turn.by
  pub next_by : IsBy (GoesBy fabric old turn.lid next) (GoesBy fabric new turn.lid next) turn.next_by

-- such a turn, of the least LID for which the second channel may follow the first
pub record IsLeastTurn (fabric : FabricOf) (old new : TablesOf) (channel next : Channel) (turn : Turn) : Type 0 where
  pub turns : IsTurn fabric old new channel next turn
  pub least : (lid : ℕ) → MayTakeBoth fabric old new lid channel next → turn.lid ≤ lid

abbrev pub spots_in : List LoopChannel → List Spot
spots_in = map (λ one. one.channel)

-- of channels, each with the next one of a list, and the last of the list with its first, the least LID is told
abbrev pub AreTurns : FabricOf → (old new : TablesOf) → List Spot → List LoopChannel → Type 0
AreTurns fabric old new spots found =
    (place : ℕ) (one : LoopChannel) (next : Spot) → slice_get found place ≡ Some one
    → slice_get spots ((place + 1) % length spots) ≡ Some next
    → IsLeastTurn fabric old new (channel_of one.channel) (channel_of next) one.turn

-- no channels that may follow one another lead round, and these are the ranks of the channels
pub record HasRanks (fabric : FabricOf) (old new : TablesOf) (ranks : List ℕ) : Type 0 where
  pub no_cycle : HasNoCycle (MayBeFollowed fabric old new)
  pub ranked : AreRanks (IsChannel fabric) (MayBeFollowed fabric old new) (rank_in fabric ranks)

-- the least cycle of channels of which each may be followed by the next
pub record CycleIs (fabric : FabricOf) (old new : TablesOf) (found : List LoopChannel) : Type 0 where
  pub least : IsLeastCycle channel_cmp (MayBeFollowed fabric old new) (map channel_of (spots_in found))
  pub turns : AreTurns fabric old new (spots_in found) found

-- by some tables alone channels that may follow one another lead round, or none do
abbrev pub HasLoop : FabricOf → TablesOf → Type 0
HasLoop fabric tables =
    (channel : Channel) × (rest : List Channel) × IsCycle (MayBeFollowed fabric tables tables) channel rest

abbrev pub HasNoLoop : FabricOf → TablesOf → Type 0
HasNoLoop fabric tables = HasNoCycle (MayBeFollowed fabric tables tables)

-- which of two tables have a loop by them alone; where neither has, only tables with rows of both may have one
abbrev pub IsLooped : FabricOf → (old new : TablesOf) → Looped → Type 0
IsLooped fabric old new looped.Old = HasLoop fabric old × HasNoLoop fabric new
IsLooped fabric old new looped.New = HasNoLoop fabric old × HasLoop fabric new
IsLooped fabric old new looped.Both = HasLoop fabric old × HasLoop fabric new
IsLooped fabric old new looped.Mixture = HasNoLoop fabric old × HasNoLoop fabric new

-- the ranks of the channels; or the least cycle, and which of the tables have a loop
abbrev pub IsVerdict : FabricOf → (old new : TablesOf) → Verdict → Type 0
IsVerdict fabric old new (Ranks ranks) = HasRanks fabric old new ranks.items
IsVerdict fabric old new (Cycle channels looped) =
    CycleIs fabric old new channels.items × IsLooped fabric old new looped

-- two channels, of which the first may be followed by the second
abbrev pub IsFollowed : FabricOf → (old new : TablesOf) → Channel × Channel → Type 0
IsFollowed fabric old new pair = MayBeFollowed fabric old new pair.0 pair.1

-- the verdict, and how many pairs of channels may follow one another
pub record IsJudgement (fabric : FabricOf) (old new : TablesOf) (judged : Judgement) : Type 0 where
  pub verdict : IsVerdict fabric old new judged.verdict
  pub dependencies : IsCountOf (IsFollowed fabric old new) judged.dependencies

-- a row that is changed: a switch, and a LID, whoever owns it, for which the tables have not the same entry
pub record IsChanged (fabric : FabricOf) (old new : TablesOf) (row : ℕ × ℕ) : Type 0 where
  pub switch : row.0 < switch_count fabric
  pub differs : old row.0 row.1 ≢ new row.0 row.1
