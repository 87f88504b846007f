-- Pairs that are not joined. Only private functions cite this.
use Rattle.std.specs.Prelude.{◌≡◌, ◌≢◌, ◌<◌, ◌≤◌, ℕ, List, length, Option, Some, None, Bool, Contains, IsTrue}
use Rattle.std.specs.Ordering.{is_le}
use Rattle.an_base.specs.Rows.{RowOf}
use Rattle.dep_check.specs.declared.channel.Channel.{Channel}
use Rattle.dep_check.specs.declared.steps.Steps.{Steps}
use Rattle.dep_check.specs.declared.gap.Pair.{Pair}
use Rattle.common_graph.specs.Cycles.{Walk}
use Rattle.dep_check.specs.Channels.{channel_cmp}
use Rattle.dep_check.specs.Packets.{MeetsGap}
use Rattle.dep_check.specs.Tables.{IsSpot}
use Rattle.dep_check.specs.Search.{IsStuck, Step}
use Rattle.dep_check.specs.Walks.{IsClear}

-- some packets from the spot `start` get stuck at the spot `end`
abbrev pub GetsStuck : Steps → Channel → Channel → Type 0
GetsStuck steps start end = (distance : ℕ) × Walk (Step steps) distance start end × IsStuck steps end

-- `from` is a switch of the topology, other than the target `to`, and some packets from its port 0 get stuck
pub record IsStuckFrom (numbers : List ℕ) (steps : Steps) (to from : ℕ) : Type 0 where
  pub from_in : Contains numbers from
  pub apart : from ≢ to
  pub end : Channel
  pub gets : GetsStuck steps (record { at = from; port = 0 }) end

-- no packets from `from` get stuck, and the spots seen, with a flag for each of the 1,651, are still clear
pub record StaysClear (numbers : List ℕ) (steps : Steps) (to from : ℕ) (seen : List Bool) : Type 0 where
  pub count : length seen ≡ 1651
  pub clear : IsClear steps seen
  pub none : IsStuckFrom numbers steps to from → ⊥

-- the lowest switch below `end` from which packets get stuck, or None if there is none
abbrev pub FirstStuck : List ℕ → Steps → ℕ → ℕ → Option ℕ → Type 0
FirstStuck numbers steps to end None = (other : ℕ) → other < end → IsStuckFrom numbers steps to other → ⊥
FirstStuck numbers steps to end (Some from) =
    (from < end) × IsStuckFrom numbers steps to from
    × ((other : ℕ) → other < end → IsStuckFrom numbers steps to other → from ≤ other)

-- `from` and `to` are two different switches of the topology that are not joined
pub record IsParted (far : Channel → Option Channel) (numbers : List ℕ) (rows : List RowOf) (from to : ℕ)
    : Type 0 where
  pub from_in : Contains numbers from
  pub to_in : Contains numbers to
  pub apart : from ≢ to
  pub end : Channel
  pub meets : MeetsGap far rows from to end

-- the lowest switch that is not joined to the target `to`, or None if there is none
abbrev pub FirstOf : (Channel → Option Channel) → List ℕ → List RowOf → ℕ → Option ℕ → Type 0
FirstOf far numbers rows to None = (other : ℕ) → IsParted far numbers rows other to → ⊥
FirstOf far numbers rows to (Some from) =
    IsParted far numbers rows from to × ((other : ℕ) → IsParted far numbers rows other to → from ≤ other)

-- the pair `from`, `to` is not after the pair `other_from`, `other_to`
abbrev pub IsPairUpTo : ℕ → ℕ → ℕ → ℕ → Type 0
IsPairUpTo from to other_from other_to = (from ≤ other_from) × (from ≡ other_from → to ≤ other_to)

-- `pair` is the least pair that is not joined and whose target is below `end`
pub record IsLeastParted (far : Channel → Option Channel) (numbers : List ℕ) (rows : List RowOf) (end : ℕ)
    (pair : Pair) : Type 0 where
  pub parted : IsParted far numbers rows pair.from pair.to
  pub below : pair.to < end
  pub least : (from to : ℕ) → to < end → IsParted far numbers rows from to
      → IsPairUpTo pair.from pair.to from to

abbrev pub IsLeastPair : (Channel → Option Channel) → List ℕ → List RowOf → ℕ → Option Pair → Type 0
IsLeastPair far numbers rows end None = (from to : ℕ) → to < end → IsParted far numbers rows from to → ⊥
IsLeastPair far numbers rows end (Some pair) = IsLeastParted far numbers rows end pair

-- the least spot where packets from `start` get stuck, or None if there is none
abbrev pub IsLeastEnd : Steps → Channel → Option Channel → Type 0
IsLeastEnd steps start None = (other : Channel) → IsSpot other → GetsStuck steps start other → ⊥
IsLeastEnd steps start (Some end) =
    IsSpot end × GetsStuck steps start end
    × ((other : Channel) → IsSpot other → GetsStuck steps start other
    → IsTrue (is_le (channel_cmp end other)))
