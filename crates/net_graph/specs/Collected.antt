use Rattle.std.specs.Prelude.{◌≡◌, ℕ, ◌+◌, ◌<◌, ◌≤◌, List, Option, Some, length, All, Any}
use Rattle.an_base.specs.Values.{EntryOf}
use Rattle.an_base.specs.Order.{LivesRise}
use Rattle.net_graph.specs.Wires.{Wires, uid_of}
use Rattle.net_graph.specs.Levels.{level_at}
use Rattle.net_graph.specs.Next.{left_count}
use Rattle.net_graph.specs.Forest.{IsEntry}

-- The entries of a component while they are collected in ascending order of identifier.

-- `entries` are the entries of the members whose identifiers are below `from`
pub record AreBelow (wires : Wires) (levels : List (Option ℕ)) (top from : ℕ)
    (entries : List EntryOf) : Type 0 where
  pub each :
      All (λ entry. (node : ℕ) × (node < length wires.switches) × IsEntry wires top node entry
      × (uid_of wires.switches node < from)) entries
  pub whole :
      (node level : ℕ) → node < length wires.switches → level_at levels node ≡ Some level
      → uid_of wires.switches node < from → Any (IsEntry wires top node) entries
  pub rising : LivesRise entries
  pub few : length entries + left_count wires levels from (length wires.switches) ≤ length wires.switches
