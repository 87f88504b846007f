use Rattle.std.specs.Prelude.{◌≡◌, ℕ, ◌<◌, ◌≤◌, List, Option, Some, None, length, All, AllPairs, Any}
use Rattle.an_base.specs.Values.{EntryOf}
use Rattle.an_base.specs.Tree.{Neighbours}
use Rattle.net_graph.specs.Wires.{Wires, uid_of, network}
use Rattle.net_graph.specs.Levels.{level_at}
use Rattle.net_graph.specs.Forest.{IsComponent, RootsBelow}

-- The components of a wiring while they are removed one by one.

-- `entries` are a component whose root has an identifier below `from`
abbrev pub IsTreeBelow : Wires → ℕ → List EntryOf → Type 0
IsTreeBelow wires from entries =
    (top : ℕ) × IsComponent wires top entries × (uid_of wires.switches top < from)

-- `node` has a mark
abbrev pub IsMarked : List (Option ℕ) → ℕ → Type 0
IsMarked marks node = (level : ℕ) × (level_at marks node ≡ Some level)

-- the marks `new` are `old` without the marks of the nodes below `end` that have a level
pub record IsWithout (old new levels : List (Option ℕ)) (end : ℕ) : Type 0 where
  pub gone : (node level : ℕ) → node < end → level_at levels node ≡ Some level → level_at new node ≡ None
  pub kept : (node : ℕ) → level_at levels node ≡ None → level_at new node ≡ level_at old node
  pub later : (node : ℕ) → end ≤ node → level_at new node ≡ level_at old node

-- `forest` has the components whose roots have identifiers below `from`, and the other switches are left.
pub record AreTrees (wires : Wires) (left : List (Option ℕ)) (from : ℕ)
    (forest : List (List EntryOf)) : Type 0 where
  pub trees : All (IsTreeBelow wires from) forest
  pub rising : AllPairs RootsBelow forest
  pub closed :
      (node other : ℕ) → Neighbours (network wires) node other → IsMarked left node → IsMarked left other
  pub whole :
      (node : ℕ) → node < length wires.switches → level_at left node ≡ None
      → Any (Any (λ entry. entry.life ≡ (network wires).life node)) forest
  pub above : (node level : ℕ) → level_at left node ≡ Some level → from ≤ uid_of wires.switches node
