-- Whether the position of an entry follows from its neighbours. Only private functions cite this.
use Rattle.std.specs.Prelude.{◌≡◌, ◌≢◌, ℕ, ◌+◌, ◌≤◌, List, Some}
use Rattle.an_base.specs.Values.{EntryOf, Place}
use Rattle.topo_graph.specs.Topology.{life_at, level_at, far_of}

-- The entry that `port` leads to is at most one level nearer than `here`. If it is one level nearer, it is not before
-- the parent `above`, and it is the parent only by a port of at least `place.port`.
abbrev pub IsAfter : List EntryOf → ℕ → ℕ → Place → ℕ → Type 0
IsAfter entries here above place port =
    (next came : ℕ) → far_of entries here port ≡ Some (next, came)
    → (place.level ≤ level_at entries next + 1)
    × (level_at entries next + 1 ≡ place.level → (above ≤ next) × (above ≡ next → place.port ≤ port))

-- `place` names the parent `above`: it is at `place.port`, one level nearer
pub record IsParent (entries : List EntryOf) (here above : ℕ) (place : Place) : Type 0 where
  pub port : (entry : ℕ) × (far_of entries here place.port ≡ Some (above, entry))
  pub level : level_at entries above + 1 ≡ place.level
  pub parent : place.parent ≡ life_at entries above

-- `place` names the parent `above`, and no port leads to an entry one level nearer that comes before it
pub record IsNextBelow (entries : List EntryOf) (here above : ℕ) (place : Place) : Type 0 where
  pub parent : IsParent entries here above place
  pub after : (port : ℕ) → IsAfter entries here above place port

-- the position `place` of the entry `here` follows from the stated levels of its neighbours
pub record Stands (entries : List EntryOf) (here : ℕ) (place : Place) : Type 0 where
  pub root : place.root ≡ life_at entries 0
  pub first : here ≡ 0 → (place.level ≡ 0) × (place.parent ≡ life_at entries 0) × (place.port ≡ 0)
  pub below : here ≢ 0 → (above : ℕ) × IsNextBelow entries here above place
