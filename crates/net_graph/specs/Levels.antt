use Rattle.std.specs.Prelude.{◌≡◌, ℕ, ◌+◌, ◌<◌, ◌≤◌, List, Option, Some, None, slice_index_or}
use Rattle.an_base.specs.Tree.{Network, Neighbours, Walk, IsDistance}
use Rattle.an_base.specs.declared.limits.TheConstants.{MOST_LEVEL}

-- The distances of nodes to a root, found round by round.

-- the level of `node`, if it has one so far
abbrev pub level_at : List (Option ℕ) → ℕ → Option ℕ
level_at levels node = slice_index_or levels node None

-- some neighbour of `node` has the level `level`
abbrev pub HasNeighbourAt : Network → List (Option ℕ) → (level node : ℕ) → Type 0
HasNeighbourAt network levels level node =
    (other : ℕ) × Neighbours network node other × (level_at levels other ≡ Some level)

-- every node without a level that has a neighbour at `level` gets the level `level` + 1, and nothing else changes
pub record IsRound (network : Network) (old new : List (Option ℕ)) (level : ℕ) : Type 0 where
  pub kept :
      (node found_level : ℕ) → level_at old node ≡ Some found_level → level_at new node ≡ Some found_level
  pub added :
      (node found_level : ℕ) → level_at old node ≡ None → level_at new node ≡ Some found_level
      → (found_level ≡ level + 1) × HasNeighbourAt network old level node
  pub whole :
      (node : ℕ) → node < network.count → level_at new node ≡ None → HasNeighbourAt network old level node → ⊥

-- the levels are the distances to the root `top`, as far as these are at most `level`
pub record IsReached (network : Network) (top : ℕ) (levels : List (Option ℕ)) (level : ℕ) : Type 0 where
  pub found :
      (node found_level : ℕ) → level_at levels node ≡ Some found_level
      → IsDistance network node top found_level × (found_level ≤ level)
  pub beyond :
      (node steps : ℕ) → node < network.count → level_at levels node ≡ None → Walk network steps node top
      → level < steps

-- the levels are the distances to the root `top`, and a node without a level has no walk there
pub record AreDistances (network : Network) (top : ℕ) (levels : List (Option ℕ)) : Type 0 where
  pub found :
      (node found_level : ℕ) → level_at levels node ≡ Some found_level
      → IsDistance network node top found_level × (found_level ≤ MOST_LEVEL)
  pub none :
      (node steps : ℕ) → node < network.count → level_at levels node ≡ None → Walk network steps node top → ⊥

-- as `IsRound`, but only for the nodes below `end`
pub record IsRoundTo (network : Network) (old new : List (Option ℕ)) (level end : ℕ) : Type 0 where
  pub kept :
      (node found_level : ℕ) → level_at old node ≡ Some found_level → level_at new node ≡ Some found_level
  pub added :
      (node found_level : ℕ) → level_at old node ≡ None → level_at new node ≡ Some found_level
      → (found_level ≡ level + 1) × HasNeighbourAt network old level node
  pub later : (node : ℕ) → end ≤ node → level_at new node ≡ level_at old node
  pub whole : (node : ℕ) → node < end → level_at new node ≡ None → HasNeighbourAt network old level node → ⊥
