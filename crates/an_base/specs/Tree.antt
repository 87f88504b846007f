-- Networks, their walks and distances, and the place of a node in the tree of shortest walks to a root.
use Rattle.std.specs.Prelude.{◌≡◌, ◌≢◌, ℕ, zero, suc, ◌+◌, ◌<◌, ◌≤◌, Option, Some, IsTrue}
use Rattle.std.specs.Ordering.{is_le}
use Rattle.an_base.specs.Values.{LifeId, Place}
use Rattle.an_base.specs.Order.{life_cmp}

-- A network: the number of nodes, the life of each, and the far node and port that a port of a node leads to.
pub record Network : Type 0 where
  pub count : ℕ
  pub life : ℕ → LifeId
  pub far : ℕ → ℕ → Option (ℕ × ℕ)

-- some port of `node` leads to `other`
abbrev pub Neighbours : Network → ℕ → ℕ → Type 0
Neighbours network node other =
    (port : ℕ) × (far_port : ℕ) × (network.far node port ≡ Some (other, far_port))

-- a walk of n links from `from` to `to`
abbrev pub Walk : Network → ℕ → ℕ → ℕ → Type 0
Walk network zero from to = from ≡ to
Walk network (suc links) from to = (next : ℕ) × Neighbours network from next × Walk network links next to

-- a shortest walk from `from` to `to` has `links` links
pub record IsDistance (network : Network) (from to links : ℕ) : Type 0 where
  pub walk : Walk network links from to
  pub least : (others : ℕ) → Walk network others from to → links ≤ others

-- `other` is a neighbour of `node`, and its distance from `top` is one less than `distance`
pub record IsNearer (network : Network) (top node distance other : ℕ) : Type 0 where
  pub neighbour : Neighbours network node other
  pub nearer : (links : ℕ) × (links + 1 ≡ distance) × IsDistance network other top links

-- The parent in `place` is `above`, the least neighbour of `node` that is one link nearer to `top`, by the lowest port.
pub record IsBelowParent (network : Network) (top node above : ℕ) (place : Place) : Type 0 where
  pub parent : place.parent ≡ network.life above
  pub nearer : IsNearer network top node place.level above
  pub least :
      (other : ℕ) → IsNearer network top node place.level other
      → IsTrue (is_le (life_cmp (network.life above) (network.life other)))
  pub port : (far_port : ℕ) × (network.far node place.port ≡ Some (above, far_port))
  pub least_port :
      (own_port far_port : ℕ) → network.far node own_port ≡ Some (above, far_port)
      → place.port ≤ own_port

-- `place` is the place of `node` in the tree of shortest walks to `top`
pub record IsPlace (network : Network) (top node : ℕ) (place : Place) : Type 0 where
  pub root : place.root ≡ network.life top
  pub level : IsDistance network node top place.level
  pub at_root : node ≡ top → (place.parent ≡ network.life top) × (place.port ≡ 0)
  pub below : node ≢ top → (above : ℕ) × IsBelowParent network top node above place

-- every port that leads anywhere leads to a node of the network
abbrev pub IsClosed : Network → Type 0
IsClosed network =
    (node port other far_port : ℕ) → network.far node port ≡ Some (other, far_port)
    → other < network.count

-- no two nodes of the network have the same life
abbrev pub HasLivesApart : Network → Type 0
HasLivesApart network =
    (node other : ℕ) → node < network.count → other < network.count
    → network.life node ≡ network.life other → node ≡ other
