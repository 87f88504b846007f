-- When nothing is under way among the lives that are reached from a life, and what has then ended.

use Rattle.std.specs.Prelude.{◌≡◌, ◌↔◌, ℕ, List, Some, Contains}
use Rattle.an_base.specs.Values.{LifeId, EntryOf, TopoOf}
use Rattle.an_base.specs.Order.{LivesRise}
use Rattle.switch_numbering.specs.Numbering.{numbering}
use Rattle.epoch_core.specs.Log.{on_port}
use Rattle.epoch_core.specs.Epoch.{finish, sent}
use Rattle.epoch_game.specs.Slice.{Node, Slice, Names}
use Rattle.epoch_game.specs.Leaving.{WasStableRoot}
use Rattle.epoch_game.specs.Detection.{Reached, IsMemberEntry, IsDetected}

-- `other` has joined and names the port of `life` as the far end of its own, and `life` has accepted on it all that
-- `other` sent there
pub record AcceptedAllOf (state : Slice) (life : LifeId) (node : Node) (port : ℕ) (other : LifeId)
    (other_port : ℕ) : Type 0 where
  pub far : Node
  pub joined : state other ≡ Some far
  pub back : Names far.card other_port life port
  pub all : on_port port node.log ≡ sent far.card other_port far.log

-- `life` has joined, each of its links is named at both ends, and it has accepted all that was sent to it
pub record AcceptedAll (state : Slice) (life : LifeId) : Type 0 where
  pub node : Node
  pub joined : state life ≡ Some node
  pub links : (port : ℕ) (other : LifeId) (other_port : ℕ) → Names node.card port other other_port
      → AcceptedAllOf state life node port other other_port

-- nothing is under way among the lives that are reached from a life
abbrev pub IsDelivered : Slice → LifeId → Type 0
IsDelivered state life = (other : LifeId) → Reached state life other → AcceptedAll state other

-- What holds of the lives that are reached from `life` if nothing is under way among them:
pub record HasEnded (lives : List LifeId) (state : Slice) (life : LifeId) : Type 0 where
  -- one of them is stable with itself as root, so each is stable in its place in the tree of shortest walks to it
  pub root : LifeId
  pub was : WasStableRoot state root
  pub detected : IsDetected lives state root
  -- the same lives are reached from the root
  pub members : (other : LifeId) → (Reached state life other) ↔ (Reached state root other)
  -- each has finished, and all with one topology
  pub topology : TopoOf
  pub finished : (other : LifeId) (node : Node) → Reached state life other → state other ≡ Some node
      → finish node.card node.log ≡ Some topology
  -- the topology has the present entry of each of these lives and no other, in ascending order of life, and their
  -- numbering
  pub entries : (entry : EntryOf) → (Contains topology.entries entry) ↔ (IsMemberEntry state life entry)
  pub rising : LivesRise topology.entries
  pub numbers : topology.numbers ≡ numbering topology.entries
