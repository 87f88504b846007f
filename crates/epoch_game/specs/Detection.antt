-- What holds once a life is stable with itself as root: each life that is reached has its place in the tree
-- of shortest walks for good, and the report of the root says exactly that.

use Rattle.std.specs.Prelude.{◌≡◌, ◌≢◌, ◌+◌, ◌≤◌, ◌↔◌, ℕ, zero, suc, List, Some, true, IsTrue, Contains}
use Rattle.std.specs.Ordering.{is_le}
use Rattle.an_base.specs.Values.{LifeId, Place, EntryOf, TopoOf}
use Rattle.an_base.specs.Order.{life_cmp, LivesRise}
use Rattle.an_base.specs.declared.body.Body.TheVariants.{Topo}
use Rattle.epoch_core.specs.Log.{Log}
use Rattle.epoch_core.specs.Epoch.{version, position, is_stable, own_entry, report, topology_of, sent}
use Rattle.epoch_game.specs.Slice.{Earlier, Node, Slice, Names, Run}
use Rattle.epoch_game.specs.Leaving.{WasStableRoot}

-- `from`, and the lives that are reached from it by walks on which each life names the next one among its links
pub data Reached (state : Slice) (from : LifeId) : LifeId → Type 0 where
  start : Reached state from from
  next : (life other : LifeId) (port other_port : ℕ) (node : Node) → Reached state from life
      → state life ≡ Some node → Names node.card port other other_port
      → Reached state from other

-- `life` has joined, and its port `own_port` leads to `other`
pub record IsNextTo (state : Slice) (life : LifeId) (own_port : ℕ) (other : LifeId) : Type 0 where
  pub node : Node
  pub joined : state life ≡ Some node
  pub port : ℕ
  pub named : Names node.card own_port other port

-- a walk of n links from one life to another
abbrev pub WalkTo : Slice → ℕ → LifeId → LifeId → Type 0
WalkTo state zero from to = from ≡ to
WalkTo state (suc links) from to =
    (port : ℕ) × (neighbour : LifeId) × IsNextTo state from port neighbour × WalkTo state links neighbour to

-- a shortest walk from `from` to `to` has `links` links
pub record IsDistance (state : Slice) (from to : LifeId) (links : ℕ) : Type 0 where
  pub walk : WalkTo state links from to
  pub least : (walked : ℕ) → WalkTo state walked from to → links ≤ walked

-- `other`, to which `own_port` of `life` leads, is one link nearer to the root than `life` at `own_level`
pub record IsNearer (state : Slice) (root_life life : LifeId) (own_level own_port : ℕ) (other : LifeId)
    : Type 0 where
  pub next : IsNextTo state life own_port other
  pub far : ℕ
  pub distance : IsDistance state other root_life far
  pub level : far + 1 ≡ own_level

-- `place` is that of `life` in the tree of shortest walks to the root: below the root the parent is the least of
-- the neighbours that are one link nearer, by the lowest port to it
pub record IsTreePlace (state : Slice) (root_life life : LifeId) (place : Place) : Type 0 where
  pub root : place.root ≡ root_life
  pub level : IsDistance state life root_life place.level
  pub at_root : life ≡ root_life → (place.parent ≡ root_life) × (place.port ≡ 0)
  pub parent : life ≢ root_life → IsNearer state root_life life place.level place.port place.parent
  pub least : (port : ℕ) (other : LifeId) → life ≢ root_life
      → IsNearer state root_life life place.level port other
      → IsTrue (is_le (life_cmp place.parent other)) × (place.parent ≡ other → place.port ≤ port)

-- `other` has joined and names `port` of `life` at its own `other_port`
pub record IsNamedBack (state : Slice) (life : LifeId) (other : LifeId) (port other_port : ℕ) : Type 0 where
  pub node : Node
  pub joined : state other ≡ Some node
  pub named : Names node.card other_port life port

-- `life` has joined, and each of its links is named at both ends
pub record IsJoined (state : Slice) (life : LifeId) : Type 0 where
  pub node : Node
  pub joined : state life ≡ Some node
  pub links : (port : ℕ) (other : LifeId) (other_port : ℕ) → Names node.card port other other_port
      → IsNamedBack state life other port other_port

-- `life` has its place in the tree, and keeps it
pub record IsSettled (lives : List LifeId) (state : Slice) (root_life life : LifeId) (node : Node)
    : Type 0 where
  pub place : IsTreePlace state root_life life (position node.card node.log)
  pub stable : is_stable node.card node.log ≡ true
  pub version : (later : Slice) (later_node : Node) → Run lives state later → later life ≡ Some later_node
      → version later_node.card later_node.log ≡ version node.card node.log
  pub stays : (later : Slice) (later_node : Node) → Run lives state later → later life ≡ Some later_node
      → position later_node.card later_node.log ≡ position node.card node.log

-- `entry` is the present one of a life that is reached from `from`
pub record IsMemberEntry (state : Slice) (from : LifeId) (entry : EntryOf) : Type 0 where
  pub life : LifeId
  pub node : Node
  pub reached : Reached state from life
  pub joined : state life ≡ Some node
  pub is : entry ≡ own_entry node.card node.log

-- What holds if `root_life` was stable at some point in time with itself as root:
pub record IsDetected (lives : List LifeId) (state : Slice) (root_life : LifeId) : Type 0 where
  -- each life that is reached from it has joined, and each of its links is named at both ends
  pub joined : (life : LifeId) → Reached state root_life life → IsJoined state life
  -- the root is the least of these lives
  pub least : (life : LifeId) → Reached state root_life life → IsTrue (is_le (life_cmp root_life life))
  -- each has its place in the tree, is stable, and neither place nor version ever changes again
  pub settled : (life : LifeId) (node : Node) → Reached state root_life life → state life ≡ Some node
      → IsSettled lives state root_life life node
  -- later, the same lives are reached
  pub members : (later : Slice) (life : LifeId) → Run lives state later
      → (Reached later root_life life) ↔ (Reached state root_life life)
  -- the root's report, whenever it was stable, has the entry of each of these lives and no other, in ascending
  -- order of life
  pub entries : (root_node : Node) (moment : Log) → state root_life ≡ Some root_node
      → Earlier moment root_node.log → is_stable root_node.card moment ≡ true
      → (entry : EntryOf)
      → (Contains (report root_node.card moment) entry) ↔ (IsMemberEntry state root_life entry)
  pub rising : (root_node : Node) (moment : Log) → state root_life ≡ Some root_node
      → Earlier moment root_node.log → is_stable root_node.card moment ≡ true
      → LivesRise (report root_node.card moment)
  -- each topology that one of these lives has accepted, or that was sent to it, is that report with its numbering
  pub accepted : (life : LifeId) (node : Node) (port : ℕ) (topology : TopoOf) (root_node : Node)
      (moment : Log) → Reached state root_life life
      → state life ≡ Some node
      → Contains node.log (record { port = port; body = Topo topology })
      → state root_life ≡ Some root_node → Earlier moment root_node.log
      → is_stable root_node.card moment ≡ true → topology ≡ topology_of (report root_node.card moment)
  pub sent : (life other : LifeId) (node other_node : Node) (port other_port : ℕ) (topology : TopoOf)
      (root_node : Node) (moment : Log) → Reached state root_life life
      → state life ≡ Some node
      → Names node.card port other other_port → state other ≡ Some other_node
      → Contains (sent other_node.card other_port other_node.log) (Topo topology)
      → state root_life ≡ Some root_node → Earlier moment root_node.log
      → is_stable root_node.card moment ≡ true → topology ≡ topology_of (report root_node.card moment)

-- `life` has finished with the report of a life that was stable with itself as root and from which `life` is
-- reached; the entries are those of the lives that are reached from there
pub record FinishedUnder (state : Slice) (life : LifeId) (held : TopoOf) : Type 0 where
  pub root : LifeId
  pub was : WasStableRoot state root
  pub topology : held ≡ topology_of (report was.node.card was.moment)
  pub reached : Reached state root life
  pub entries : (entry : EntryOf) → (Contains held.entries entry) ↔ (IsMemberEntry state root entry)
