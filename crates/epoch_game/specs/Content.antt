-- What the reports of stable lives contain.

use Rattle.std.specs.Prelude.{◌≡◌, ℕ, Some, true, Contains}
use Rattle.an_base.specs.Values.{LifeId, EntryOf}
use Rattle.an_base.specs.Order.{LivesRise}
use Rattle.epoch_core.specs.Log.{Log}
use Rattle.epoch_core.specs.Epoch.{version, position, is_stable, own_entry, report}
use Rattle.epoch_game.specs.Slice.{Earlier, Node, Slice, Names}

-- `entry` is that of a life at some point in time, when its root was `root_life`
pub record WasEntry (state : Slice) (root_life : LifeId) (entry : EntryOf) : Type 0 where
  pub life : LifeId
  pub node : Node
  pub joined : state life ≡ Some node
  pub moment : Log
  pub earlier : Earlier moment node.log
  pub is : entry ≡ own_entry node.card moment
  pub root : (position node.card moment).root ≡ root_life

-- the present positions lead from one life to the other, from parent to parent
pub data LeadsTo (state : Slice) : LifeId → LifeId → Type 0 where
  here : (life : LifeId) → LeadsTo state life life
  via : (parent child start : LifeId) (parent_port : ℕ) (node : Node) → state child ≡ Some node
      → Names node.card (position node.card node.log).port parent parent_port
      → LeadsTo state child start
      → LeadsTo state parent start

-- What holds of the reports of a life that has joined, whenever it is stable:
pub record ReportsAreTrue (state : Slice) : Type 0 where
  -- the lives of a report ascend
  pub rising : (life : LifeId) (node : Node) (moment : Log) → state life ≡ Some node → Earlier moment node.log
      → is_stable node.card moment ≡ true
      → LivesRise (report node.card moment)
  -- the report has the life's own entry
  pub own : (life : LifeId) (node : Node) (moment : Log) → state life ≡ Some node → Earlier moment node.log
      → is_stable node.card moment ≡ true
      → Contains (report node.card moment) (own_entry node.card moment)
  -- each entry of the report is one that its life had, under the root of the reporting life
  pub had : (life : LifeId) (node : Node) (moment : Log) (entry : EntryOf) → state life ≡ Some node
      → Earlier moment node.log
      → is_stable node.card moment ≡ true
      → Contains (report node.card moment) entry → WasEntry state (position node.card moment).root entry
  -- a report of the present version has the present entry of each life whose positions lead to the reporting life
  pub below : (life : LifeId) (node : Node) (moment : Log) (other : LifeId) (other_node : Node)
      → state life ≡ Some node → Earlier moment node.log
      → is_stable node.card moment ≡ true → version node.card moment ≡ version node.card node.log
      → LeadsTo state life other → state other ≡ Some other_node
      → Contains (report node.card moment) (own_entry other_node.card other_node.log)
