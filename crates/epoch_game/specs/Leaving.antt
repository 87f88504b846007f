-- Which lives leave a root, and that nobody leaves one that was stable.

use Rattle.std.specs.Prelude.{◌≡◌, ◌≢◌, ℕ, ◌<◌, Some, true, false}
use Rattle.an_base.specs.Values.{LifeId}
use Rattle.an_base.specs.Order.{IsBelow}
use Rattle.epoch_core.specs.Log.{Log}
use Rattle.epoch_core.specs.Epoch.{version, position, is_stable}
use Rattle.epoch_game.specs.Slice.{Earlier, Node, Slice}

-- `root_life` was stable at some point in time, with itself as root
pub record WasStableRoot (state : Slice) (root_life : LifeId) : Type 0 where
  pub node : Node
  pub joined : state root_life ≡ Some node
  pub moment : Log
  pub earlier : Earlier moment node.log
  pub stable : is_stable node.card moment ≡ true
  pub root : (position node.card moment).root ≡ root_life

-- the root of `node` is `root_life` now, and `node` is stable
pub record IsStableUnder (root_life : LifeId) (node : Node) : Type 0 where
  pub root : (position node.card node.log).root ≡ root_life
  pub stable : is_stable node.card node.log ≡ true

-- `last` is the last point in time at which `life` had the root `root_life`
pub record HadLast (state : Slice) (root_life life : LifeId) (node : Node) (last : Log) : Type 0 where
  pub joined : state life ≡ Some node
  pub earlier : Earlier last node.log
  pub root : (position node.card last).root ≡ root_life
  pub most : (moment : Log) → Earlier moment node.log → (position node.card moment).root ≡ root_life
      → Earlier moment last

-- some life had `root_life` last at a level below `level`, and was not stable then
pub record IsUnstableAbove (state : Slice) (root_life : LifeId) (level : ℕ) : Type 0 where
  pub life : LifeId
  pub node : Node
  pub last : Log
  pub had : HadLast state root_life life node last
  pub above : (position node.card last).level < level
  pub unstable : is_stable node.card last ≡ false

-- `life` had `root_life` up to some last point in time, and has a lower root now
pub record HasLeft (state : Slice) (root_life life : LifeId) : Type 0 where
  pub node : Node
  pub joined : state life ≡ Some node
  pub last : Log
  pub earlier : Earlier last node.log
  pub root : (position node.card last).root ≡ root_life
  pub most : (moment : Log) → Earlier moment node.log → (position node.card moment).root ≡ root_life
      → Earlier moment last
  pub left : IsBelow (position node.card node.log).root root_life

-- some life that has left `root_life` was not stable when it had that root last
pub record LeftUnstable (state : Slice) (root_life : LifeId) : Type 0 where
  pub life : LifeId
  pub leaver : HasLeft state root_life life
  pub unstable : is_stable leaver.node.card leaver.last ≡ false

-- What holds of stable lives in a state of an epoch:
pub record NobodyLeaves (state : Slice) : Type 0 where
  -- once stable, a life stays stable while its version stays
  pub lasting : (life : LifeId) (node : Node) (before after : Log) → state life ≡ Some node
      → Earlier before after → Earlier after node.log
      → version node.card before ≡ version node.card after → is_stable node.card before ≡ true
      → is_stable node.card after ≡ true
  -- if a life was not stable when it had another life as root last, then neither was some life above it
  pub upward : (root_life life : LifeId) (node : Node) (last : Log) → life ≢ root_life
      → HadLast state root_life life node last
      → is_stable node.card last ≡ false → IsUnstableAbove state root_life (position node.card last).level
  -- if some life has left a root, then some life that left it was never stable in its last version with it
  pub never_stable : (root_life life : LifeId) → HasLeft state root_life life → LeftUnstable state root_life
  -- a life that had a root which was once stable with itself as root has that root still, and is stable
  pub stays : (root_life life : LifeId) (node : Node) (moment : Log) → WasStableRoot state root_life
      → state life ≡ Some node → Earlier moment node.log
      → (position node.card moment).root ≡ root_life → IsStableUnder root_life node
