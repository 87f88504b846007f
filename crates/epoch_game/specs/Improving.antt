-- How positions change in a run: they only fall, and none returns.

use Rattle.std.specs.Prelude.{◌≡◌, ◌≢◌, ◌+◌, ◌≤◌, ℕ, suc, List, Some, length, AllPairs, Contains}
use Rattle.an_base.specs.Values.{LifeId, Place, PosOf}
use Rattle.epoch_core.specs.Log.{Log, on_port, last_pos}
use Rattle.epoch_core.specs.Epoch.{version, position}
use Rattle.epoch_core.specs.Laws.{IsAtMost}
use Rattle.epoch_game.specs.Slice.{Earlier, Node, Slice, Names}

-- `life` had the root `root_life` at some point in time, at the level `most` or a lower one
pub record Had (state : Slice) (root_life : LifeId) (most : ℕ) (life : LifeId) : Type 0 where
  pub node : Node
  pub joined : state life ≡ Some node
  pub moment : Log
  pub earlier : Earlier moment node.log
  pub root : (position node.card moment).root ≡ root_life
  pub level : (position node.card moment).level ≤ most

-- `place.level` + 1 lives have had the root of `place`, each at its level or a lower one
pub record IsShared (state : Slice) (place : Place) : Type 0 where
  pub lives : List LifeId
  pub apart : AllPairs (λ one another. one ≢ another) lives
  pub count : length lives ≡ suc place.level
  pub had : (life : LifeId) → Contains lives life → Had state place.root place.level life

-- the place that a neighbour's position gives behind the link to it at a port, whatever its level
abbrev pub behind_link : PosOf → LifeId → ℕ → Place
behind_link told other port = record { root = told.root; level = told.level + 1; parent = other; port = port }

-- What holds of the positions of each life that has joined, at every point in time:
pub record OnlyImproves (state : Slice) : Type 0 where
  -- a later position is no higher
  pub improving : (life : LifeId) (node : Node) (before after : Log) → state life ≡ Some node
      → Earlier before after → Earlier after node.log
      → IsAtMost (position node.card after) (position node.card before)
  -- no position is above what the last offer on a link gives: the bound on levels excludes no candidate that would
  -- be the least
  pub uncut : (life : LifeId) (node : Node) (moment : Log) (port : ℕ) (other : LifeId) (other_port : ℕ)
      (told : PosOf) → state life ≡ Some node
      → Earlier moment node.log
      → Names node.card port other other_port → last_pos (on_port port moment) ≡ Some told
      → IsAtMost (position node.card moment) (behind_link told other port)
  -- a later version has no higher position
  pub later : (life : LifeId) (node : Node) (moment another : Log) → state life ≡ Some node
      → Earlier moment node.log → Earlier another node.log
      → version node.card moment ≤ version node.card another
      → IsAtMost (position node.card another) (position node.card moment)
  -- a position never returns
  pub once : (life : LifeId) (node : Node) (moment another : Log) → state life ≡ Some node
      → Earlier moment node.log → Earlier another node.log
      → position node.card moment ≡ position node.card another
      → version node.card moment ≡ version node.card another
  -- as many lives as its level says came before the life at its root
  pub shared : (life : LifeId) (node : Node) (moment : Log) → state life ≡ Some node → Earlier moment node.log
      → IsShared state (position node.card moment)
