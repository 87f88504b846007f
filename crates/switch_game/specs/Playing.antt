-- What the game has of a life and its switch, and what holds of the two ends of a link.

use Rattle.std.specs.Prelude.{◌≡◌, ◌&&◌, not, ℕ, ◌≤◌, length, Some, None, is_some, true, false}
use Rattle.an_base.specs.Values.{LifeId, EndId}
use Rattle.epoch_core.specs.Log.{on_port}
use Rattle.epoch_core.specs.Epoch.{sent}
use Rattle.epoch_game.specs.Slice.{Node, Names}
use Rattle.epoch_game.specs.Game.{Game}
use Rattle.switch_core.specs.Switch.{SwitchOf, finish_of, good_peer, is_unacked}

-- the card and the list of a switch that has joined its epoch
abbrev pub node_of : SwitchOf → Node
node_of switch = record { card = switch.card; log = switch.log }

-- The game has of `life` what `switch` has: its epoch, its node there once it has joined, and whether it has loaded
-- since. A load is due if and only if the life has finished and has not loaded.
pub record Agrees (life : LifeId) (switch : SwitchOf) (game : Game) : Type 0 where
  pub present : game.present life ≡ switch.epoch
  pub joined : switch.joined ≡ true → game.nodes life switch.epoch ≡ Some (node_of switch)
  pub unjoined : (epoch : ℕ) → switch.joined ≡ false → game.nodes life epoch ≡ None
  pub load_due : switch.load_due ≡ (is_some (finish_of switch) && not (game.loaded life switch.epoch))

-- The far end of the link at `port` has joined the epoch of `switch`, and names the link. It can have left the
-- epoch since.
pub record FarHasJoined (game : Game) (life : LifeId) (port : ℕ) (switch : SwitchOf) (far : EndId)
    : Type 0 where
  pub node : Node
  pub joined : game.nodes far.life switch.epoch ≡ Some node
  pub not_behind : switch.epoch ≤ game.present far.life
  pub named : Names switch.card port far.life far.port
  pub back : Names node.card far.port life port

-- the far end has joined the epoch, and has accepted all that `life` sent on the link
pub record FarHasAll (game : Game) (life : LifeId) (port : ℕ) (switch : SwitchOf) (far : EndId) : Type 0 where
  pub end : FarHasJoined game life port switch far
  pub accepted : on_port far.port end.node.log ≡ sent switch.card port switch.log

-- the far end has joined the epoch, and has accepted at least as many bodies as are acknowledged
pub record FarHasSome (game : Game) (life : LifeId) (port : ℕ) (switch : SwitchOf) (far : EndId)
    : Type 0 where
  pub end : FarHasJoined game life port switch far
  pub accepted : (switch.sendings port).acked ≤ length (on_port far.port end.node.log)

-- Each of two ends is the good peer of the other, and has nothing waiting or unacknowledged there.
pub record IsQuietLink (switch other : SwitchOf) (port other_port : ℕ) : Type 0 where
  pub there : good_peer switch port ≡ Some (record { life = other.life; port = other_port })
  pub back : good_peer other other_port ≡ Some (record { life = switch.life; port = port })
  pub acknowledged : is_unacked (switch.sendings port) ≡ false
  pub acknowledged_back : is_unacked (other.sendings other_port) ≡ false

-- Both are in one epoch, have joined it with this link, and each has accepted what the other sent on it.
pub record IsSettledLink (switch other : SwitchOf) (port other_port : ℕ) : Type 0 where
  pub joined : switch.joined ≡ true
  pub joined_back : other.joined ≡ true
  pub epoch : switch.epoch ≡ other.epoch
  pub named : Names switch.card port other.life other_port
  pub named_back : Names other.card other_port switch.life port
  pub accepted : on_port other_port other.log ≡ sent switch.card port switch.log
  pub accepted_back : on_port port switch.log ≡ sent other.card other_port other.log

-- What `life` did in `epoch` has stayed.
pub record HasStayed (life : LifeId) (epoch : ℕ) (game later : Game) : Type 0 where
  pub node : later.nodes life epoch ≡ game.nodes life epoch
  pub loaded : later.loaded life epoch ≡ game.loaded life epoch
