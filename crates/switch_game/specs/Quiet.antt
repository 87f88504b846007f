-- When a component of the network is quiet, and what has then been settled in it.

use Rattle.std.specs.Prelude.{◌≡◌, ◌≤◌, ◌↔◌, ℕ, List, Some, true, false, Contains}
use Rattle.an_base.specs.Values.{LifeId, EndId, EntryOf}
use Rattle.epoch_core.specs.Epoch.{own_entry}
use Rattle.epoch_game.specs.Detection.{Reached}
use Rattle.epoch_game.specs.Delivered.{HasEnded}
use Rattle.epoch_game.specs.Game.{Game, slice}
use Rattle.switch_core.specs.Switch.{finish_of, good_links, good_peer, is_unacked}
use Rattle.switch_game.specs.Network.{Network}

-- `from`, and the lives that are reached from it over good ports
pub data Connected (network : Network) (from : LifeId) : LifeId → Type 0 where
  start : Connected network from from
  next : (life other : LifeId) (port other_port : ℕ) → Connected network from life → 1 ≤ port → port ≤ 12
      → good_peer (network.switches life) port ≡ Some (record { life = other; port = other_port })
      → Connected network from other

-- The port of `far` is good, and its peer is `end`.
pub record IsGoodEnd (network : Network) (far end : EndId) : Type 0 where
  pub least : 1 ≤ far.port
  pub most : far.port ≤ 12
  pub good : good_peer (network.switches far.life) far.port ≡ Some end

-- The switch of `life` works and has joined an epoch; the far end of each good port is good too, and leads back;
-- and nothing that it sent waits or is unacknowledged.
pub record IsQuietLife (network : Network) (life : LifeId) : Type 0 where
  pub joined : (network.switches life).joined ≡ true
  pub working : (network.switches life).spent ≡ false
  pub linked : (port : ℕ) (far : EndId) → 1 ≤ port → port ≤ 12
      → good_peer (network.switches life) port ≡ Some far
      → IsGoodEnd network far (record { life = life; port = port })
  pub acknowledged : (port : ℕ) → 1 ≤ port → port ≤ 12
      → is_unacked ((network.switches life).sendings port) ≡ false

-- each life that is reached from a life over good ports is quiet
abbrev pub IsQuiet : Network → LifeId → Type 0
IsQuiet network life = (other : LifeId) → Connected network life other → IsQuietLife network other

-- `entry` is that of a life that is reached from `from`, with its good links
pub record IsEntryIn (network : Network) (from : LifeId) (entry : EntryOf) : Type 0 where
  pub life : LifeId
  pub connected : Connected network from life
  pub is : entry ≡ own_entry (network.switches life).card (network.switches life).log
  pub links : entry.links ≡ good_links (network.switches life)

-- What holds of `life` and the lives that are reached from it, in its epoch, which only `members` have joined:
pub record HasSettled (members : List LifeId) (network : Network) (game : Game) (life : LifeId) : Type 0 where
  -- these lives are those that the game reaches from `life` there
  pub reached : (other : LifeId)
      → (Reached (slice (network.switches life).epoch game) life other) ↔ (Connected network life other)
  -- all are in that epoch
  pub epoch : (other : LifeId) → Connected network life other
      → (network.switches other).epoch ≡ (network.switches life).epoch
  -- in that epoch one of them is stable with itself as root, so each has its place in the tree
  pub ended : HasEnded members (slice (network.switches life).epoch game) life
  -- each has finished with one topology, of exactly their entries
  pub finished : (other : LifeId) → Connected network life other
      → finish_of (network.switches other) ≡ Some ended.topology
  pub entries : (entry : EntryOf) → (Contains ended.topology.entries entry) ↔ (IsEntryIn network life entry)
  -- no load of a table is due at any of them
  pub loaded : (other : LifeId) → Connected network life other → (network.switches other).load_due ≡ false
      → game.loaded other (network.switches life).epoch ≡ true
