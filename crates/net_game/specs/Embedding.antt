-- A history of the world as a run of the network of all lives.

use Rattle.std.specs.Prelude.{◌≡◌, ◌<◌, ◌++◌, ℕ, List, length, Contains}
use Rattle.an_base.specs.Values.{LifeId}
use Rattle.an_base.specs.declared.event.Event.{Event}
use Rattle.an_base.specs.declared.frame.Frame.{Frame}
use Rattle.net_script.specs.Scripts.{ScriptOf}
use Rattle.switch_game.specs.Network.{Network, Happens, dark}
use Rattle.net_state.specs.Fabric.{life_of}
use Rattle.net_world.specs.World.{world_after, started_at}
use Rattle.net_world.specs.Heard.{WasSent}
use Rattle.net_game.specs.Lives.{powered}
use Rattle.net_game.specs.Moves.{first_game, game_after}

-- A network of all lives, which plays the game of a history, has the switches of its world: each present life is
-- the switch at its index, each future life is as it will be started; and every frame that was sent in the network
-- was sent in the world.
pub record IsIn (script : ScriptOf) (lives : List LifeId) (history : List Event)
    (network : Network) : Type 0 where
  pub happens : Happens lives (dark (powered script)) (first_game script) network (game_after script history)
  pub switches : (place : ℕ) → place < length script.wires.switches
      → network.switches ((world_after script history).switches place).life
      ≡ (world_after script history).switches place
  pub uid : (place : ℕ) → place < length script.wires.switches
      → ((world_after script history).switches place).life.uid ≡ (life_of script place 0).uid
  pub coming : (place boot : ℕ) → place < length script.wires.switches
      → ((world_after script history).switches place).life.boot < boot
      → network.switches (life_of script place boot) ≡ started_at script place boot
  pub was_sent : (frame : Frame) → Contains network.sent frame → WasSent script history frame

-- what the network was at an earlier point in time; the rest has happened since
pub record IsMoment (script : ScriptOf) (lives : List LifeId) (before history : List Event)
    (network : Network) : Type 0 where
  pub earlier : Network
  pub is_in : IsIn script lives before earlier
  pub since : Happens lives earlier (game_after script before) network (game_after script history)

-- a history of the world is a run of the network, at each point in time
pub record IsEmbedded (script : ScriptOf) (lives : List LifeId) (history : List Event) : Type 0 where
  pub network : Network
  pub is_in : IsIn script lives history network
  pub moments : (before later : List Event) → history ≡ before ++ later
      → IsMoment script lives before history network
