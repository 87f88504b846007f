-- The moves of the game of all epochs that the events of a history are.

use Rattle.std.specs.Prelude.{◌≡◌, ℕ, List, [], ◌∷◌, if◌then◌else◌}
use Rattle.an_base.specs.Values.{LifeId}
use Rattle.an_base.specs.declared.event.Event.{Event}
use Rattle.net_script.specs.Scripts.{ScriptOf}
use Rattle.epoch_game.specs.Game.{Game, begins, after_load as game_after_load}
use Rattle.switch_core.specs.Switch.{SwitchOf}
use Rattle.switch_core.specs.Steps.{clocked}
use Rattle.switch_game.specs.Network.{clock_moves, frame_moves}
use Rattle.net_world.specs.Acts.{Act, Starts, Clocks, Hears, HearsNothing, Loads}
use Rattle.net_world.specs.Heard.{ActAt, acts_of}
use Rattle.net_state.specs.Lawful.{is_lawful}
use Rattle.net_world.specs.World.{WorldOf, begun, step}
use Rattle.net_game.specs.Lives.{powered}

-- The moves of a switch by an act. Starting a next life is no move, and the life that is gone makes no further one,
-- because whatever a switch does later it does as its present life.
abbrev pub act_moves : Act → SwitchOf → Game → Game
act_moves (Starts next) switch game = game
act_moves (Clocks now samples) switch game =
    clock_moves switch.life switch (clocked now samples switch).switch game
act_moves (Hears port frame) switch game = frame_moves switch.life port frame switch game
act_moves HearsNothing switch game = game
act_moves (Loads number) switch game = game_after_load game switch.life

abbrev pub all_moves : List ActAt → (ℕ → SwitchOf) → Game → Game
all_moves [] switches game = game
all_moves (act ∷ acts) switches game =
    all_moves acts switches (act_moves act.act (switches act.place) game)

-- the moves of an event; an event that is not lawful, or lets no switch act, has none
abbrev pub event_moves : WorldOf → Event → Game → Game
event_moves world event game =
    if is_lawful world.fabric event then all_moves (acts_of world event) world.switches game else game

-- the game after the events of a world
abbrev pub moves_of : WorldOf → List Event → Game → Game
moves_of world [] game = game
moves_of world (event ∷ events) game = moves_of (step world event) events (event_moves world event game)

-- the game at first: each life is in the epoch of the script, and has not joined it
abbrev pub first_game : ScriptOf → Game
first_game script = begins (powered script).epoch

-- the game after a history
unfoldable pub game_after : ScriptOf → List Event → Game
game_after script history = moves_of (begun script) history (first_game script)

-- `life` made no move between two states of the game
pub record HasRested (life : LifeId) (game later : Game) : Type 0 where
  pub present : later.present life ≡ game.present life
  pub nodes : (epoch : ℕ) → later.nodes life epoch ≡ game.nodes life epoch
  pub loaded : (epoch : ℕ) → later.loaded life epoch ≡ game.loaded life epoch
