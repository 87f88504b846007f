-- The moves of a history are a run of the game.

use Rattle.std.specs.Prelude.{◌<◌, ◌++◌, ℕ, List, refl}
use Rattle.std.proofs.Common.{subst}
use Rattle.an_base.specs.declared.event.Event.{Event}
use Rattle.net_script.specs.Scripts.{ScriptOf, IsScript}
use Rattle.epoch_game.specs.Game.{Play}
use Rattle.switch_core.specs.Switch.{SwitchOf}
use Rattle.switch_game.specs.Playing.{Agrees}
use Rattle.switch_game.proofs.Laws.{agrees, later, plays}
use Rattle.net_world.specs.World.{world_after}
use Rattle.net_game.specs.Lives.{all_lives, powered}
use Rattle.net_game.specs.Moves.{first_game, game_after}
use Rattle.net_game.proofs.Firm.{places}
use Rattle.net_game.proofs.LivesLemmas.{firm}
use Rattle.net_game.proofs.EmbedLemmas.{embedded}

-- the moves of a history are a run of the game
pub history_plays : (script : ScriptOf) → IsScript script → (h : List Event) → Play (all_lives script) (first_game script) (game_after script h)
history_plays script kept h =
    let w = embedded script (all_lives script) kept (firm script kept) h in
    plays (all_lives script) (powered script) w.network (game_after script h) w.is_in.happens

-- which goes on
pub history_goes_on : (script : ScriptOf) → IsScript script → (before more : List Event) → Play (all_lives script) (game_after script before) (game_after script (before ++ more))
history_goes_on script kept before more =
    let h = before ++ more in
    let w = embedded script (all_lives script) kept (firm script kept) h in
    let m = w.moments before more refl in
    later (all_lives script) (powered script) m.earlier w.network (game_after script before) (game_after script h) m.is_in.happens m.since

-- and has of each present life what its switch has
pub history_agrees : (script : ScriptOf) → IsScript script → (h : List Event) (s : ℕ) → s < places script → Agrees ((world_after script h).switches s).life ((world_after script h).switches s) (game_after script h)
history_agrees script kept h s low =
    let w = embedded script (all_lives script) kept (firm script kept) h in
    let x = ((world_after script h).switches s).life in
    subst (λ (u : SwitchOf). Agrees x u (game_after script h)) (w.is_in.switches s low) (agrees (all_lives script) (powered script) w.network (game_after script h) x w.is_in.happens)
