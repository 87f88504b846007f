-- What the embedding asks of the world.

use Rattle.std.specs.Prelude.{◌≡◌, ◌<◌, ℕ, suc, ◌^◌, List, length, Contains}
use Rattle.an_base.specs.Values.{LifeId}
use Rattle.an_base.specs.declared.event.Event.{Event}
use Rattle.net_script.specs.Scripts.{ScriptOf}
use Rattle.frame_codec.specs.Frames.{IsCounted}
use Rattle.switch_core.specs.Switch.{SwitchOf, note_of}
use Rattle.switch_core.specs.Sound.{IsSound}
use Rattle.net_state.specs.Fabric.{station}
use Rattle.net_world.specs.World.{WorldOf, world_after}

-- how many switches a script has
abbrev pub places : ScriptOf → ℕ
places script = length script.wires.switches

-- after so many clocks and frames, far from the end of their numbers
pub record IsWorked (s : SwitchOf) : Type 0 where
  pub works : ℕ
  pub few : suc works < 2 ^ 28
  pub sound : IsSound works s

-- What the embedding asks of the world at a moment: what a place shows is what its switch is; the present lives are among those of the run, with boots within their range; and a switch is what it is after some clocks and frames, of which there are few
pub record IsFirm (script : ScriptOf) (lives : List LifeId) (w : WorldOf) : Type 0 where
  pub note : (s : ℕ) → s < places script → (station w.fabric s).note ≡ note_of (w.switches s)
  pub spent : (s : ℕ) → s < places script → (station w.fabric s).spent ≡ (w.switches s).spent
  pub among : (s : ℕ) → s < places script → Contains lives (w.switches s).life
  pub boot : (s : ℕ) → s < places script → IsCounted (w.switches s).life.boot
  pub sound : (s : ℕ) → s < places script → IsWorked (w.switches s)

-- and of all moments of its runs
abbrev pub AreFirm : ScriptOf → List LifeId → Type 0
AreFirm script lives = (h : List Event) → IsFirm script lives (world_after script h)
