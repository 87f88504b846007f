-- What is always so of the sessions: windows are filled, and a port without a link has none.

use Rattle.std.specs.Prelude.{◌==◌, ◌+◌, ℕ, List, cond, Option, Some, None, Bool, true, false}
use Rattle.an_base.specs.Values.{TopoOf}
use Rattle.an_base.specs.declared.event.Event.{Event}
use Rattle.an_base.specs.declared.event.Event.TheVariants.{Handle, Load, Restart}
use Rattle.an_base.specs.declared.frame.Frame.{Frame}
use Rattle.net_script.specs.Scripts.{ScriptOf}
use Rattle.frame_codec.specs.Reading.{frame_of}
use Rattle.switch_core.specs.Switch.{SwitchOf, StartOf, finish_of}
use Rattle.switch_core.specs.Steps.{loaded}
use Rattle.table_build.specs.Made.{number_in}
use Rattle.link_settling.specs.Moves.{AreFilled, AreUnused}
use Rattle.link_settling.proofs.Keeps.{filled_clock, filled_frame, filled_load, filled_start}
use Rattle.link_settling.proofs.Unused.{unused_clock, unused_frame, unused_load, unused_start}
use Rattle.net_state.specs.declared.hand.Hand.{Hand}
use Rattle.net_state.specs.declared.hand.Hand.TheVariants as hand
use Rattle.net_state.specs.Fabric.{station, held_bytes}
use Rattle.net_world.specs.World.{WorldOf, effect, handled, handles, handles_bytes, loads_with, next_life, start_of, world_after}
use Rattle.net_world.proofs.InductionLemmas.{always}

record AreSound (s : SwitchOf) : Type 0 where
  filled : AreFilled s
  unused : AreUnused s

started_sound : (x : StartOf) → AreSound (Rattle.switch_core.specs.Switch.started_as x)
started_sound x = record { filled = filled_start x; unused = unused_start x }

bytes_sound : (port : ℕ) (o : Option Frame) (s : SwitchOf) → AreSound s → AreSound (handles_bytes port o s).switch
bytes_sound port None s k = k
bytes_sound port (Some f) s k = record { filled = filled_frame port f s k.filled; unused = unused_frame port f s k.unused }

handled_sound : (t : ℕ) (w : WorldOf) → AreSound (w.switches t) → AreSound (handled t w).switch
unfolding handles
handled_sound t w k = by (station w.fabric t).hand
  where
    by : (x : Hand) → AreSound (handles x (held_bytes w.fabric t) (w.switches t)).switch
    by hand.Empty = k
    by (hand.Clock now samples) = record { filled = filled_clock now samples (w.switches t) k.filled; unused = unused_clock now samples (w.switches t) k.unused }
    by (hand.Frame port) = bytes_sound port (frame_of (held_bytes w.fabric t)) (w.switches t) k

set_sound : (switches : ℕ → SwitchOf) (t s : ℕ) (u : SwitchOf) → AreSound u → AreSound (switches s) → AreSound (cond (s == t) u (switches s))
set_sound switches t s u new old = by (s == t)
  where
    by : (b : Bool) → AreSound (cond b u (switches s))
    by true = new
    by false = old

loads_sound : (o : Option TopoOf) (t s : ℕ) (w : WorldOf) → ((n : ℕ) → AreSound (w.switches n)) → AreSound ((loads_with o t w).switches s)
loads_sound None t s w old = old s
loads_sound (Some topo) t s w old =
    let n = number_in topo (w.switches t).life in
    set_sound w.switches t s (loaded n (w.switches t)) (record { filled = filled_load n (w.switches t) (old t).filled; unused = unused_load n (w.switches t) (old t).unused }) (old s)

effect_sound : (e : Event) (w : WorldOf) → ((s : ℕ) → AreSound (w.switches s)) → (s : ℕ) → AreSound ((effect e w).switches s)
unfolding effect
effect_sound (Handle t) w old s = set_sound w.switches t s (handled t w).switch (handled_sound t w (old t)) (old s)
effect_sound (Load t) w old s = loads_sound (finish_of (w.switches t)) t s w old
effect_sound (Restart t) w old s = set_sound w.switches t s (next_life t w) (started_sound (start_of w.fabric.script t ((w.switches t).life.boot + 1))) (old s)
effect_sound e w old s = old s

all_sound : (script : ScriptOf) (h : List Event) (s : ℕ) → AreSound ((world_after script h).switches s)
all_sound script h = always script (λ w. (s : ℕ) → AreSound (w.switches s)) (λ s. started_sound (start_of script s 1)) (λ g e lawful old. effect_sound e (world_after script g) old) h

pub all_filled : (script : ScriptOf) (h : List Event) (s : ℕ) → AreFilled ((world_after script h).switches s)
all_filled script h s = (all_sound script h s).filled

pub all_unused : (script : ScriptOf) (h : List Event) (s : ℕ) → AreUnused ((world_after script h).switches s)
all_unused script h s = (all_sound script h s).unused
