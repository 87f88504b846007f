-- The switch at a place after its own event stands for that of the world.

use Rattle.std.specs.Prelude.{◌≡◌, ◌+◌, ◌<◌, ℕ, List, [], ◌∷◌, ◌++◌, length, slice_index_or, slice_set, Option, Some, true, false, refl}
use Rattle.std.proofs.Common.{sym, ◌∙◌, ap, subst, arith, eq-eqb}
use Rattle.std.proofs.lemmas.List.{get_or-set_same}
use Rattle.an_base.specs.Ports.{NoteOf}
use Rattle.an_base.specs.Values.{LifeId, TopoOf}
use Rattle.an_base.specs.declared.event.Event.{Event}
use Rattle.an_base.specs.declared.event.Event.TheVariants.{Clock, Take, Handle, Load, Restart}
use Rattle.net_script.specs.Scripts.{ScriptOf, IsScript}
use Rattle.table_build.specs.Made.{number_in}
use Rattle.switch_core.specs.Switch.{SwitchOf, at_port, finish_of, note_of, started_as}
use Rattle.switch_core.specs.Steps.{loaded}
use Rattle.switch_core.specs.Kept.{KeptOf, StandsFor}
use Rattle.net_state.specs.declared.hand.Hand.{Hand}
use Rattle.net_state.specs.declared.hand.Hand.TheVariants as hand
use Rattle.net_state.specs.Effects.{restarted, showing}
use Rattle.net_state.specs.Fabric.{StationOf, is_full_at, samples_of, station, held_bytes, vacant, life_of}
use Rattle.net_state.specs.Lawful.{is_lawful}
use Rattle.net_state.specs.Starts.{next_life_at}
use Rattle.net_state.proofs.ReadyLemmas.{empty_at}
use Rattle.net_world.specs.World.{WorldOf, effect, handled, loads_with, next_life, start_of, table_for, world_after}
use Rattle.fabric_book.specs.Nets.{HasFrame, IsStarted, IsSwitchKept, power_of, start_with}
use Rattle.fabric_book.proofs.WorldFacts.{world_script, fits_after, place_sound, handled_life}
use Rattle.fabric_book.proofs.BookLemmas.{world_more}

pub at_same : (s : ℕ) (x : SwitchOf) (switches : ℕ → SwitchOf) → at_port s x switches s ≡ x
at_same s x switches = rw (eq-eqb s s refl) refl

-- there is a station at the place
pub place_below : (script : ScriptOf) → IsScript script → (h : List Event) (s : ℕ) → s < length script.wires.switches → s < length (world_after script h).fabric.stations
place_below script kept h s below =
    subst (λ (n : ℕ). s < n) (sym ((fits_after script kept h).size ∙ ap (λ (x : ScriptOf). length x.wires.switches) (world_script script h))) below

pub set_here : (script : ScriptOf) → IsScript script → (h : List Event) (s : ℕ) → s < length script.wires.switches → (x : StationOf)
    → slice_index_or (slice_set (world_after script h).fabric.stations s x) s vacant ≡ x
set_here script kept h s below x = get_or-set_same (world_after script h).fabric.stations s x vacant (place_below script kept h s below)

-- where its hand is empty any bytes may be in its buffer
pub refill_own : (w : WorldOf) (s : ℕ) (switch : KeptOf) (old buffer : List ℕ) → is_full_at w.fabric s ≡ false → IsSwitchKept w s switch old → IsSwitchKept w s switch buffer
refill_own w s switch old buffer empty is = record {
  stands = is.stands;
  start = is.start;
  works = is.works;
  frame = subst (λ (x : Hand). HasFrame x (held_bytes w.fabric s) buffer) (sym (empty_at w.fabric s empty)) tt;
}

-- after a clock
pub clock_own : (script : ScriptOf) → IsScript script → (h : List Event) (s : ℕ) → s < length script.wires.switches → is_lawful (world_after script h).fabric (Clock s) ≡ true
    → (switch : KeptOf) (old buffer : List ℕ) → IsSwitchKept (world_after script h) s switch old → IsSwitchKept (world_after script (h ++ Clock s ∷ [])) s switch buffer
unfolding effect
clock_own script kept h s below lawful switch old buffer is =
    let w = world_after script h in
    let works = is.works in
    subst (λ (v : WorldOf). IsSwitchKept v s switch buffer) (sym (world_more script h (Clock s) lawful))
    (record {
      stands = is.stands;
      start = is.start;
      works = omega (arith, works);
      frame = subst (λ (x : StationOf). HasFrame x.hand (held_bytes w.fabric s) buffer)
          (sym (set_here script kept h s below (record (station w.fabric s) { hand = hand.Clock w.fabric.tick (samples_of w.fabric s); clock = w.fabric.tick + 1 }))) tt;
    })

-- after a frame was taken, whose bytes are in the buffer
pub take_own : (script : ScriptOf) → IsScript script → (h : List Event) (s port : ℕ) → s < length script.wires.switches → is_lawful (world_after script h).fabric (Take s port) ≡ true
    → (switch : KeptOf) (old buffer : List ℕ) → IsSwitchKept (world_after script h) s switch old → buffer ≡ held_bytes (world_after script (h ++ Take s port ∷ [])).fabric s
    → IsSwitchKept (world_after script (h ++ Take s port ∷ [])) s switch buffer
unfolding effect
take_own script kept h s port below lawful switch old buffer is bytes =
    let w = world_after script h in
    let works = is.works in
    let more = world_more script h (Take s port) lawful in
    subst (λ (v : WorldOf). IsSwitchKept v s switch buffer) (sym more)
    (record {
      stands = is.stands;
      start = is.start;
      works = omega (arith, works);
      frame = subst (λ (x : StationOf). HasFrame x.hand (held_bytes (effect (Take s port) w).fabric s) buffer) (sym (set_here script kept h s below (record (station w.fabric s) { hand = hand.Frame port })))
          (bytes ∙ ap (λ (v : WorldOf). held_bytes v.fabric s) more);
    })

-- after what was in hand was handled
pub handle_own : (script : ScriptOf) → IsScript script → (h : List Event) (s : ℕ) → s < length script.wires.switches → is_lawful (world_after script h).fabric (Handle s) ≡ true
    → (old one : KeptOf) (buffer bytes : List ℕ) → IsSwitchKept (world_after script h) s old buffer → one.start ≡ old.start → one.works ≡ old.works + 1
    → StandsFor one (handled s (world_after script h)).switch → IsSwitchKept (world_after script (h ++ Handle s ∷ [])) s one bytes
unfolding effect
handle_own script kept h s below lawful old one buffer bytes is start work stands =
    let w = world_after script h in
    let works = is.works in
    let here = at_same s (handled s w).switch w.switches in
    subst (λ (v : WorldOf). IsSwitchKept v s one bytes) (sym (world_more script h (Handle s) lawful))
    (record {
      stands = subst (StandsFor one) (sym here) stands;
      start = start ∙ is.start ∙ ap (λ (l : LifeId). start_of w.fabric.script s l.boot) (sym (ap (λ (x : SwitchOf). x.life) here ∙ handled_life w s));
      works = omega (arith, works, work);
      frame = subst (λ (x : StationOf). HasFrame x.hand (held_bytes (effect (Handle s) w).fabric s) bytes)
          (sym (set_here script kept h s below (record (showing (note_of (handled s w).switch) (handled s w).switch.spent (station w.fabric s)) { hand = hand.Empty }))) tt;
    })

-- after a load
record IsLoaded (w : WorldOf) (s : ℕ) (one : KeptOf) (buffer : List ℕ) (topo : Option TopoOf) : Type 0 where
  kept : IsSwitchKept (loads_with topo s w) s one buffer

loaded_own : (script : ScriptOf) → IsScript script → (h : List Event) (s : ℕ) → s < length script.wires.switches
    → (old one : KeptOf) (buffer : List ℕ) (topo : TopoOf) → IsSwitchKept (world_after script h) s old buffer → one.start ≡ old.start → one.works ≡ old.works
    → StandsFor one (loaded (number_in topo ((world_after script h).switches s).life) ((world_after script h).switches s)) → IsLoaded (world_after script h) s one buffer (Some topo)
loaded_own script kept h s below old one buffer topo is start work stands =
    let w = world_after script h in
    let works = is.works in
    let here = at_same s (loaded (number_in topo (w.switches s).life) (w.switches s)) w.switches in
    record {
      kept = record {
        stands = subst (StandsFor one) (sym here) stands;
        start = start ∙ is.start ∙ ap (λ (x : SwitchOf). start_of w.fabric.script s x.life.boot) (sym here);
        works = omega (arith, works, work);
        frame = subst (λ (x : StationOf). HasFrame x.hand (held_bytes w.fabric s) buffer)
            (sym (set_here script kept h s below (record (station w.fabric s) { table = Some (table_for topo (w.switches s)); note = note_of (loaded (number_in topo (w.switches s).life) (w.switches s)) }))) is.frame;
      };
    }

pub load_own : (script : ScriptOf) → IsScript script → (h : List Event) (s : ℕ) → s < length script.wires.switches → is_lawful (world_after script h).fabric (Load s) ≡ true
    → (old one : KeptOf) (buffer : List ℕ) (topo : TopoOf) → IsSwitchKept (world_after script h) s old buffer → one.start ≡ old.start → one.works ≡ old.works
    → finish_of ((world_after script h).switches s) ≡ Some topo
    → StandsFor one (loaded (number_in topo ((world_after script h).switches s).life) ((world_after script h).switches s)) → IsSwitchKept (world_after script (h ++ Load s ∷ [])) s one buffer
unfolding effect
load_own script kept h s below lawful old one buffer topo is start work finished stands =
    subst (λ (v : WorldOf). IsSwitchKept v s one buffer) (sym (world_more script h (Load s) lawful))
    (subst (IsLoaded (world_after script h) s one buffer) (sym finished) (loaded_own script kept h s below old one buffer topo is start work stands)).kept

-- after a restart
pub restart_own : (script : ScriptOf) → IsScript script → (h : List Event) (s : ℕ) → s < length script.wires.switches → is_lawful (world_after script h).fabric (Restart s) ≡ true
    → (old one : KeptOf) (buffer : List ℕ) (life : LifeId) → IsSwitchKept (world_after script h) s old buffer → life ≡ next_life_at (world_after script h).fabric s
    → IsStarted (start_with (power_of script s) life) one → IsSwitchKept (world_after script (h ++ Restart s ∷ [])) s one buffer
unfolding effect
restart_own script kept h s below lawful old one buffer life is next started =
    let w = world_after script h in
    let shown : (station w.fabric s).note.life ≡ (w.switches s).life = ap (λ (n : NoteOf). n.life) (place_sound script kept h s below).note in
    let boot = (w.switches s).life.boot + 1 in
    let named : life ≡ life_of script s boot =
    next ∙ ap (λ (x : ScriptOf). life_of x s ((station w.fabric s).note.life.boot + 1)) (world_script script h) ∙ ap (λ (l : LifeId). life_of script s (l.boot + 1)) shown in
    let same : start_with (power_of script s) life ≡ start_of script s boot = ap (λ (l : LifeId). start_with (power_of script s) l) named in
    let there : start_of script s boot ≡ start_of w.fabric.script s boot = ap (λ (x : ScriptOf). start_of x s boot) (sym (world_script script h)) in
    let none = started.works in
    let here = at_same s (next_life s w) w.switches in
    subst (λ (v : WorldOf). IsSwitchKept v s one buffer) (sym (world_more script h (Restart s) lawful))
    (record {
      stands = subst (StandsFor one) (ap started_as (same ∙ there) ∙ sym here) started.stands;
      start = started.start_is ∙ same ∙ there ∙ ap (λ (x : SwitchOf). start_of w.fabric.script s x.life.boot) (sym here);
      works = omega (arith, none);
      frame = subst (λ (x : StationOf). HasFrame x.hand (held_bytes w.fabric s) buffer)
          (sym (set_here script kept h s below (restarted w.fabric.tick (note_of (next_life s w)) (station w.fabric s)))) is.frame;
    })
