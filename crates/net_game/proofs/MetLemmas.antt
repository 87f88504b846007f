-- Lives that met: each frame on a wire came from the switch at its far end, so that who answers at a port is
-- there, and was there while this life was.

use Rattle.std.specs.Prelude.{◌≡◌, ◌<◌, ◌≤◌, ℕ, List, [], ◌∷◌, ◌++◌, IfSome, Option, Some, None, Bool, true, false, refl}
use Rattle.std.proofs.Common.{sym, ◌∙◌, ap, subst, arith, append_assoc}
use Rattle.an_base.specs.Values.{LifeId, EndId}
use Rattle.an_base.specs.declared.event.Event.{Event}
use Rattle.an_base.specs.declared.frame.Frame.{Frame}
use Rattle.an_base.specs.declared.frame.Frame.TheVariants.{Carry, Ack, Probe, Reply}
use Rattle.net_graph.specs.declared.wiring.Far.{Far}
use Rattle.net_graph.specs.declared.wiring.Far.TheVariants.{Switch}
use Rattle.net_graph.specs.Wires.{IsWithin, IsFar, far_at}
use Rattle.net_graph.proofs.TableLemmas.{far_within}
use Rattle.net_script.specs.Scripts.{ScriptOf, IsScript}
use Rattle.frame_codec.specs.Reading.{frame_of}
use Rattle.wire_set.specs.WireState.{place}
use Rattle.epoch_game.proofs.Basics.{none_some}
use Rattle.net_state.specs.Lawful.{is_lawful}
use Rattle.net_state.specs.Fabric.{life_of}
use Rattle.net_world.specs.Histories.{switch_after}
use Rattle.net_world.specs.World.{WorldOf, step, world_after}
use Rattle.net_world.proofs.WorldLemmas.{world_after-event, step-lawful, step-unlawful}
use Rattle.net_world.proofs.LawLemmas.{world_is_sound}
use Rattle.net_game.specs.Meeting.{Met}
use Rattle.net_game.proofs.Firm.{places}
use Rattle.net_game.proofs.GoneLemmas.{boot_rises}
use Rattle.net_game.proofs.HistoryLemmas.{onward}

-- boots only rise
boot_step : (script : ScriptOf) (h : List Event) (e : Event) (s : ℕ) → (switch_after script h s).life.boot ≤ (switch_after script (h ++ e ∷ []) s).life.boot
boot_step script h e s = subst (λ (w : WorldOf). (switch_after script h s).life.boot ≤ (w.switches s).life.boot) (sym (world_after-event script h e)) (by (is_lawful (world_after script h).fabric e) refl) where
  by : (b : Bool) → is_lawful (world_after script h).fabric e ≡ b → (switch_after script h s).life.boot ≤ ((step (world_after script h) e).switches s).life.boot
  by true lawful = subst (λ (w : WorldOf). (switch_after script h s).life.boot ≤ (w.switches s).life.boot) (sym (step-lawful (world_after script h) e lawful)) (boot_rises e s (world_after script h))
  by false unlawful = subst (λ (w : WorldOf). (switch_after script h s).life.boot ≤ (w.switches s).life.boot) (sym (step-unlawful (world_after script h) e unlawful)) (omega arith)

pub boots_rise : (script : ScriptOf) (h more : List Event) (s : ℕ) → (switch_after script h s).life.boot ≤ (switch_after script (h ++ more) s).life.boot
boots_rise script h more s = onward (λ g. (switch_after script h s).life.boot ≤ (switch_after script g s).life.boot) (λ g e le. let up = boot_step script g e s in omega (arith, le, up)) more h (omega arith)

-- a life at a place is told by its boot
pub life_by_boot : (script : ScriptOf) → IsScript script → (g h : List Event) (s : ℕ) → s < places script → (switch_after script g s).life.boot ≡ (switch_after script h s).life.boot → (switch_after script g s).life ≡ (switch_after script h s).life
life_by_boot script kept g h s low same = ((world_is_sound script kept g).places s low).life ∙ ap (life_of script s) same ∙ sym ((world_is_sound script kept h).places s low).life

parts_more : (h before later : List Event) (e : Event) → h ≡ before ++ later → h ++ e ∷ [] ≡ before ++ (later ++ e ∷ [])
parts_more h before later e is = ap (λ (l : List Event). l ++ e ∷ []) is ∙ append_assoc before later (e ∷ [])

pub met_more : (script : ScriptOf) (h : List Event) (e : Event) (s : ℕ) (x : LifeId) (p : ℕ) (far : EndId) → Met script h s x p far → Met script (h ++ e ∷ []) s x p far
met_more script h e s x p far is = record {
  other = is.other;
  wired = is.wired;
  before = is.before;
  later = is.later ++ e ∷ [];
  parts = parts_more h is.before is.later e is.parts;
  here = is.here;
  there = is.there;
}

-- A frame that comes to a place from a port of another one: a probe of a life that was there; a reply from that port, of a life that was there when the life that is meant had been started
pub record CameReply (script : ScriptOf) (h : List Event) (s t r : ℕ) (from to : EndId) : Type 0 where
  pub port : from.port ≡ r
  pub before : List Event
  pub later : List Event
  pub parts : h ≡ before ++ later
  pub there : (switch_after script before t).life ≡ from.life
  pub known : to.life.boot ≤ (switch_after script before s).life.boot

abbrev pub Came : ScriptOf → List Event → (s t r : ℕ) → Frame → Type 0
Came script h s t r (Carry f) = Unit {0}
Came script h s t r (Ack epoch from to n) = Unit {0}
Came script h s t r (Probe from nonce) = from.life.boot ≤ (switch_after script h t).life.boot
Came script h s t r (Reply from to nonce) = CameReply script h s t r from to

came_more : (script : ScriptOf) (h : List Event) (e : Event) (s t r : ℕ) (f : Frame) → Came script h s t r f → Came script (h ++ e ∷ []) s t r f
came_more script h e s t r (Carry f) is = tt
came_more script h e s t r (Ack epoch from to n) is = tt
came_more script h e s t r (Probe from nonce) is = let up = boot_step script h e t in omega (arith, is, up)
came_more script h e s t r (Reply from to nonce) is = record { port = is.port; before = is.before; later = is.later ++ e ∷ []; parts = parts_more h is.before is.later e is.parts; there = is.there; known = is.known }

-- so the bytes on the wire into a port
abbrev pub IsFrom : ScriptOf → List Event → ℕ → List ℕ → Type 0
IsFrom script h queue bytes =
    (s p t r : ℕ) → queue ≡ place s p → far_at script.wires s p ≡ Some (Switch t r) → (f : Frame) → frame_of bytes ≡ Some f → Came script h s t r f

pub from_more : (script : ScriptOf) (h : List Event) (e : Event) (queue : ℕ) (bytes : List ℕ) → IsFrom script h queue bytes → IsFrom script (h ++ e ∷ []) queue bytes
from_more script h e queue bytes is s p t r at far f read = came_more script h e s t r f (is s p t r at far f read)

pub from_none : (script : ScriptOf) (h : List Event) (queue : ℕ) (bytes : List ℕ) → frame_of bytes ≡ None → IsFrom script h queue bytes
from_none script h queue bytes none s p t r at far f read = absurd (none_some (sym none ∙ read))

-- a port with a link is external
pub far_fits : (script : ScriptOf) → IsScript script → (s p t r : ℕ) → far_at script.wires s p ≡ Some (Switch t r) → IsFar (places script) s p (t, r)
far_fits script kept s p t r far = subst (λ (o : Option Far). IfSome o (IsWithin script.wires s p)) far (far_within script.wires s p kept.wired)

-- a hand is no wire
pub from_hand : (script : ScriptOf) → IsScript script → (h : List Event) (u : ℕ) (bytes : List ℕ) → IsFrom script h (place u 0) bytes
from_hand script kept h u bytes s p t r at far f read =
    let k = far_fits script kept s p t r far in
    let least = k.own_port_least in
    let most = k.own_port_most in
    absurd (omega (arith, at, least, most))

-- who answers the life that is here was there while it was here
pub replied_met : (script : ScriptOf) → IsScript script → (h : List Event) (s p t r : ℕ) (from to : EndId) → far_at script.wires s p ≡ Some (Switch t r) → to.life ≡ (switch_after script h s).life → CameReply script h s t r from to
    → Met script h s (switch_after script h s).life p from
replied_met script kept h s p t r from to far mine came =
    let low = (far_fits script kept s p t r far).node_below in
    let up : (switch_after script came.before s).life.boot ≤ (switch_after script h s).life.boot = subst (λ (g : List Event). (switch_after script came.before s).life.boot ≤ (switch_after script g s).life.boot) (sym came.parts) (boots_rise script came.before came.later s) in
    let known = came.known in
    let same = ap (λ (l : LifeId). l.boot) mine in
    let boot : (switch_after script came.before s).life.boot ≡ (switch_after script h s).life.boot = omega (arith, up, known, same) in
    record {
      other = t;
      wired = far ∙ ap (λ (n : ℕ). Some (Switch t n)) (sym came.port);
      before = came.before;
      later = came.later;
      parts = came.parts;
      here = life_by_boot script kept came.before h s low boot;
      there = came.there;
    }
