-- Lawful events in turn, and that a fabric counts them.

use Rattle.std.specs.Prelude.{◌≡◌, ◌+◌, ℕ, List, [], ◌∷◌, ◌++◌, length, Option, Some, None, is_some, true, refl}
use Rattle.std.proofs.Common.{sym, ◌∙◌, ap, subst, arith, append_assoc, true≢false}
use Rattle.std.proofs.lemmas.List.{append-nil}
use Rattle.an_base.specs.Ports.{NoteOf}
use Rattle.an_base.specs.Values.{TopoOf}
use Rattle.an_base.specs.declared.event.Event.{Event}
use Rattle.an_base.specs.declared.event.Event.TheVariants.{Load}
use Rattle.net_script.specs.Scripts.{ScriptOf, IsScript}
use Rattle.switch_core.specs.Switch.{finish_of}
use Rattle.net_state.specs.Lawful.{is_lawful}
use Rattle.net_state.proofs.LawfulLemmas.{lawful_is}
use Rattle.net_state.proofs.ReadyLemmas.{load_ready}
use Rattle.net_world.specs.World.{WorldOf, after_all, begun, effect, loads_with, step, world_after}
use Rattle.net_world.specs.Histories.{AreLawful, IsLawful}
use Rattle.net_world.proofs.InductionLemmas.{world_first}
use Rattle.net_world.proofs.PlaceLemmas.{switch_below, world_places}
use Rattle.net_world.proofs.SoundLemmas.{world_sound}
use Rattle.net_world.proofs.WorldLemmas.{step-lawful, world_after-event}

-- a lawful event at the end
are_lawful-more : (w : WorldOf) (h : List Event) (e : Event) → AreLawful w h → is_lawful (after_all h w).fabric e ≡ true → AreLawful w (h ++ e ∷ [])
are_lawful-more w [] e before lawful = (lawful, tt)
are_lawful-more w (x ∷ h) e before lawful = (before.0, are_lawful-more (step w x) h e before.1 lawful)

pub lawful_more : (script : ScriptOf) (h : List Event) (e : Event) → IsLawful script h → is_lawful (world_after script h).fabric e ≡ true → IsLawful script (h ++ e ∷ [])
unfolding world_after
lawful_more script h e before lawful = are_lawful-more (begun script) h e before lawful

-- a lawful event counts
loads_count : (topo : Option TopoOf) (s : ℕ) (w : WorldOf) → is_some topo ≡ true → (loads_with topo s w).fabric.events ≡ w.fabric.events + 1
loads_count None s w some = absurd (true≢false (sym some))
loads_count (Some topo) s w some = refl

pub event_counts : (script : ScriptOf) → IsScript script → (h : List Event) (e : Event) → is_lawful (world_after script h).fabric e ≡ true → (effect e (world_after script h)).fabric.events ≡ (world_after script h).fabric.events + 1
unfolding effect
event_counts script kept h (Load s) lawful =
    let w = world_after script h in
    let ready = load_ready w.fabric s (lawful_is w.fabric (Load s) lawful).ready in
    let below = switch_below script h s ready.0 in
    let due : (w.switches s).load_due ≡ true = ap (λ (n : NoteOf). n.load_due) (sym (world_places script kept h s below).note) ∙ ready.2 in
    loads_count (finish_of (w.switches s)) s w ((world_sound script kept h s below).due due)
event_counts script kept h e lawful = refl

pub world_counts : (script : ScriptOf) → IsScript script → (h : List Event) (e : Event) → is_lawful (world_after script h).fabric e ≡ true → (world_after script (h ++ e ∷ [])).fabric.events ≡ (world_after script h).fabric.events + 1
world_counts script kept h e lawful =
    ap (λ (w : WorldOf). w.fabric.events) (world_after-event script h e ∙ step-lawful (world_after script h) e lawful) ∙ event_counts script kept h e lawful

-- so lawful events in turn count what they are
more_count : (script : ScriptOf) → IsScript script → (h more : List Event) → AreLawful (world_after script h) more → (world_after script (h ++ more)).fabric.events ≡ (world_after script h).fabric.events + length more
more_count script kept h [] lawful = ap (λ (g : List Event). (world_after script g).fabric.events) (append-nil h) ∙ omega arith
more_count script kept h (e ∷ more) lawful =
    let one = world_counts script kept h e lawful.0 in
    let rest = more_count script kept (h ++ e ∷ []) more (subst (λ (w : WorldOf). AreLawful w more) (sym (world_after-event script h e)) lawful.1) in
    let here : (world_after script (h ++ e ∷ more)).fabric.events ≡ (world_after script ((h ++ e ∷ []) ++ more)).fabric.events = ap (λ (g : List Event). (world_after script g).fabric.events) (sym (append_assoc h (e ∷ []) more)) in
    omega (arith, here, rest, one)

-- In a lawful history the fabric has counted each event.
pub lawful_events : (script : ScriptOf) → IsScript script → (history : List Event) → IsLawful script history → (world_after script history).fabric.events ≡ length history
lawful_events script kept history lawful =
    let first = world_first script in
    let none : (world_after script []).fabric.events ≡ 0 = ap (λ (w : WorldOf). w.fabric.events) first in
    let all = more_count script kept [] history (subst (λ (w : WorldOf). AreLawful w history) (sym first) lawful) in
    omega (arith, none, all)
