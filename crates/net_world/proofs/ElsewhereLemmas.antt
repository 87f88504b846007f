-- An event of another owner leaves a place and its switch as they were.

use Rattle.std.specs.Prelude.{◌≡◌, ◌≢◌, ◌+◌, ℕ, List, [], ◌∷◌, ◌++◌, Option, Some, None, Bool, true, false, refl, All}
use Rattle.std.proofs.Common.{sym, ◌∙◌, ap, subst, ne_eqb}
use Rattle.std.proofs.lemmas.List.{get_or-set_other}
use Rattle.std.specs.List.{AllByRecursion as ByRecursion}
use Rattle.std.proofs.lemmas.List.Elements.{recursion_from_All}
use Rattle.an_base.specs.Values.{TopoOf}
use Rattle.an_base.specs.declared.event.Event.{Event}
use Rattle.an_base.specs.declared.event.Event.TheVariants.{Clock, Take, Handle, Load, Restart}
use Rattle.net_script.specs.Scripts.{ScriptOf}
use Rattle.switch_core.specs.Switch.{SwitchOf, at_port, finish_of}
use Rattle.net_state.specs.Fabric.{FabricOf, StationOf, station, vacant, with_station}
use Rattle.net_state.specs.Lawful.{is_lawful}
use Rattle.net_world.specs.World.{WorldOf, effect, step, after_all, world_after, loads_with}
use Rattle.net_world.specs.Histories.{owner_of}
use Rattle.net_world.proofs.WorldLemmas.{step-lawful, step-unlawful, world_after-append, at_other}

-- what stands at the place of a switch, and the switch itself, are as they were
pub record AreSameAt (s : ℕ) (w v : WorldOf) : Type 0 where
  pub place : station v.fabric s ≡ station w.fabric s
  pub switch : v.switches s ≡ w.switches s

same : (s : ℕ) (w : WorldOf) → AreSameAt s w w
same s w = record { place = refl; switch = refl }

then : (s : ℕ) (w v u : WorldOf) → AreSameAt s w v → AreSameAt s v u → AreSameAt s w u
then s w v u a b = record { place = b.place ∙ a.place; switch = b.switch ∙ a.switch }

-- a change at another place
elsewhere : (s t : ℕ) (f : FabricOf) (x : StationOf) → s ≢ t → station (with_station t x f) s ≡ station f s
elsewhere s t f x other = get_or-set_other f.stations t s x vacant other

others : (s t : ℕ) (x : SwitchOf) (switches : ℕ → SwitchOf) → s ≢ t → at_port t x switches s ≡ switches s
others s t x switches other = at_other t s x switches (ne_eqb s t other)

pub places_differ : (s t : ℕ) → t + 1 ≢ s + 1 → s ≢ t
places_differ s t differ = λ (e : s ≡ t). differ (ap (λ n. n + 1) (sym e))

loads_elsewhere : (s t : ℕ) (topo : Option TopoOf) (w : WorldOf) → s ≢ t → AreSameAt s w (loads_with topo t w)
loads_elsewhere s t None w other = same s w
loads_elsewhere s t (Some topo) w other = record { place = get_or-set_other w.fabric.stations t s _ vacant other; switch = others s t _ w.switches other }

-- an event of another owner leaves them alone
effect_elsewhere : (e : Event) (s : ℕ) (w : WorldOf) → owner_of e ≢ s + 1 → AreSameAt s w (effect e w)
unfolding effect
effect_elsewhere (Clock t) s w other = record { place = get_or-set_other w.fabric.stations t s _ vacant (places_differ s t other); switch = refl }
effect_elsewhere (Take t p) s w other = record { place = get_or-set_other w.fabric.stations t s _ vacant (places_differ s t other); switch = refl }
effect_elsewhere (Handle t) s w other = record { place = get_or-set_other w.fabric.stations t s _ vacant (places_differ s t other); switch = others s t _ w.switches (places_differ s t other) }
effect_elsewhere (Load t) s w other = loads_elsewhere s t (finish_of (w.switches t)) w (places_differ s t other)
effect_elsewhere (Restart t) s w other = record { place = get_or-set_other w.fabric.stations t s _ vacant (places_differ s t other); switch = others s t _ w.switches (places_differ s t other) }
effect_elsewhere e s w other = record { place = refl; switch = refl }

pub step_elsewhere : (e : Event) (s : ℕ) (w : WorldOf) → owner_of e ≢ s + 1 → AreSameAt s w (step w e)
step_elsewhere e s w other = by_law (is_lawful w.fabric e) refl where
  by_law : (b : Bool) → is_lawful w.fabric e ≡ b → AreSameAt s w (step w e)
  by_law true lawful = let P : WorldOf → Type 0 = λ v. AreSameAt s w v in subst P (sym (step-lawful w e lawful)) (effect_elsewhere e s w other)
  by_law false unlawful = let P : WorldOf → Type 0 = λ v. AreSameAt s w v in subst P (sym (step-unlawful w e unlawful)) (same s w)

-- so do all events of other owners
after_all_elsewhere : (more : List Event) (s : ℕ) (w : WorldOf) → ByRecursion (λ e. owner_of e ≢ s + 1) more → AreSameAt s w (after_all more w)
after_all_elsewhere [] s w others = same s w
after_all_elsewhere (e ∷ more) s w others = then s w (step w e) (after_all more (step w e)) (step_elsewhere e s w others.0) (after_all_elsewhere more s (step w e) others.1)

pub world_elsewhere : (script : ScriptOf) (h more : List Event) (s : ℕ) → All (λ e. owner_of e ≢ s + 1) more → AreSameAt s (world_after script h) (world_after script (h ++ more))
world_elsewhere script h more s others =
    let P : WorldOf → Type 0 = λ v. AreSameAt s (world_after script h) v in
    subst P (sym (world_after-append script h more)) (after_all_elsewhere more s (world_after script h) (recursion_from_All (λ e. owner_of e ≢ s + 1) more others))
