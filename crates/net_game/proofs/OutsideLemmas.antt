-- Past the last place nobody has joined.

use Rattle.std.specs.Prelude.{◌≡◌, ◌≢◌, ◌≤◌, ◌==◌, ℕ, List, Option, Some, None, Bool, true, false, cond, refl}
use Rattle.std.proofs.Common.{sym, ◌∙◌, ap, arith, ne_eqb}
use Rattle.an_base.specs.Values.{TopoOf}
use Rattle.an_base.specs.declared.event.Event.{Event}
use Rattle.an_base.specs.declared.event.Event.TheVariants.{Handle, Load, Restart}
use Rattle.net_script.specs.Scripts.{ScriptOf}
use Rattle.switch_core.specs.Switch.{SwitchOf, at_port, finish_of}
use Rattle.net_state.specs.Fabric.{is_switch}
use Rattle.net_state.specs.Lawful.{is_lawful}
use Rattle.net_world.specs.World.{WorldOf, effect, world_after, loads_with}
use Rattle.net_world.proofs.WorldLemmas.{at_other}
use Rattle.net_game.proofs.Firm.{places}
use Rattle.net_state.proofs.FitsLemmas.{switch_below}
use Rattle.net_state.proofs.LawfulLemmas.{lawful_is}
use Rattle.net_state.proofs.ReadyLemmas.{handle_ready, load_ready}
use Rattle.net_world.proofs.InductionLemmas.{always, world_script}

-- there is no switch at places past the last one: nothing is done there but to start anew
at_one : (s t : ℕ) (x : SwitchOf) (switches : ℕ → SwitchOf) → t ≢ s → (at_port t x switches s).joined ≡ (switches s).joined
at_one s t x switches other = ap (λ (u : SwitchOf). u.joined) (at_other t s x switches (ne_eqb s t (λ e. other (sym e))))

started_one : (b : Bool) (x y : SwitchOf) → x.joined ≡ false → y.joined ≡ false → (cond b x y).joined ≡ false
started_one true x y p q = p
started_one false x y p q = q

loads_one : (topo : Option TopoOf) (s t : ℕ) (w : WorldOf) → t ≢ s → (w.switches s).joined ≡ false → ((loads_with topo t w).switches s).joined ≡ false
loads_one None s t w other old = old
loads_one (Some topo) s t w other old = at_one s t _ w.switches other ∙ old

differs : (script : ScriptOf) (s t : ℕ) (w : WorldOf) → w.fabric.script ≡ script → places script ≤ s → is_switch w.fabric t ≡ true → t ≢ s
differs script s t w script_is past is = λ e. let low = switch_below w.fabric t is in let same = ap places script_is in omega (arith, low, same, past, e)

effect_outside : (script : ScriptOf) (e : Event) (s : ℕ) (w : WorldOf) → w.fabric.script ≡ script → places script ≤ s → is_lawful w.fabric e ≡ true → (w.switches s).joined ≡ false → ((effect e w).switches s).joined ≡ false
unfolding effect
effect_outside script (Handle t) s w script_is past lawful old =
    let ready = handle_ready w.fabric t (lawful_is w.fabric (Handle t) lawful).ready in
    at_one s t _ w.switches (differs script s t w script_is past ready.0) ∙ old
effect_outside script (Load t) s w script_is past lawful old =
    let ready = load_ready w.fabric t (lawful_is w.fabric (Load t) lawful).ready in
    loads_one (finish_of (w.switches t)) s t w (differs script s t w script_is past ready.0) old
effect_outside script (Restart t) s w script_is past lawful old = started_one (s == t) _ (w.switches s) refl old
effect_outside script e s w script_is past lawful old = old

pub outside : (script : ScriptOf) (h : List Event) (s : ℕ) → places script ≤ s → ((world_after script h).switches s).joined ≡ false
outside script h s past = always script (λ w. (w.switches s).joined ≡ false) refl (λ g e lawful old. effect_outside script e s (world_after script g) (world_script script g) past lawful old) h
