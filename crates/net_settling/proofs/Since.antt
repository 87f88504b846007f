-- The clock never goes back, and the last disturbance only comes later.

use Rattle.std.specs.Prelude.{◌≡◌, ◌≤◌, ℕ, List, [], ◌∷◌, ◌++◌, Option, Some, None, Bool, cond, refl}
use Rattle.std.proofs.Common.{arith}
use Rattle.std.proofs.lemmas.Bool.{cond_both}
use Rattle.an_base.specs.Values.{TopoOf}
use Rattle.an_base.specs.declared.event.Event.{Event}
use Rattle.an_base.specs.declared.event.Event.TheVariants.{Load, Tick}
use Rattle.net_script.specs.Scripts.{ScriptOf}
use Rattle.wire_set.specs.declared.side.Loss.{Loss}
use Rattle.switch_core.specs.Switch.{finish_of}
use Rattle.net_state.specs.Lawful.{is_lawful}
use Rattle.net_world.specs.World.{WorldOf, begun, effect, step, after_all, world_after, loads_with}
use Rattle.net_settling.specs.Disturbances.{disturbs, since, last_disturbance}

pub loads_tick : (o : Option TopoOf) (s : ℕ) (w : WorldOf) → (loads_with o s w).fabric.tick ≡ w.fabric.tick
loads_tick None s w = refl
loads_tick (Some topo) s w = refl

pub effect_tick : (e : Event) (w : WorldOf) → w.fabric.tick ≤ (effect e w).fabric.tick
unfolding effect
effect_tick Tick w = omega arith
effect_tick (Load s) w = let e = loads_tick (finish_of (w.switches s)) s w in omega (arith, e)
effect_tick e w = omega arith

pub step_tick : (w : WorldOf) (e : Event) → w.fabric.tick ≤ (step w e).fabric.tick
unfolding step
step_tick w e = cond_both (is_lawful w.fabric e) (effect e w) w (λ (v : WorldOf). w.fabric.tick ≤ v.fabric.tick) (λ _. effect_tick e w) (λ _. omega arith)

pub since_past : (test : WorldOf → Event → Bool) (c : ℕ) (w : WorldOf) (es : List Event) → c ≤ w.fabric.tick → since test c w es ≤ (after_all es w).fabric.tick
since_past test c w [] low = low
since_past test c w (e ∷ es) low =
    let t = step_tick w e in
    since_past test (cond (test w e) w.fabric.tick c) (step w e) es
    (cond_both (test w e) w.fabric.tick c (λ n. n ≤ (step w e).fabric.tick) (λ _. t) (λ _. omega (arith, low, t)))

pub since_more : (test : WorldOf → Event → Bool) (c : ℕ) (w : WorldOf) (es more : List Event) → since test c w (es ++ more) ≡ since test (since test c w es) (after_all es w) more
since_more test c w [] more = refl
since_more test c w (e ∷ es) more = since_more test (cond (test w e) w.fabric.tick c) (step w e) es more

pub since_grows : (test : WorldOf → Event → Bool) (c : ℕ) (w : WorldOf) (es : List Event) → c ≤ w.fabric.tick → c ≤ since test c w es
since_grows test c w [] low = omega arith
since_grows test c w (e ∷ es) low =
    let t = step_tick w e in
    let n = cond (test w e) w.fabric.tick c in
    let up = cond_both (test w e) w.fabric.tick c (λ m. c ≤ m) (λ _. low) (λ _. omega arith) in
    let below = cond_both (test w e) w.fabric.tick c (λ m. m ≤ (step w e).fabric.tick) (λ _. t) (λ _. omega (arith, low, t)) in
    let i = since_grows test n (step w e) es below in
    omega (arith, up, i)

pub disturbance_past : (test : Loss → Bool) (script : ScriptOf) (history : List Event) → last_disturbance test script history ≤ (world_after script history).fabric.tick
unfolding world_after
disturbance_past test script history = since_past (disturbs test) 0 (begun script) history (omega arith)

pub disturbance_grows : (test : Loss → Bool) (script : ScriptOf) (history more : List Event) → last_disturbance test script history ≤ last_disturbance test script (history ++ more)
disturbance_grows test script history more =
    let s = since_past (disturbs test) 0 (begun script) history (omega arith) in
    let e = since_more (disturbs test) 0 (begun script) history more in
    let g = since_grows (disturbs test) (since (disturbs test) 0 (begun script) history) (after_all history (begun script)) more s in
    omega (arith, e, g)

-- one event more: it is now, or as before
pub last_more : (test : WorldOf → Event → Bool) (script : ScriptOf) (h : List Event) (e : Event) → since test 0 (begun script) (h ++ e ∷ []) ≡ cond (test (world_after script h) e) (world_after script h).fabric.tick (since test 0 (begun script) h)
unfolding world_after
last_more test script h e = since_more test 0 (begun script) h (e ∷ [])
