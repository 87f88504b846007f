-- Without a pace each command is done at its time.

use Rattle.std.specs.Prelude.{◌≡◌, ◌⊎◌, ◌+◌, ◌≤◌, ◌<◌, ◌&&◌, ◌||◌, ℕ, nat_le, List, [], ◌∷◌, ◌++◌, All, slice_get, slice_index_or, length, Option, Some, None, is_some, not, Bool, true, false, cond, refl}
use Rattle.std.specs.Option.{option_and_then}
use Rattle.std.proofs.Common.{◌∙◌, inl, inr, sym, ap, subst, arith}
use Rattle.std.proofs.lemmas.Bool.{true≢false, and_parts, leb-false}
use Rattle.std.proofs.lemmas.Option.{slice_get_within, get_or_from_slice_get}
use Rattle.an_base.specs.Values.{TopoOf}
use Rattle.an_base.specs.declared.event.Event.{Event}
use Rattle.an_base.specs.declared.event.Event.TheVariants.{Tick, Clock, Take, Handle, Load, Fail, Repair, Lose, Again, Swap, Noise, Send, Move, Restart}
use Rattle.common_values.proofs.TestLemmas.{by_choice}
use Rattle.net_script.specs.declared.command.Command.{Command}
use Rattle.net_script.specs.Scripts.{ScriptOf, IsScript}
use Rattle.switch_core.specs.Switch.{finish_of}
use Rattle.net_state.specs.Fabric.{FabricOf, next_command, if_due, due_command, is_some_packet, full_hands, is_some_clock_due}
use Rattle.net_state.specs.Lawful.{is_lawful, is_tick_due}
use Rattle.net_state.proofs.LawfulLemmas.{IsCommandOf, lawful_is, ready_command, command_is}
use Rattle.net_state.proofs.ReadyLemmas.{restart_ready}
use Rattle.net_world.specs.World.{WorldOf, begun, effect, world_after, loads_with}
use Rattle.net_world.proofs.InductionLemmas.{always, world_script}
use Rattle.net_game.proofs.HistoryLemmas.{by_events}
use Rattle.net_settling.specs.Disturbances.{is_told, is_of_script, loses, disturbs, loses_as_told, last_loss}
use Rattle.net_settling.specs.Settling.{IsLimitLate, last_told}
use Rattle.net_settling.proofs.Since.{last_more, since_past}

-- a lawful command is the next one
pub command_of : (f : FabricOf) (e : Event) → is_lawful f e ≡ true → is_of_script e ≡ true → IsCommandOf f e
command_of f Tick lawful is = absurd (true≢false (sym is))
command_of f (Clock s) lawful is = absurd (true≢false (sym is))
command_of f (Take s p) lawful is = absurd (true≢false (sym is))
command_of f (Handle s) lawful is = absurd (true≢false (sym is))
command_of f (Load s) lawful is = absurd (true≢false (sym is))
command_of f (Move k) lawful is = absurd (true≢false (sym is))
command_of f (Fail s p) lawful is = ready_command f (Fail s p) lawful refl
command_of f (Repair s p) lawful is = ready_command f (Repair s p) lawful refl
command_of f (Lose s p n) lawful is = ready_command f (Lose s p n) lawful refl
command_of f (Again s p n) lawful is = ready_command f (Again s p n) lawful refl
command_of f (Swap s p n) lawful is = ready_command f (Swap s p n) lawful refl
command_of f (Noise s p n) lawful is = ready_command f (Noise s p n) lawful refl
command_of f (Send a b) lawful is = ready_command f (Send a b) lawful refl
command_of f (Restart s) lawful is = command_is f (Restart s) (restart_ready f s (lawful_is f (Restart s) lawful).ready).0

-- what an event does to the clock and to the commands done
pub record IsStepOf (e : Event) (w v : WorldOf) : Type 0 where
  pub tick : v.fabric.tick ≡ w.fabric.tick
  pub done : v.fabric.done ≡ w.fabric.done + cond (is_of_script e) 1 0

loads_step : (o : Option TopoOf) (s : ℕ) (w : WorldOf) → IsStepOf (Load s) w (loads_with o s w)
loads_step None s w = record { tick = refl; done = omega arith }
loads_step (Some topo) s w = record { tick = refl; done = omega arith }

pub step_of : (e : Event) (w : WorldOf) → (e ≡ Tick) ⊎ IsStepOf e w (effect e w)
unfolding effect
step_of Tick w = inl refl
step_of (Load s) w = inr (loads_step (finish_of (w.switches s)) s w)
step_of (Clock s) w = inr (record { tick = refl; done = omega arith })
step_of (Take s p) w = inr (record { tick = refl; done = omega arith })
step_of (Handle s) w = inr (record { tick = refl; done = omega arith })
step_of (Move k) w = inr (record { tick = refl; done = omega arith })
step_of e w = inr (record { tick = refl; done = refl })

pub ticked : (w : WorldOf) → ((effect Tick w).fabric.tick ≡ w.fabric.tick + 1) × ((effect Tick w).fabric.done ≡ w.fabric.done)
unfolding effect
ticked w = (refl, refl)

-- no command's time is past
abbrev AreInTime : ScriptOf → WorldOf → Type 0
AreInTime script w = (c : Command) → slice_get script.commands w.fabric.done ≡ Some c → w.fabric.tick ≤ c.time

none_due : (f : FabricOf) (c : Command) → is_tick_due f ≡ true → next_command f ≡ Some c → f.tick < c.time
none_due f c due next =
    by (not (is_some_packet f)) (not (Rattle.std.specs.Prelude.nat_lt 0 (full_hands f))) (not (is_some_clock_due f)) _ _ due
  where
    late : (b : Bool) → nat_le c.time f.tick ≡ b → not (is_some (cond b (Some c.event) None)) ≡ true → f.tick < c.time
    late true is none = absurd (true≢false (sym none))
    late false is none = leb-false c.time f.tick is

    by : (a b d g h : Bool) → (not (is_some (due_command f)) && a && b && d && g && h) ≡ true → f.tick < c.time
    by a b d g h all =
        let p1 = (and_parts (not (is_some (due_command f)) && a && b && d && g) h all).0 in
        let p2 = (and_parts (not (is_some (due_command f)) && a && b && d) g p1).0 in
        let p3 = (and_parts (not (is_some (due_command f)) && a && b) d p2).0 in
        let p4 = (and_parts (not (is_some (due_command f)) && a) b p3).0 in
        let p5 = (and_parts (not (is_some (due_command f))) a p4).0 in
        late (nat_le c.time f.tick) refl (sym (ap (λ o. not (is_some (option_and_then (if_due f.tick) o))) next) ∙ p5)

next_in_time : (script : ScriptOf) → IsScript script → (w v : WorldOf) (e : Event) → IsStepOf e w v → (is_of_script e ≡ true → (c : Command) × (slice_get script.commands w.fabric.done ≡ Some c)) → AreInTime script w → AreInTime script v
next_in_time script kept w v e step is old c at = by (is_of_script e) refl
  where
    tick : v.fabric.tick ≡ w.fabric.tick
    tick = step.tick

    by : (b : Bool) → is_of_script e ≡ b → v.fabric.tick ≤ c.time
    by false none =
        let done : v.fabric.done ≡ w.fabric.done = step.done ∙ ap (λ b. w.fabric.done + cond b 1 0) none ∙ omega arith in
        let low = old c (sym (ap (slice_get script.commands) done) ∙ at) in
        omega (arith, low, tick)
    by true some =
        let k = is some in
        let done : v.fabric.done ≡ w.fabric.done + 1 = step.done ∙ ap (λ b. w.fabric.done + cond b 1 0) some in
        let low = old k.0 k.1 in
        let first = get_or_from_slice_get script.commands w.fabric.done k.0 c k.1 in
        let next = get_or_from_slice_get script.commands v.fabric.done c c at in
        let rises = kept.times w.fabric.done v.fabric.done c (omega (arith, done)) (slice_get_within script.commands v.fabric.done c at) in
        let a = ap (λ (x : Command). x.time) first in
        let b = ap (λ (x : Command). x.time) next in
        omega (arith, low, tick, rises, a, b)

in_time_step : (script : ScriptOf) → IsScript script → (h : List Event) (e : Event) → is_lawful (world_after script h).fabric e ≡ true → AreInTime script (world_after script h) → AreInTime script (effect e (world_after script h))
in_time_step script kept h e lawful old = by (step_of e (world_after script h))
  where
    w : WorldOf
    w = world_after script h

    same : w.fabric.script ≡ script
    same = world_script script h

    by : (e ≡ Tick) ⊎ IsStepOf e w (effect e w) → AreInTime script (effect e w)
    by (inl is) c at =
        let t = ap (λ x. (effect x w).fabric.tick) is ∙ (ticked w).0 in
        let d = ap (λ x. (effect x w).fabric.done) is ∙ (ticked w).1 in
        let due = (lawful_is w.fabric Tick (subst (λ x. is_lawful w.fabric x ≡ true) is lawful)).ready in
        let low = none_due w.fabric c due (ap (λ (s : ScriptOf). slice_get s.commands w.fabric.done) same ∙ sym (ap (slice_get script.commands) d) ∙ at) in
        omega (arith, t, low)
    by (inr step) c at = next_in_time script kept w (effect e w) e step
        (λ is. let k = command_of w.fabric e lawful is in (k.command, sym (ap (λ (s : ScriptOf). slice_get s.commands w.fabric.done) same) ∙ k.there)) old c at

-- at no moment is a command late
pub in_time : (script : ScriptOf) → IsScript script → (h : List Event) → AreInTime script (world_after script h)
in_time script kept h = always script (AreInTime script) (λ c at. omega arith) (in_time_step script kept) h

-- so the tick of the last command done or told loss is early enough where the times and the losses are
command_early : (script : ScriptOf) → IsScript script → (h : List Event) (e : Event) (limit : ℕ) → All (λ (c : Command). c.time + 1024 ≤ limit) script.commands → is_lawful (world_after script h).fabric e ≡ true → is_of_script e ≡ true → (world_after script h).fabric.tick + 1024 ≤ limit
command_early script kept h e limit times lawful is =
    let f = (world_after script h).fabric in
    let k = command_of f e lawful is in
    let at : slice_get script.commands f.done ≡ Some k.command = sym (ap (λ (s : ScriptOf). slice_get s.commands f.done) (world_script script h)) ∙ k.there in
    let low = in_time script kept h k.command at in
    let t = times f.done k.command (slice_get_within script.commands f.done k.command at) in
    let e = ap (λ (x : Command). x.time) (get_or_from_slice_get script.commands f.done k.command k.command at) in
    omega (arith, low, t, e)

abbrev IsEarly : ScriptOf → ℕ → List Event → Type 0
IsEarly script limit h = last_loss script h + 1024 ≤ limit → last_told script h + 1024 ≤ limit

loss_past : (script : ScriptOf) (h : List Event) → last_loss script h ≤ (world_after script h).fabric.tick
unfolding world_after
loss_past script h = since_past loses_as_told 0 (begun script) h (omega arith)

early_step : (script : ScriptOf) → IsScript script → (limit : ℕ) → All (λ (c : Command). c.time + 1024 ≤ limit) script.commands → (h : List Event) (e : Event) → IsEarly script limit h → IsEarly script limit (h ++ e ∷ [])
early_step script kept limit times h e old late = by (is_lawful w.fabric e) refl (is_of_script e) refl (loses is_told w e) refl
  where
    w : WorldOf
    w = world_after script h

    told : last_told script (h ++ e ∷ []) ≡ cond (disturbs is_told w e) w.fabric.tick (last_told script h)
    told = last_more (disturbs is_told) script h e

    loss : last_loss script (h ++ e ∷ []) ≡ cond (loses_as_told w e) w.fabric.tick (last_loss script h)
    loss = last_more loses_as_told script h e

    past : last_loss script h ≤ w.fabric.tick
    past = loss_past script h

    grown : last_loss script h ≤ last_loss script (h ++ e ∷ [])
    grown = subst (λ n. last_loss script h ≤ n) (sym loss) (by_choice (λ n. last_loss script h ≤ n) (loses_as_told w e) w.fabric.tick (last_loss script h) (λ _. past) (λ _. omega arith))

    by : (a : Bool) → is_lawful w.fabric e ≡ a → (b : Bool) → is_of_script e ≡ b → (c : Bool) → loses is_told w e ≡ c → last_told script (h ++ e ∷ []) + 1024 ≤ limit
    by false unlawful b is_b c is_c =
        let same : last_told script (h ++ e ∷ []) ≡ last_told script h = told ∙ ap (λ x. cond (x && (is_of_script e || loses is_told w e)) w.fabric.tick (last_told script h)) unlawful in
        let before = old (omega (arith, late, grown)) in
        omega (arith, same, before)
    by true lawful true is_b c is_c =
        let now : last_told script (h ++ e ∷ []) ≡ w.fabric.tick = told ∙ ap (λ x. cond (x && (is_of_script e || loses is_told w e)) w.fabric.tick (last_told script h)) lawful ∙ ap (λ x. cond (x || loses is_told w e) w.fabric.tick (last_told script h)) is_b in
        let early = command_early script kept h e limit times lawful is_b in
        omega (arith, now, early)
    by true lawful false is_b true is_c =
        let now : last_told script (h ++ e ∷ []) ≡ w.fabric.tick = told ∙ ap (λ x. cond (x && (is_of_script e || loses is_told w e)) w.fabric.tick (last_told script h)) lawful ∙ ap (λ x. cond (is_of_script e || x) w.fabric.tick (last_told script h)) is_c ∙ ap (λ x. cond (x || true) w.fabric.tick (last_told script h)) is_b in
        let lost : last_loss script (h ++ e ∷ []) ≡ w.fabric.tick = loss ∙ ap (λ x. cond (x && loses is_told w e) w.fabric.tick (last_loss script h)) lawful ∙ ap (λ x. cond x w.fabric.tick (last_loss script h)) is_c in
        omega (arith, now, lost, late)
    by true lawful false is_b false is_c =
        let same : last_told script (h ++ e ∷ []) ≡ last_told script h = told ∙ ap (λ x. cond (x && (is_of_script e || loses is_told w e)) w.fabric.tick (last_told script h)) lawful ∙ ap (λ x. cond (is_of_script e || x) w.fabric.tick (last_told script h)) is_c ∙ ap (λ x. cond (x || false) w.fabric.tick (last_told script h)) is_b in
        let before = old (omega (arith, late, grown)) in
        omega (arith, same, before)

first_early : (script : ScriptOf) (limit : ℕ) → IsEarly script limit []
first_early script limit late = late

pub told_late : (script : ScriptOf) → IsScript script → (h : List Event) → IsLimitLate script h → last_told script h + 1024 ≤ script.limits.ticks
told_late script kept h late =
    by_events (IsEarly script script.limits.ticks) (first_early script script.limits.ticks) (early_step script kept script.limits.ticks late.commands) h late.losses
