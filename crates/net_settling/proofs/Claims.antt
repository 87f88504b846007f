-- What is claimed of a history follows from what is so at each of its moments.

use Rattle.std.specs.Prelude.{◌≡◌, ◌⊎◌, ◌+◌, ◌≤◌, ◌<◌, ◌==◌, ◌&&◌, ◌||◌, ℕ, nat_lt, not, List, [], ◌∷◌, ◌++◌, All, slice_get, Option, Some, None, is_some, Bool, true, false, cond, refl}
use Rattle.std.specs.List.{list_any}
use Rattle.std.specs.Option.{option_and_then}
use Rattle.std.proofs.Common.{◌∙◌, inl, inr, ⊎_elim, sym, ap, subst, arith, append_assoc}
use Rattle.std.proofs.lemmas.Bool.{false≢true, true≢false, and_parts, and_from, or_parts, cases_Bool, cases_lt, le-leb, eqb-true}
use Rattle.std.proofs.lemmas.List.{append-nil}
use Rattle.std.proofs.lemmas.Option.{same_Some, none-some, slice_get_within, get_or_from_slice_get}
use Rattle.an_base.specs.Values.{LifeId, TopoOf}
use Rattle.an_base.specs.declared.event.Event.{Event}
use Rattle.an_base.specs.declared.event.Event.TheVariants.{Tick, Clock, Take, Handle, Load, Move}
use Rattle.net_script.specs.declared.command.Command.{Command}
use Rattle.net_script.specs.Scripts.{ScriptOf, IsScript}
use Rattle.wire_set.specs.declared.side.Loss.TheVariants.{Down, Told, NoRoom}
use Rattle.switch_core.specs.Switch.{finish_of}
use Rattle.net_state.specs.declared.ending.Ending.{Ending}
use Rattle.net_state.specs.declared.ending.Ending.TheVariants as ending
use Rattle.net_state.specs.Fabric.{FabricOf, next_command, if_due, room, due_command, are_all_done, full_hands, is_some_unacked, is_some_packet, is_some_clock_due, is_some_load_due, are_wires_empty}
use Rattle.net_state.specs.Agree.{agrees, is_idle, is_quiet, is_settled, is_unsettled, ending_of, ending_by, first_spent}
use Rattle.net_state.specs.Lawful.{is_lawful, is_paced}
use Rattle.net_state.proofs.LawfulLemmas.{lawful_is}
use Rattle.net_state.specs.declared.line.Line.{Line}
use Rattle.net_state.specs.declared.line.Line.TheVariants as line
use Rattle.net_world.specs.Lines.{lines_of}
use Rattle.net_world.specs.World.{WorldOf, begun, effect, step, after_all, world_after, loads_with}
use Rattle.net_world.specs.Histories.{AreLawful, IsLawful, end_of}
use Rattle.net_world.proofs.InductionLemmas.{world_script}
use Rattle.net_world.proofs.WorldLemmas.{world_after-event, step-lawful, none_at_end}
use Rattle.net_settling.specs.Disturbances.{is_told, is_for_room, is_either, is_lost_by, loses, is_of_script, disturbs, since, last_disturbance, NoneForRoom}
use Rattle.net_settling.specs.Settling.{is_still, ports_shown, ArePortsFinal, AreBodiesThrough, PortsSettle, MomentsSettle, IsLimitLate, Settles, IfUnpacedAndRoomy, last_told}
use Rattle.net_settling.proofs.Since.{step_tick, last_more, since_more, since_grows, disturbance_grows}
use Rattle.net_settling.proofs.Times.{told_late}

-- beginnings of lawful histories
front_lawful : (w : WorldOf) (h more : List Event) → AreLawful w (h ++ more) → AreLawful w h
front_lawful w [] more lawful = tt
front_lawful w (e ∷ h) more lawful = (lawful.0, front_lawful (step w e) h more lawful.1)

rest_lawful : (w : WorldOf) (h more : List Event) → AreLawful w (h ++ more) → AreLawful (after_all h w) more
rest_lawful w [] more lawful = lawful
rest_lawful w (e ∷ h) more lawful = rest_lawful (step w e) h more lawful.1

next_lawful : (script : ScriptOf) (h later : List Event) (e : Event) → IsLawful script (h ++ e ∷ later) → is_lawful (world_after script h).fabric e ≡ true
unfolding world_after
next_lawful script h later e lawful = (rest_lawful (begun script) h (e ∷ later) lawful).0

-- where nothing is lost for room, told losses are all
line_told : (x : Line) → is_lost_by is_for_room x ≡ false → is_lost_by is_told x ≡ is_lost_by is_either x
line_told (line.Lost s port Down) room = refl
line_told (line.Lost s port Told) room = refl
line_told (line.Lost s port (NoRoom need free)) room = absurd (true≢false room)
line_told other room = refl

lines_told : (xs : List Line) → list_any (is_lost_by is_for_room) xs ≡ false → list_any (is_lost_by is_told) xs ≡ list_any (is_lost_by is_either) xs
lines_told [] room = refl
lines_told (x ∷ xs) room =
    let parts = or_parts (is_lost_by is_for_room x) (list_any (is_lost_by is_for_room) xs) room in
    ap (λ b. b || list_any (is_lost_by is_told) xs) (line_told x parts.0)
    ∙ ap (λ b. is_lost_by is_either x || b) (lines_told xs parts.1)

-- a command disturbs whatever it loses
either_of : (command told either room : Bool) → (room ≡ false → told ≡ either) → (command ≡ false → room ≡ false) → (command || told) ≡ (command || either)
either_of true told either room same none = refl
either_of false told either room same none = ap (λ b. false || b) (same (none refl))

abbrev NoneAlong : WorldOf → List Event → Type 0
NoneAlong w es = (before later : List Event) (e : Event) → es ≡ before ++ e ∷ later → is_of_script e ≡ false → loses is_for_room (after_all before w) e ≡ false

since_told : (c : ℕ) (w : WorldOf) (es : List Event) → NoneAlong w es → since (disturbs is_told) c w es ≡ since (disturbs is_either) c w es
since_told c w [] room = refl
since_told c w (e ∷ es) room =
    ap (λ b. since (disturbs is_told) (cond (is_lawful w.fabric e && b) w.fabric.tick c) (step w e) es)
    (either_of (is_of_script e) (loses is_told w e) (loses is_either w e) (loses is_for_room w e) (lines_told (lines_of w e)) (room [] es e refl))
    ∙ since_told (cond (disturbs is_either w e) w.fabric.tick c) (step w e) es (λ before later x is. room (e ∷ before) later x (ap (λ l. e ∷ l) is))

told_is : (script : ScriptOf) (history : List Event) → NoneForRoom script history → last_told script history ≡ last_disturbance is_either script history
unfolding world_after
told_is script history room = since_told 0 (begun script) history room

-- what disturbs is not above the last disturbance
undisturbed : (script : ScriptOf) (h later : List Event) (e : Event) → last_disturbance is_either script (h ++ e ∷ later) < (world_after script h).fabric.tick → disturbs is_either (world_after script h) e ≡ false
unfolding world_after
undisturbed script h later e above =
    let w = after_all h (begun script) in
    let c = since (disturbs is_either) 0 (begun script) h in
    ⊎_elim
    (λ (does : disturbs is_either w e ≡ true). absurd (
    let m = since_more (disturbs is_either) 0 (begun script) h (e ∷ later) in
    let n : since (disturbs is_either) c w (e ∷ later) ≡ since (disturbs is_either) w.fabric.tick (step w e) later = ap (λ b. since (disturbs is_either) (cond b w.fabric.tick c) (step w e) later) does in
    let g = since_grows (disturbs is_either) w.fabric.tick (step w e) later (step_tick w e) in
    omega (arith, above, m, n, g)))
    (λ not. not)
    (cases_Bool (disturbs is_either w e))

-- what an event does to the clock and to the commands
record IsQuietStep (e : Event) (w v : WorldOf) : Type 0 where
  tick : v.fabric.tick ≡ w.fabric.tick
  done : (is_of_script e ≡ true) ⊎ (are_all_done v.fabric ≡ are_all_done w.fabric)

loads_quiet : (o : Option TopoOf) (s : ℕ) (w : WorldOf) → IsQuietStep (Load s) w (loads_with o s w)
loads_quiet None s w = record { tick = refl; done = inr refl }
loads_quiet (Some topo) s w = record { tick = refl; done = inr refl }

kind_of : (e : Event) (w : WorldOf) → (e ≡ Tick) ⊎ IsQuietStep e w (effect e w)
unfolding effect
kind_of Tick w = inl refl
kind_of (Clock s) w = inr (record { tick = refl; done = inr refl })
kind_of (Take s p) w = inr (record { tick = refl; done = inr refl })
kind_of (Handle s) w = inr (record { tick = refl; done = inr refl })
kind_of (Load s) w = inr (loads_quiet (finish_of (w.switches s)) s w)
kind_of (Move k) w = inr (record { tick = refl; done = inr refl })
kind_of e w = inr (record { tick = refl; done = inl refl })

tick_effect : (w : WorldOf) → ((effect Tick w).fabric.tick ≡ w.fabric.tick + 1) × (are_all_done (effect Tick w).fabric ≡ are_all_done w.fabric)
unfolding effect
tick_effect w = (refl, refl)

-- a tick comes only where nothing else is left to do, and the network is not settled
unpaced_or : (a : Bool) (pace : Option ℕ) (n : ℕ) → pace ≡ None → (a || is_paced pace n) ≡ true → a ≡ true
unpaced_or true pace n none h = refl
unpaced_or false pace n none h = absurd (false≢true (sym (ap (λ p. is_paced p n) none) ∙ h))

still_from : (c p h k t a l r : Bool) → (c && p && h && k && t && r) ≡ true → (r ≡ true → (a && l) ≡ true) → (c && h && (p && k && l && a)) ≡ true
still_from true true true true true true true true all both = refl
still_from true true true true true false l true all both = absurd (false≢true (both refl))
still_from true true true true true true false true all both = absurd (false≢true (both refl))
still_from false p h k t a l r all both = absurd (false≢true all)
still_from true false h k t a l r all both = absurd (false≢true all)
still_from true true false k t a l r all both = absurd (false≢true all)
still_from true true true false t a l r all both = absurd (false≢true all)
still_from true true true true false a l r all both = absurd (false≢true all)
still_from true true true true true a l false all both = absurd (false≢true all)

pub tick_still : (f : FabricOf) → f.script.pace ≡ None → is_lawful f Tick ≡ true → is_still f ≡ true
tick_still f none lawful =
    still_from (not (is_some (due_command f))) (not (is_some_packet f)) (not (nat_lt 0 (full_hands f))) (not (is_some_clock_due f)) (nat_lt f.tick f.script.limits.ticks) (are_wires_empty f) (not (is_some_load_due f))
    ((are_wires_empty f && not (is_some_load_due f)) || is_paced f.script.pace f.since) (lawful_is f Tick lawful).ready
    (λ r. unpaced_or (are_wires_empty f && not (is_some_load_due f)) f.script.pace f.since none r)

-- what is still is at an end where it is settled
hands_of : (c h i : Bool) → (c && not h && i) ≡ true → h ≡ false
hands_of true false i all = refl
hands_of true true i all = absurd (false≢true all)
hands_of false h i all = absurd (false≢true all)

ended_by : (o : Option LifeId) (f : FabricOf) → is_settled f ≡ true → (end : Ending) × (ending_by o f ≡ Some end)
ended_by (Some life) f settled = (ending.Spent life, refl)
ended_by None f settled = (ending.Settled, ap (λ b. cond b (Some ending.Settled) (cond (nat_lt (room f) 2) (Some ending.Full) (cond (is_unsettled f) (Some ending.Unsettled) None))) settled)

tick_unsettled : (f : FabricOf) → is_still f ≡ true → is_lawful f Tick ≡ true → is_settled f ≡ true → ⊥
unfolding ending_of
tick_unsettled f still lawful settled =
    let hands = hands_of (not (is_some (due_command f))) (nat_lt 0 (full_hands f)) (is_idle f) still in
    let by = ended_by (first_spent f) f settled in
    let ends : ending_of f ≡ Some by.0 = ap (λ b. cond b None (ending_by (first_spent f) f)) hands ∙ by.1 in
    true≢false (sym lawful ∙ none_at_end f by.0 Tick ends)

-- what is still so late after the last disturbance is settled
all_three : (a b c : Bool) → a ≡ true → b ≡ true → c ≡ true → (a && b && c) ≡ true
all_three a b c x y z = and_from (a && b) c (and_from a b x y) z

third_of : (a b c : Bool) → (a && b && c) ≡ true → c ≡ true
third_of a b c h = (and_parts (a && b) c h).1

record AreBoth (script : ScriptOf) : Type 0 where
  ports : ArePortsFinal script
  bodies : AreBodiesThrough script

settled_at : (script : ScriptOf) (h : List Event) → AreBoth script → IsLawful script h → are_all_done (world_after script h).fabric ≡ true → is_still (world_after script h).fabric ≡ true
    → last_disturbance is_either script h + 262 ≤ (world_after script h).fabric.tick → is_settled (world_after script h).fabric ≡ true
settled_at script h final lawful done still late =
    let f = (world_after script h).fabric in
    let a = (final.ports h lawful (omega (arith, late))).agree in
    let b = final.bodies h lawful late still in
    all_three (are_all_done f) (is_quiet f) (agrees f) done
    (and_from (is_idle f) (not (is_some_unacked f)) (third_of (not (is_some (due_command f))) (not (nat_lt 0 (full_hands f))) (is_idle f) still) (ap not b)) a

-- the clock stays within the bound once all commands are done
abbrev IsWithin : ScriptOf → List Event → Type 0
IsWithin script h = are_all_done (world_after script h).fabric ≡ true → (world_after script h).fabric.tick ≤ last_disturbance is_either script h + 1024

next_is : (script : ScriptOf) (h : List Event) (e : Event) → is_lawful (world_after script h).fabric e ≡ true → world_after script (h ++ e ∷ []) ≡ effect e (world_after script h)
next_is script h e lawful = world_after-event script h e ∙ step-lawful (world_after script h) e lawful

command_last : (script : ScriptOf) (h : List Event) (e : Event) → is_lawful (world_after script h).fabric e ≡ true → is_of_script e ≡ true → last_disturbance is_either script (h ++ e ∷ []) ≡ (world_after script h).fabric.tick
command_last script h e lawful command =
    let w = world_after script h in
    last_more (disturbs is_either) script h e
    ∙ ap (λ b. cond (b && (is_of_script e || loses is_either w e)) w.fabric.tick (last_disturbance is_either script h)) lawful
    ∙ ap (λ b. cond (b || loses is_either w e) w.fabric.tick (last_disturbance is_either script h)) command

within_tick : (script : ScriptOf) (h : List Event) → script.pace ≡ None → AreBoth script → IsLawful script h → is_lawful (world_after script h).fabric Tick ≡ true → IsWithin script h → IsWithin script (h ++ Tick ∷ [])
within_tick script h unpaced final lawful tick within done =
    let w = world_after script h in
    let e = next_is script h Tick tick in
    let t = ap (λ (v : WorldOf). v.fabric.tick) e ∙ (tick_effect w).0 in
    let d = sym (ap (λ (v : WorldOf). are_all_done v.fabric) e ∙ (tick_effect w).1) ∙ done in
    let g = disturbance_grows is_either script h (Tick ∷ []) in
    ⊎_elim
    (λ (early : w.fabric.tick < last_disturbance is_either script h + 1024). omega (arith, t, g, early))
    (λ (late : last_disturbance is_either script h + 1024 ≤ w.fabric.tick). absurd (
    let still = tick_still w.fabric (ap (λ (x : ScriptOf). x.pace) (world_script script h) ∙ unpaced) tick in
    tick_unsettled w.fabric still tick (settled_at script h final lawful d still (omega (arith, late)))))
    (cases_lt w.fabric.tick (last_disturbance is_either script h + 1024))

within_step : (script : ScriptOf) (h : List Event) (e : Event) → script.pace ≡ None → AreBoth script → IsLawful script h → is_lawful (world_after script h).fabric e ≡ true → IsWithin script h → IsWithin script (h ++ e ∷ [])
within_step script h e unpaced final lawful next within =
    ⊎_elim
    (λ (is : e ≡ Tick). subst (λ x. IsWithin script (h ++ x ∷ [])) (sym is) (within_tick script h unpaced final lawful (subst (λ x. is_lawful (world_after script h).fabric x ≡ true) is next) within))
    (λ quiet done.
    let w = world_after script h in
    let e1 = next_is script h e next in
    let t = ap (λ (v : WorldOf). v.fabric.tick) e1 ∙ quiet.tick in
    let g = disturbance_grows is_either script h (e ∷ []) in
    ⊎_elim
    (λ command. let c = command_last script h e next command in omega (arith, t, c))
    (λ stays. let i = within (sym (ap (λ (v : WorldOf). are_all_done v.fabric) e1 ∙ stays) ∙ done) in omega (arith, t, i, g))
    quiet.done)
    (kind_of e (world_after script h))

pieces : (h later : List Event) (e : Event) → (h ++ e ∷ []) ++ later ≡ h ++ (e ∷ later)
pieces h later e = append_assoc h (e ∷ []) later

on_the_way : (script : ScriptOf) (later h : List Event) → script.pace ≡ None → AreBoth script → IsLawful script (h ++ later) → IsWithin script h → IsWithin script (h ++ later)
on_the_way script [] h unpaced final lawful way = subst (IsWithin script) (sym (append-nil h)) way
on_the_way script (e ∷ later) h unpaced final lawful way =
    let next = next_lawful script h later e lawful in
    let front = front_lawful (begun script) h (e ∷ later) lawful in
    subst (IsWithin script) (pieces h later e)
    (on_the_way script later (h ++ e ∷ []) unpaced final (subst (IsLawful script) (sym (pieces h later e)) lawful)
    (within_step script h e unpaced final front next way))

first_way : (script : ScriptOf) → IsWithin script []
unfolding world_after
first_way script = λ _. omega arith

-- no port changes any more
ports_stay : (script : ScriptOf) (later h : List Event) → ArePortsFinal script → IsLawful script (h ++ later) → last_disturbance is_either script (h ++ later) + 512 < (world_after script h).fabric.tick
    → ports_shown (world_after script (h ++ later)).fabric ≡ ports_shown (world_after script h).fabric
ports_stay script [] h final lawful late = ap (λ l. ports_shown (world_after script l).fabric) (append-nil h)
ports_stay script (e ∷ later) h final lawful late =
    let next = next_lawful script h later e lawful in
    let front = front_lawful (begun script) h (e ∷ later) lawful in
    let g = disturbance_grows is_either script h (e ∷ later) in
    let fixed = (final h front (omega (arith, late, g))).stay e next (undisturbed script h later e (omega (arith, late))) in
    let whole = ap (last_disturbance is_either script) (pieces h later e) in
    let t = step_tick (world_after script h) e in
    let u = ap (λ (v : WorldOf). v.fabric.tick) (world_after-event script h e) in
    sym (ap (λ l. ports_shown (world_after script l).fabric) (pieces h later e))
    ∙ ports_stay script later (h ++ e ∷ []) final (subst (IsLawful script) (sym (pieces h later e)) lawful) (omega (arith, whole, t, u, late))
    ∙ fixed

-- what is claimed of the ports
pub ports_settle : (script : ScriptOf) → IsScript script → ArePortsFinal script → (history : List Event) → IsLawful script history → IfUnpacedAndRoomy script PortsSettle history
ports_settle script kept final history lawful unpaced room before later parts late =
    let told = told_is script history room in
    let whole = ap (last_disturbance is_either script) parts in
    let both = subst (IsLawful script) parts lawful in
    let g = disturbance_grows is_either script before later in
    record {
      agree = (final before (front_lawful (begun script) before later both) (omega (arith, late, told, whole, g))).agree;
      stay = ports_stay script later before final both (omega (arith, late, told, whole));
    }

-- and of each moment
moments_settle : (script : ScriptOf) → script.pace ≡ None → AreBoth script → (history : List Event) → IsLawful script history → NoneForRoom script history → MomentsSettle script history
moments_settle script unpaced final history lawful room before later parts done =
    let told = told_is script history room in
    let whole = ap (last_disturbance is_either script) parts in
    let front = front_lawful (begun script) before later (subst (IsLawful script) parts lawful) in
    let g = disturbance_grows is_either script before later in
    record {
      within = let w = on_the_way script before [] unpaced final front (first_way script) done in omega (arith, w, told, whole, g);
      settled = λ still late. settled_at script before final front done still (omega (arith, late, told, whole, g));
    }

-- nor does it end unsettled
record EndsUnsettled (f : FabricOf) : Type 0 where
  not_settled : is_settled f ≡ false
  unsettled : is_unsettled f ≡ true

other_end : (a b : Ending) → (Some a ≡ Some b) → a ≡ b
other_end a b e = same_Some a b e

unsettled_by : (o : Option LifeId) (f : FabricOf) → ending_by o f ≡ Some ending.Unsettled → EndsUnsettled f
unsettled_by (Some life) f = λ e. absurd (let d = other_end (ending.Spent life) ending.Unsettled e in cc)
unsettled_by None f = by_settled (is_settled f) refl
  where
    rest : Option Ending
    rest = cond (nat_lt (room f) 2) (Some ending.Full) (cond (is_unsettled f) (Some ending.Unsettled) None)

    by_unsettled : (b : Bool) → is_unsettled f ≡ b → is_settled f ≡ false → cond b (Some ending.Unsettled) None ≡ Some ending.Unsettled → EndsUnsettled f
    by_unsettled true is not_settled e = record { not_settled = not_settled; unsettled = is }
    by_unsettled false is not_settled e = absurd (none-some ending.Unsettled e)

    by_room : (b : Bool) → is_settled f ≡ false → cond b (Some ending.Full) (cond (is_unsettled f) (Some ending.Unsettled) None) ≡ Some ending.Unsettled → EndsUnsettled f
    by_room true not_settled e = absurd (let d = other_end ending.Full ending.Unsettled e in cc)
    by_room false not_settled e = by_unsettled (is_unsettled f) refl not_settled e

    by_settled : (b : Bool) → is_settled f ≡ b → cond b (Some ending.Settled) rest ≡ Some ending.Unsettled → EndsUnsettled f
    by_settled true is e = absurd (let d = other_end ending.Settled ending.Unsettled e in cc)
    by_settled false is e = by_room (nat_lt (room f) 2) is e

ends_unsettled : (f : FabricOf) → ending_of f ≡ Some ending.Unsettled → EndsUnsettled f × (nat_lt 0 (full_hands f) ≡ false)
unfolding ending_of
ends_unsettled f = by (nat_lt 0 (full_hands f)) refl
  where
    by : (b : Bool) → nat_lt 0 (full_hands f) ≡ b → cond b None (ending_by (first_spent f) f) ≡ Some ending.Unsettled → EndsUnsettled f × (nat_lt 0 (full_hands f) ≡ false)
    by true is e = absurd (none-some ending.Unsettled e)
    by false is e = (unsettled_by (first_spent f) f e, is)

-- with no command due and the times of all past, all are done
all_past : (o : Option Command) (now : ℕ) → ((c : Command) → o ≡ Some c → c.time ≤ now) → not (is_some (option_and_then (if_due now) o)) ≡ true → not (is_some o) ≡ true
all_past None now past due = refl
all_past (Some c) now past due = absurd (false≢true (sym (ap (λ b. not (is_some (cond b (Some c.event) None))) (le-leb c.time now (past c refl))) ∙ due))

times_past : (script : ScriptOf) (f : FabricOf) → f.script ≡ script → script.limits.ticks ≤ f.tick → All (λ (c : Command). c.time + 1024 ≤ script.limits.ticks) script.commands → (c : Command) → next_command f ≡ Some c → c.time ≤ f.tick
times_past script f same late times c is =
    let at : slice_get script.commands f.done ≡ Some c = sym (ap (λ (s : ScriptOf). slice_get s.commands f.done) same) ∙ is in
    let t = times f.done c (slice_get_within script.commands f.done c at) in
    let e = ap (λ (x : Command). x.time) (get_or_from_slice_get script.commands f.done c c at) in
    omega (arith, t, e, late)

in_time : (script : ScriptOf) (h : List Event) → IsScript script → script.pace ≡ None → AreBoth script → IsLawful script h → NoneForRoom script h → IsLimitLate script h → end_of script h ≡ Some ending.Unsettled → ⊥
in_time script h kept unpaced final lawful room late ends =
    let f = (world_after script h).fabric in
    let same = world_script script h in
    let e = ends_unsettled f ends in
    let parts = and_parts ((f.tick == f.script.limits.ticks) && not (is_some (due_command f))) (is_idle f) e.0.unsettled in
    let first = and_parts (f.tick == f.script.limits.ticks) (not (is_some (due_command f))) parts.0 in
    let tick = eqb-true f.tick f.script.limits.ticks first.0 in
    let limit = ap (λ (s : ScriptOf). s.limits.ticks) same in
    let told = told_is script h room in
    let last = told_late script kept h late in
    let done = all_past (next_command f) f.tick (times_past script f same (omega (arith, tick, limit)) late.commands) first.1 in
    let still = all_three (not (is_some (due_command f))) (not (nat_lt 0 (full_hands f))) (is_idle f) first.1 (ap not e.1) parts.1 in
    let settled = settled_at script h final lawful done still (omega (arith, tick, limit, told, last)) in
    false≢true (sym e.0.not_settled ∙ settled)

pub all_claims : (script : ScriptOf) → IsScript script → ArePortsFinal script → AreBodiesThrough script → (history : List Event) → IsLawful script history → IfUnpacedAndRoomy script Settles history
all_claims script kept ports bodies history lawful unpaced room =
    let final : AreBoth script = record { ports = ports; bodies = bodies } in
    record {
      moments = moments_settle script unpaced final history lawful room;
      in_time = λ late ends. in_time script history kept unpaced final lawful room late ends;
    }
