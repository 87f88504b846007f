-- One thread makes one history, which is legal.

use Rattle.std.specs.Prelude.{◌≡◌, ◌⊎◌, ◌+◌, ◌<◌, ◌≤◌, ℕ, zero, suc, nat_lt, List, [], ◌∷◌, ◌++◌, length, cond, Option, Some, None, is_some, unwrap_or, Bool, true, false, refl}
use Rattle.std.specs.Option.{option_and_then}
use Rattle.std.proofs.Common.{sym, ◌∙◌, ap, subst, inl, inr, arith, true≢false}
use Rattle.std.proofs.lemmas.Bool.{cases_lt, le-ltb, lt-ltb}
use Rattle.std.proofs.lemmas.List.Elements.{All-nil, All-cons, All-head}
use Rattle.an_base.specs.declared.event.Event.{Event}
use Rattle.an_base.specs.declared.event.Event.TheVariants.{Handle, Load}
use Rattle.net_script.specs.Scripts.{ScriptOf, IsScript}
use Rattle.net_state.specs.declared.ending.Ending.{Ending}
use Rattle.net_state.specs.declared.work.Drive.{Drive}
use Rattle.net_state.specs.declared.work.Drive.TheVariants as drive
use Rattle.net_script.specs.Commands.{is_restart}
use Rattle.host_traffic.specs.Packets.{first_packet}
use Rattle.net_state.specs.Fabric.{FabricOf, due_command, is_full_at, load_due_at}
use Rattle.net_state.specs.Agree.{ending_of}
use Rattle.net_state.specs.Lawful.{is_barred, is_lawful, is_tick_due}
use Rattle.net_state.specs.Choices.{drive_by, command_or_move, move_or_tick, tick_or_wait, next_drive, event_of_drive, event_of_work, next_work}
use Rattle.net_world.specs.World.{world_after}
use Rattle.net_world.specs.Histories.{IsLawful, IsLegal, last_taken}
use Rattle.net_world.specs.Solo.{IsOneThread, IsSolo, begins, works, rests, drives, waits, worker_event}
use Rattle.net_world.specs.Sound.{AllMayCome}
use Rattle.net_world.proofs.CountLemmas.{lawful_more}
use Rattle.net_world.proofs.NextLemmas.{drive_is_lawful, handle_is_lawful, load_is_lawful, work_is_lawful}

-- a history, and whose turn it is
abbrev Moment : Type 0
Moment = List Event × ℕ

-- the moment after a turn of a worker, and of the driver: none after an end
after_worker : List Event → ℕ → List Event → Option Moment
after_worker h place [] = Some (h, place + 1)
after_worker h place (e ∷ more) = Some (h ++ e ∷ [], place)

after_drive : List Event → ℕ → Drive → Option Moment
after_drive h place (drive.Did e) = Some (h ++ e ∷ [], place)
after_drive h place drive.Waits = Some (h, 0)
after_drive h place (drive.Ended end) = None

abbrev worker_at : ScriptOf → List Event → ℕ → List Event
worker_at script h place = worker_event (world_after script h) place (last_taken place h)

abbrev drive_at : ScriptOf → List Event → Drive
drive_at script h = next_drive (world_after script h).fabric

-- each moment has at most one next one
next_moment : ScriptOf → Moment → Option Moment
next_moment script m =
    cond (nat_lt m.1 (length script.wires.switches)) (after_worker m.0 m.1 (worker_at script m.0 m.1)) (after_drive m.0 m.1 (drive_at script m.0))

turns : ScriptOf → ℕ → Option Moment
turns script zero = Some ([], 0)
turns script (suc k) = option_and_then (next_moment script) (turns script k)

next_of_worker : (script : ScriptOf) (h : List Event) (place : ℕ) → place < length script.wires.switches → next_moment script (h, place) ≡ after_worker h place (worker_at script h place)
unfolding next_moment
next_of_worker script h place below =
    ap (λ b. cond b (after_worker h place (worker_at script h place)) (after_drive h place (drive_at script h))) (lt-ltb place (length script.wires.switches) below)

next_of_driver : (script : ScriptOf) (h : List Event) → next_moment script (h, length script.wires.switches) ≡ after_drive h (length script.wires.switches) (drive_at script h)
unfolding next_moment
next_of_driver script h =
    let n = length script.wires.switches in
    ap (λ b. cond b (after_worker h n (worker_at script h n)) (after_drive h n (drive_at script h))) (le-ltb n n (omega arith))

-- a moment after so many turns
abbrev IsTurn : ScriptOf → List Event → ℕ → Type 0
IsTurn script h place = (k : ℕ) × (turns script k ≡ Some (h, place))

one_more : (script : ScriptOf) (h g : List Event) (place other : ℕ) → IsTurn script h place → next_moment script (h, place) ≡ Some (g, other) → IsTurn script g other
unfolding turns
one_more script h g place other before next = (suc before.0, ap (option_and_then (next_moment script)) before.1 ∙ next)

-- each moment of one thread is one of these
is_turn : (script : ScriptOf) (h : List Event) (place : ℕ) → IsOneThread script h place → IsTurn script h place
unfolding turns after_worker after_drive
is_turn script _ _ begins = (zero, refl)
is_turn script _ _ (works h place e before below made) =
    one_more script h (h ++ e ∷ []) place place (is_turn script h place before) (next_of_worker script h place below ∙ ap (after_worker h place) made)
is_turn script _ _ (rests h place before below made) =
    one_more script h h place (place + 1) (is_turn script h place before) (next_of_worker script h place below ∙ ap (after_worker h place) made)
is_turn script _ _ (drives h e before made) =
    let n = length script.wires.switches in
    one_more script h (h ++ e ∷ []) n n (is_turn script h n before) (next_of_driver script h ∙ ap (after_drive h n) made)
is_turn script _ _ (waits h before made) =
    let n = length script.wires.switches in
    one_more script h h n 0 (is_turn script h n before) (next_of_driver script h ∙ ap (after_drive h n) made)

-- nothing follows an end
none_after : (script : ScriptOf) (m : Moment) (k j : ℕ) → turns script k ≡ Some m → next_moment script m ≡ None → k < j → turns script j ≡ None
unfolding turns
none_after script m k zero here ends later = absurd (omega (arith, later))
none_after script m k (suc i) here ends later = by (none_after script m k i here ends) (cases_lt k i) where
  by : (k < i → turns script i ≡ None) → (k < i) ⊎ (i ≤ k) → turns script (suc i) ≡ None
  by before (inl below) = ap (option_and_then (next_moment script)) (before below)
  by before (inr most) =
      let same : k ≡ i = omega (arith, later, most) in
      ap (option_and_then (next_moment script)) (subst (λ (j : ℕ). turns script j ≡ Some m) same here) ∙ ends

-- so two that end are one
abbrev history_in : Option Moment → List Event
history_in o = (unwrap_or o ([], 0)).0

end_in : Ending → Drive → Ending
end_in other (drive.Did e) = other
end_in other drive.Waits = other
end_in other (drive.Ended end) = end

same_history : (script : ScriptOf) (one other : List Event) (end last : Ending) → IsSolo script one end → IsSolo script other last → one ≡ other
unfolding after_drive
same_history script one other end last first second =
    by (cases_lt first_is.0 second_is.0) (cases_lt second_is.0 first_is.0)
  where
    n : ℕ
    n = length script.wires.switches

    first_is : IsTurn script one n
    first_is = is_turn script one n first.order

    second_is : IsTurn script other n
    second_is = is_turn script other n second.order

    ends : (h : List Event) (e : Ending) → drive_at script h ≡ drive.Ended e → next_moment script (h, n) ≡ None
    ends h e is = next_of_driver script h ∙ ap (after_drive h n) is

    clash : (h : List Event) (o : Option Moment) → o ≡ Some (h, n) → o ≡ None → ⊥
    clash h o some none = true≢false (ap is_some (sym some ∙ none))

    by : (first_is.0 < second_is.0) ⊎ (second_is.0 ≤ first_is.0) → (second_is.0 < first_is.0) ⊎ (first_is.0 ≤ second_is.0) → one ≡ other
    by (inl less) other_way = absurd (clash other (turns script second_is.0) second_is.1 (none_after script (one, n) first_is.0 second_is.0 first_is.1 (ends one end first.ended) less))
    by (inr most) (inl less) = absurd (clash one (turns script first_is.0) first_is.1 (none_after script (other, n) second_is.0 first_is.0 second_is.1 (ends other last second.ended) less))
    by (inr most) (inr least) =
        let same : first_is.0 ≡ second_is.0 = omega (arith, most, least) in
        ap history_in (sym first_is.1 ∙ ap (turns script) same ∙ second_is.1)

pub one_run : (script : ScriptOf) (one other : List Event) (end last : Ending) → IsSolo script one end → IsSolo script other last → (one ≡ other) × (end ≡ last)
unfolding end_in
one_run script one other end last first second =
    let same = same_history script one other end last first second in
    (same, ap (end_in end) (sym first.ended ∙ ap (drive_at script) same ∙ second.ended))

-- what a worker does may come next
worker_lawful : (script : ScriptOf) (h : List Event) (place : ℕ) → place < length script.wires.switches → AllMayCome (world_after script h).fabric (worker_at script h place)
worker_lawful script h place below = by (is_full_at (world_after script h).fabric place) (is_barred (world_after script h).fabric) (load_due_at (world_after script h).fabric place) refl refl refl where
  f : FabricOf
  f = (world_after script h).fabric

  by : (full barred due : Bool) → is_full_at f place ≡ full → is_barred f ≡ barred → load_due_at f place ≡ due
      → AllMayCome f (cond full (Handle place ∷ []) (cond barred [] (cond due (Load place ∷ []) (event_of_work place (next_work f place (last_taken place h))))))
  by true barred due full_is barred_is due_is = All-cons (λ e. is_lawful f e ≡ true) (Handle place) [] (handle_is_lawful script h place below full_is) (All-nil (λ e. is_lawful f e ≡ true))
  by false true due full_is barred_is due_is = All-nil (λ e. is_lawful f e ≡ true)
  by false false true full_is barred_is due_is = All-cons (λ e. is_lawful f e ≡ true) (Load place) [] (load_is_lawful script h place below barred_is full_is due_is) (All-nil (λ e. is_lawful f e ≡ true))
  by false false false full_is barred_is due_is = work_is_lawful script h place (last_taken place h) below full_is

first_lawful : (script : ScriptOf) (h : List Event) (e : Event) (events : List Event) → AllMayCome (world_after script h).fabric events → events ≡ e ∷ [] → is_lawful (world_after script h).fabric e ≡ true
first_lawful script h e events all is = let f = (world_after script h).fabric in All-head (λ x. is_lawful f x ≡ true) e [] (subst (AllMayCome f) is all)

-- so is each event of one thread
turn_lawful : (script : ScriptOf) → IsScript script → (h : List Event) (place : ℕ) → IsOneThread script h place → IsLawful script h
turn_lawful script kept _ _ begins = tt
turn_lawful script kept _ _ (works h place e before below made) =
    lawful_more script h e (turn_lawful script kept h place before) (first_lawful script h e (worker_at script h place) (worker_lawful script h place below) made)
turn_lawful script kept _ _ (rests h place before below made) = turn_lawful script kept h place before
turn_lawful script kept _ _ (drives h e before made) =
    lawful_more script h e (turn_lawful script kept h (length script.wires.switches) before)
    (first_lawful script h e (event_of_drive (drive_at script h)) (drive_is_lawful script kept h) (ap event_of_drive made))
turn_lawful script kept _ _ (waits h before made) = turn_lawful script kept h (length script.wires.switches) before

-- the end that the driver is told is the one that has come
pub told_end : (f : FabricOf) (o : Option Ending) (end : Ending) → drive_by o f ≡ drive.Ended end → o ≡ Some end
unfolding end_in
told_end f (Some x) end is = ap (λ d. Some (end_in x d)) is
told_end f None end is = absurd (differs (is_barred f) (due_command f) is) where
  is_ended : Drive → Bool
  is_ended (drive.Did e) = false
  is_ended drive.Waits = false
  is_ended (drive.Ended e) = true

  ticks : (b : Bool) → is_ended (tick_or_wait b) ≡ false
  ticks true = refl
  ticks false = refl

  moves : (k : Option ℕ) → is_ended (move_or_tick k f) ≡ false
  moves (Some k) = refl
  moves None = ticks (is_tick_due f)

  restarts : (b : Bool) (e : Event) → is_ended (cond b (move_or_tick (first_packet f.packets) f) (drive.Did e)) ≡ false
  restarts true e = moves (first_packet f.packets)
  restarts false e = refl

  commands : (o : Option Event) → is_ended (command_or_move o f) ≡ false
  commands None = moves (first_packet f.packets)
  commands (Some e) = restarts (is_restart e) e

  differs : (b : Bool) (o : Option Event) → cond b drive.Waits (command_or_move o f) ≡ drive.Ended end → ⊥
  differs true o same = true≢false (sym (ap is_ended same))
  differs false o same = true≢false (sym (ap is_ended same) ∙ commands o)

pub run_is_legal : (script : ScriptOf) → IsScript script → (history : List Event) (end : Ending) → IsSolo script history end → IsLegal script history end
run_is_legal script kept history end solo = record {
  lawful = turn_lawful script kept history (length script.wires.switches) solo.order;
  ends = let f = (world_after script history).fabric in told_end f (ending_of f) end solo.ended;
}
