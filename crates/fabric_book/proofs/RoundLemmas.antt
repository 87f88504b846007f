-- The turns and rounds of a network on one thread.

use Rattle.std.specs.Prelude.{◌≡◌, ◌⊎◌, ◌+◌, ◌++◌, ◌∷◌, ◌<◌, ◌≤◌, ℕ, nat_lt, List, [], length, cond, Option, Some, None, Bool, true, false, refl}
use Rattle.std.proofs.Common.{sym, ◌∙◌, ap, subst, arith, inl, inr, append_assoc, length-append}
use Rattle.std.proofs.lemmas.Bool.{cases_eq, cases_lt}
use Rattle.std.proofs.lemmas.List.{append-nil}
use Rattle.an_base.specs.declared.event.Event.{Event}
use Rattle.an_base.specs.declared.event.Event.TheVariants.{Clock, Take, Handle, Load, Restart}
use Rattle.net_script.specs.Scripts.{ScriptOf, IsScript}
use Rattle.net_state.specs.declared.ending.Ending.{Ending}
use Rattle.net_state.specs.declared.work.Work.{Work}
use Rattle.net_state.specs.declared.work.Work.TheVariants as work
use Rattle.net_state.specs.declared.work.Drive.{Drive}
use Rattle.net_state.specs.declared.work.Drive.TheVariants as drive
use Rattle.net_script.specs.Commands.{is_restart}
use Rattle.host_traffic.specs.Packets.{first_packet}
use Rattle.net_state.specs.Fabric.{FabricOf, due_command, is_full_at, load_due_at}
use Rattle.net_state.specs.Lawful.{is_barred, is_tick_due}
use Rattle.net_state.specs.Agree.{ending_of}
use Rattle.net_state.specs.Choices.{command_or_move, drive_by, event_of_drive, event_of_work, move_or_tick, next_drive, next_work, tick_or_wait}
use Rattle.net_world.specs.World.{WorldOf, world_after}
use Rattle.net_world.specs.Histories.{HistoryOf, IsLawful, IsLegal, fabric_of, last_taken, world_of}
use Rattle.net_world.specs.Solo.{IsOneThread, IsSolo, begins, works, rests, drives, waits, worker_event}
use Rattle.fabric_book.specs.Nets.{NetOf, history_of, with_events}
use Rattle.fabric_book.specs.Rounds.{AreIdleBefore, GoesOn, HasDriven, IsIdleAt, IsTurnOf, IsTurnOfDriver}
use Rattle.fabric_book.proofs.WaitLemmas.{stuck}

-- A turn has at most one event
abbrev pub IsAtMostOne : List Event → Type 0
IsAtMostOne xs = (xs ≡ []) ⊎ ((e : Event) × (xs ≡ e ∷ []))

pub work_one : (s : ℕ) (job : Work) → IsAtMostOne (event_of_work s job)
work_one s (work.Restart life) = inr (Restart s, refl)
work_one s (work.Clock now samples) = inr (Clock s, refl)
work_one s (work.Frame port) = inr (Take s port, refl)
work_one s (work.Nothing reason) = inl refl

worker_one : (w : WorldOf) (s last : ℕ) → IsAtMostOne (worker_event w s last)
worker_one w s last = by (is_full_at w.fabric s) (is_barred w.fabric) (load_due_at w.fabric s) where
  by : (full barred due : Bool) → IsAtMostOne (cond full (Handle s ∷ []) (cond barred [] (cond due (Load s ∷ []) (event_of_work s (next_work w.fabric s last)))))
  by true barred due = inr (Handle s, refl)
  by false true due = inl refl
  by false false true = inr (Load s, refl)
  by false false false = work_one s (next_work w.fabric s last)

-- going on
pub goes_same : (net : NetOf) → GoesOn net net
goes_same net = record { script = refl; more = []; events = sym (append-nil net.events) }

pub goes_then : (a b c : NetOf) → GoesOn a b → GoesOn b c → GoesOn a c
goes_then a b c one two = record {
  script = two.script ∙ one.script;
  more = one.more ++ two.more;
  events = two.events ∙ ap (λ (xs : List Event). xs ++ two.more) one.events ∙ append_assoc a.events one.more two.more;
}

goes_by : (old new : NetOf) (xs : List Event) → new ≡ with_events xs old → GoesOn old new
goes_by old new xs is = record { script = ap (λ (n : NetOf). n.script) is; more = xs; events = ap (λ (n : NetOf). n.events) is }

-- at first it is the turn of the first worker
pub first_turn : (script : ScriptOf) (net : NetOf) → net ≡ record { script = script; events = []; lost = false } → IsTurnOf 0 net × (net.script ≡ script)
first_turn script net is = subst (λ (n : NetOf). IsTurnOf 0 n × (n.script ≡ script)) (sym is) (record { here = refl; order = begins; room = omega arith }, refl)

-- the turn of a worker
abbrev pub HasTurned : Bool → ℕ → NetOf → NetOf → Type 0
HasTurned true s old new = IsTurnOf s new × GoesOn old new × (length old.events < length new.events)
HasTurned false s old new = IsTurnOf (s + 1) new × GoesOn old new × IsIdleAt new s

same_net : (old new : NetOf) (xs : List Event) → new ≡ with_events xs old → xs ≡ [] → new ≡ old
same_net old new xs is none = is ∙ ap (λ (es : List Event). record old { events = old.events ++ es }) none ∙ ap (λ (es : List Event). record old { events = es }) (append-nil old.events)

longer : (old new : NetOf) (xs : List Event) (e : Event) → new ≡ with_events xs old → xs ≡ e ∷ [] → length old.events < length new.events
longer old new xs e is one =
    let events : new.events ≡ old.events ++ e ∷ [] = ap (λ (n : NetOf). n.events) is ∙ ap (λ (es : List Event). old.events ++ es) one in
    let long : length new.events ≡ length (old.events ++ e ∷ []) = ap (length {A = Event}) events in
    let more = length-append old.events (e ∷ []) in
    omega (arith, long, more)

turned_with : (old new : NetOf) (s : ℕ) (more : Bool) (xs : List Event) → worker_event (world_of (history_of old)) s (last_taken s old.events) ≡ xs → IsAtMostOne xs → s < length old.script.wires.switches → IsTurnOf s old
    → new ≡ with_events xs old → length new.events ≤ new.script.limits.events → more ≡ nat_lt 0 (length xs) → HasTurned more s old new
turned_with old new s more xs made (inl none) below turn is room some =
    let same = same_net old new xs is none in
    let rest : IsTurnOf (s + 1) old = record { here = turn.here; order = rests old.events s turn.order below (made ∙ none); room = subst (λ (n : NetOf). length n.events ≤ n.script.limits.events) same room } in
    subst (λ (b : Bool). HasTurned b s old new) (sym (some ∙ ap (λ (es : List Event). nat_lt 0 (length es)) none))
    (subst (λ (n : NetOf). IsTurnOf (s + 1) n) (sym same) rest, goes_by old new xs is, subst (λ (n : NetOf). IsIdleAt n s) (sym same) (made ∙ none))
turned_with old new s more xs made (inr one) below turn is room some =
    let now : new ≡ with_events (one.0 ∷ []) old = is ∙ ap (λ (es : List Event). with_events es old) one.1 in
    let order : IsOneThread new.script new.events s = subst (λ (n : NetOf). IsOneThread n.script n.events s) (sym now) (works old.events s one.0 turn.order below (made ∙ one.1)) in
    subst (λ (b : Bool). HasTurned b s old new) (sym (some ∙ ap (λ (es : List Event). nat_lt 0 (length es)) one.1))
    (record { here = ap (λ (n : NetOf). n.lost) is ∙ turn.here; order = order; room = room }, goes_by old new xs is, longer old new xs one.0 is one.1)

pub turned_by : (old new : NetOf) (s : ℕ) (more : Bool) → s < length old.script.wires.switches → IsTurnOf s old
    → new ≡ with_events (worker_event (world_of (history_of old)) s (last_taken s old.events)) old → length new.events ≤ new.script.limits.events
    → more ≡ nat_lt 0 (length (worker_event (world_of (history_of old)) s (last_taken s old.events))) → HasTurned more s old new
turned_by old new s more below turn is room some =
    turned_with old new s more (worker_event (world_of (history_of old)) s (last_taken s old.events)) refl (worker_one (world_of (history_of old)) s (last_taken s old.events)) below turn is room some

-- the turn of the driver
abbrev pub HasDone : Drive → NetOf → NetOf → Type 0
HasDone (drive.Did e) old new = IsTurnOfDriver new × GoesOn old new × (length old.events < length new.events)
HasDone drive.Waits old new = HasDriven None new × GoesOn old new
HasDone (drive.Ended end) old new = HasDriven (Some end) new × GoesOn old new

pub done_by : (did : Drive) (old new : NetOf) → IsTurnOfDriver old → did ≡ next_drive (fabric_of (history_of old)) → new ≡ with_events (event_of_drive did) old → length new.events ≤ new.script.limits.events → HasDone did old new
done_by (drive.Did e) old new turn chosen is room =
    let order : IsOneThread new.script new.events (length new.script.wires.switches) =
    subst (λ (n : NetOf). IsOneThread n.script n.events (length n.script.wires.switches)) (sym is) (drives old.events e turn.order (sym chosen)) in
    (record { here = ap (λ (n : NetOf). n.lost) is ∙ turn.here; order = order; room = room }, goes_by old new (e ∷ []) is, longer old new (e ∷ []) e is refl)
done_by drive.Waits old new turn chosen is room =
    let same = same_net old new [] is refl in
    let rest : HasDriven None old = (record { here = turn.here; order = waits old.events turn.order (sym chosen); room = turn.room }, sym chosen) in
    (subst (HasDriven None) (sym same) rest, goes_by old new [] is)
done_by (drive.Ended end) old new turn chosen is room =
    let same = same_net old new [] is refl in
    let rest : HasDriven (Some end) old = (turn, sym chosen) in
    (subst (HasDriven (Some end)) (sym same) rest, goes_by old new [] is)

-- nothing came where there are no more
none_more : (xs more zs : List Event) → zs ≡ xs ++ more → length zs ≤ length xs → more ≡ []
none_more xs [] zs is few = refl
none_more xs (e ∷ more) zs is few =
    let long : length zs ≡ length (xs ++ e ∷ more) = ap (length {A = Event}) is in
    let all = length-append xs (e ∷ more) in
    absurd (omega (arith, few, long, all))

same_events : (a b : NetOf) → GoesOn a b → length b.events ≤ length a.events → b.events ≡ a.events
same_events a b goes few = goes.events ∙ ap (λ (xs : List Event). a.events ++ xs) (none_more a.events goes.more b.events goes.events few) ∙ append-nil a.events

goes_up : (a b : NetOf) → GoesOn a b → length a.events ≤ length b.events
goes_up a b goes =
    let long : length b.events ≡ length (a.events ++ goes.more) = ap (length {A = Event}) goes.events in
    let all = length-append a.events goes.more in
    omega (arith, long, all)

same_history : (a b : NetOf) → b.script ≡ a.script → b.events ≡ a.events → history_of b ≡ history_of a
same_history a b scripts events = λ i. record { script = scripts i; events = events i }

idle_same : (a b : NetOf) (place : ℕ) → b.script ≡ a.script → b.events ≡ a.events → IsIdleAt a place → IsIdleAt b place
idle_same a b place scripts events idle =
    subst (λ (h : HistoryOf). worker_event (world_of h) place (last_taken place h.events) ≡ []) (sym (same_history a b scripts events)) idle

-- one worker more has nothing to do
pub idle_more : (first mid new : NetOf) (s : ℕ) → AreIdleBefore s first mid → GoesOn first mid → GoesOn mid new → IsIdleAt new s → AreIdleBefore (s + 1) first new
idle_more first mid new s idle before goes here same place below = by (cases_eq place s) where
  up : length first.events ≤ length mid.events
  up = goes_up first mid before

  over : length mid.events ≤ length new.events
  over = goes_up mid new goes

  as_long : length new.events ≡ length first.events
  as_long = ap (length {A = Event}) same

  by : (place ≡ s) ⊎ (place ≡ s → ⊥) → IsIdleAt new place
  by (inl at) = subst (IsIdleAt new) (sym at) here
  by (inr other) =
      idle_same mid new place goes.script (same_events mid new goes (omega (arith, up, as_long)))
      (idle (same_events first mid before (omega (arith, over, as_long))) place (omega (arith, below, other)))

-- a round in which nothing came is the last one
pub round_grows : (first mid new : NetOf) → IsScript new.script → AreIdleBefore (length mid.script.wires.switches) first mid → GoesOn first mid → GoesOn mid new → HasDriven None new → length first.events < length new.events
round_grows first mid new kept idle before goes driven = by (cases_lt (length first.events) (length new.events)) where
  by : (length first.events < length new.events) ⊎ (length new.events ≤ length first.events) → length first.events < length new.events
  by (inl more) = more
  by (inr few) =
      let up = goes_up first mid before in
      let over = goes_up mid new goes in
      let first_same = same_events first mid before (omega (arith, over, few)) in
      let new_same = same_events mid new goes (omega (arith, up, few)) in
      absurd (stuck new.script kept new.events (λ s. last_taken s new.events)
      (λ s below. idle_same mid new s goes.script new_same (idle first_same s (subst (λ (x : ScriptOf). s < length x.wires.switches) goes.script below)))
      driven.1)

-- an end
goes_on : (f : FabricOf) (end : Ending) (due : Option Event) → command_or_move due f ≡ drive.Ended end → ⊥
goes_on f end due = by due where
  ticks : (b : Bool) → tick_or_wait b ≡ drive.Ended end → ⊥
  ticks true is = cc
  ticks false is = cc

  moves : (o : Option ℕ) → move_or_tick o f ≡ drive.Ended end → ⊥
  moves (Some packet) is = cc
  moves None is = ticks (is_tick_due f) is

  restart : (b : Bool) (e : Event) → cond b (move_or_tick (first_packet f.packets) f) (drive.Did e) ≡ drive.Ended end → ⊥
  restart true e is = moves (first_packet f.packets) is
  restart false e is = cc

  by : (o : Option Event) → command_or_move o f ≡ drive.Ended end → ⊥
  by None is = moves (first_packet f.packets) is
  by (Some e) is = restart (is_restart e) e is

pub ends_by : (script : ScriptOf) (h : List Event) (end : Ending) → next_drive (world_after script h).fabric ≡ drive.Ended end → ending_of (world_after script h).fabric ≡ Some end
ends_by script h end is = by (ending_of (world_after script h).fabric) refl is where
  barred : (b : Bool) (d : Drive) → cond b drive.Waits d ≡ drive.Ended end → d ≡ drive.Ended end
  barred true d stops = cc
  barred false d ended = ended

  by : (o : Option Ending) → ending_of (world_after script h).fabric ≡ o → drive_by o (world_after script h).fabric ≡ drive.Ended end → ending_of (world_after script h).fabric ≡ Some end
  by (Some other) some ended = let same : other ≡ end = cc in some ∙ ap Some same
  by None none on = absurd (goes_on (world_after script h).fabric end (due_command (world_after script h).fabric) (barred (is_barred (world_after script h).fabric) (command_or_move (due_command (world_after script h).fabric) (world_after script h).fabric) on))

pub legal_by : (script : ScriptOf) (net : NetOf) (journal : List Event) (end : Ending) → net.script ≡ script → journal ≡ net.events → IsLawful net.script net.events → next_drive (fabric_of (history_of net)) ≡ drive.Ended end
    → IsLegal script journal end
legal_by script net journal end scripts events lawful ended =
    subst (λ (x : ScriptOf). IsLegal x journal end) scripts
    (subst (λ (es : List Event). IsLegal net.script es end) (sym events) (record { lawful = lawful; ends = ends_by net.script net.events end ended }))

pub solo_by : (script : ScriptOf) (net : NetOf) (journal : List Event) (end : Ending) → net.script ≡ script → journal ≡ net.events → HasDriven (Some end) net → IsSolo script journal end
solo_by script net journal end scripts events driven =
    subst (λ (x : ScriptOf). IsSolo x journal end) scripts
    (subst (λ (es : List Event). IsSolo net.script es end) (sym events) (record { order = driven.0.order; ended = driven.1 }))
