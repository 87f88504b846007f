-- A switch whose hand is empty takes its next work, and the turn of a worker.

use Rattle.std.specs.Prelude.{◌≡◌, ◌+◌, ◌++◌, ◌∷◌, ◌<◌, ◌≤◌, ℕ, nat_lt, List, [], length, cond, slice_index_or, slice_set, Option, Some, None, Bool, true, false, refl}
use Rattle.std.proofs.Common.{sym, ◌∙◌, ap, subst, arith, inl, inr, length-append}
use Rattle.std.proofs.lemmas.List.{append-nil, length-set}
use Rattle.std.proofs.lemmas.List.Elements.{All-head}
use Rattle.an_base.specs.Values.{LifeId}
use Rattle.an_base.specs.declared.event.Event.{Event}
use Rattle.an_base.specs.declared.event.Event.TheVariants.{Clock, Take, Handle, Load, Restart}
use Rattle.net_script.specs.Scripts.{ScriptOf}
use Rattle.switch_core.specs.Kept.{KeptOf}
use Rattle.net_state.specs.declared.work.Why.{Why}
use Rattle.net_state.specs.declared.work.Why.TheVariants as why
use Rattle.net_state.specs.declared.work.Work.{Work}
use Rattle.net_state.specs.declared.work.Work.TheVariants as work
use Rattle.an_base.specs.declared.port.Sample.{Sample}
use Rattle.net_state.specs.Choices.{event_of_work, frame_work, next_port, next_work}
use Rattle.net_state.specs.Fabric.{FabricOf, clock_due_at, held_bytes, is_full_at, is_some_spent, load_due_at, room, samples_of}
use Rattle.net_state.specs.Lawful.{is_barred, is_command, is_lawful}
use Rattle.net_state.specs.Starts.{next_life_at}
use Rattle.net_world.specs.Histories.{HistoryOf, fabric_of, last_taken, with_event, world_of}
use Rattle.net_world.specs.Solo.{worker_event}
use Rattle.net_world.specs.Sound.{AllMayCome}
use Rattle.net_state.specs.declared.line.PlacedLine.{PlacedLine}
use Rattle.net_world.specs.Turns.{HasBytes, TakesWork}
use Rattle.net_world.specs.World.{WorldOf}
use Rattle.fabric_book.specs.Kept.{history_with}
use Rattle.fabric_book.specs.Nets.{IsNetKept, IsStarted, NetOf, PowerOf, history_of, start_with}
use Rattle.fabric_book.specs.Nets.{with_events}
use Rattle.fabric_book.proofs.NetLemmas.{book_at, goes_at, net_as, net_filled, net_lost_on, net_refilled, net_room, net_switched, power_here}
use Rattle.fabric_book.proofs.OwnLemmas.{clock_own, refill_own, restart_own, take_own}
use Rattle.fabric_book.proofs.RoundLemmas.{IsAtMostOne}
use Rattle.fabric_book.proofs.WorldFacts.{fits_after, room_is, work_may_come, world_script}

-- the life that a switch is to begin is its next one
life_next : (f : FabricOf) (s last : ℕ) (life : LifeId) → next_work f s last ≡ work.Restart life → life ≡ next_life_at f s
life_next f s last life is = by (is_some_spent f) (nat_lt (room f) 2) (is_command f (Restart s)) (clock_due_at f s) (next_port f s last) is where
  by : (spent full restart due : Bool) (o : Option ℕ)
      → cond spent (work.Nothing why.Spent) (cond full (work.Nothing why.Full) (cond restart (work.Restart (next_life_at f s)) (cond due (work.Clock f.tick (samples_of f s)) (frame_work o)))) ≡ work.Restart life → life ≡ next_life_at f s
  by true full restart due o made = cc
  by false true restart due o made = cc
  by false false true due o made = cc
  by false false false true o made = cc
  by false false false false None made = cc
  by false false false false (Some port) made = cc

-- Work was taken of a network that is kept
module _ (h : HistoryOf) (lost : Bool) (power : List PowerOf) (switches : List KeptOf) (buffers : List (List ℕ)) (kept : IsNetKept h lost power switches buffers) (here : lost ≡ false)
    (s : ℕ) (below : s < length h.script.wires.switches) (empty : is_full_at (fabric_of h) s ≡ false) (job : Work) (book : HistoryOf) (out : List ℕ) (scripts : book.script ≡ h.script)
    (told : Option PlacedLine) (takes : TakesWork h.script h.events s job out told book.events) where
  book_is : book ≡ history_with (event_of_work s job) h
  book_is = λ i. record { script = scripts i; events = takes.event i }

  job_book : (other : Work) → job ≡ other → book ≡ history_with (event_of_work s other) h
  job_book other is = book_is ∙ ap (λ (j : Work). history_with (event_of_work s j) h) is

  may : (other : Work) → job ≡ other → AllMayCome (fabric_of h) (event_of_work s other)
  may other is = subst (λ (j : Work). AllMayCome (fabric_of h) (event_of_work s j)) (sym takes.work_is ∙ is) (work_may_come h.script h.events s (last_taken s h.events) below empty)

  bytes_at : (other : Work) → job ≡ other → HasBytes other (fabric_of book) s out
  bytes_at other is =
      subst (λ (x : ScriptOf). HasBytes other (fabric_of (record { script = x; events = book.events })) s out) (sym scripts)
      (subst (λ (j : Work). HasBytes j (fabric_of (record { script = h.script; events = book.events })) s out) is takes.bytes)

  refilled : IsNetKept h lost power switches (slice_set buffers s out)
  refilled = net_refilled h lost power switches buffers kept s out below (λ switch buffer is. refill_own (world_of h) s switch buffer out empty is)

  pub none_taken : (reason : Why) → job ≡ work.Nothing reason → IsNetKept book lost power switches (slice_set buffers s out)
  none_taken reason is =
      net_as h book lost lost power switches switches (slice_set buffers s out) (slice_set buffers s out) refilled
      (job_book (work.Nothing reason) is ∙ ap (λ (es : List Event). record h { events = es }) (append-nil h.events)) refl refl refl

  pub clock_taken : (now : ℕ) (samples : List Sample) → job ≡ work.Clock now samples → IsNetKept book lost power switches (slice_set buffers s out)
  clock_taken now samples is =
      let lawful = All-head (λ (e : Event). is_lawful (fabric_of h) e ≡ true) (Clock s) [] (may (work.Clock now samples) is) in
      net_as (with_event (Clock s) h) book lost lost power switches switches (slice_set buffers s out) (slice_set buffers s out)
      (net_filled h (Clock s) lost power switches buffers kept here lawful s out below refl (λ switch buffer same. clock_own h.script kept.script h.events s below lawful switch buffer out same))
      (job_book (work.Clock now samples) is) refl refl refl

  pub frame_taken : (port : ℕ) → job ≡ work.Frame port → IsNetKept book lost power switches (slice_set buffers s out)
  frame_taken port is =
      let lawful = All-head (λ (e : Event). is_lawful (fabric_of h) e ≡ true) (Take s port) [] (may (work.Frame port) is) in
      let after = job_book (work.Frame port) is in
      net_as (with_event (Take s port) h) book lost lost power switches switches (slice_set buffers s out) (slice_set buffers s out)
      (net_filled h (Take s port) lost power switches buffers kept here lawful s out below refl
      (λ switch buffer same. take_own h.script kept.script h.events s port below lawful switch buffer out same (bytes_at (work.Frame port) is ∙ ap (λ (x : HistoryOf). held_bytes (fabric_of x) s) after)))
      after refl refl refl

  pub life_lost : (life : LifeId) (more : List KeptOf) → job ≡ work.Restart life → length more ≡ length switches → IsNetKept book true power more (slice_set buffers s out)
  life_lost life more is as_many =
      let lawful = All-head (λ (e : Event). is_lawful (fabric_of h) e ≡ true) (Restart s) [] (may (work.Restart life) is) in
      net_as (with_event (Restart s) h) book true true power more more (slice_set buffers s out) (slice_set buffers s out)
      (net_lost_on h (Restart s) lost power switches more buffers (slice_set buffers s out) kept lawful as_many (length-set buffers s out)) (job_book (work.Restart life) is) refl refl refl

  pub life_taken : (life : LifeId) (from : PowerOf) (one : KeptOf) → job ≡ work.Restart life → from ≡ slice_index_or power s from → IsStarted (start_with from life) one
      → IsNetKept book false power (slice_set switches s one) (slice_set buffers s out)
  life_taken life from one is from_is started =
      let lawful = All-head (λ (e : Event). is_lawful (fabric_of h) e ≡ true) (Restart s) [] (may (work.Restart life) is) in
      let begins = subst (λ (p : PowerOf). IsStarted (start_with p life) one) (power_here h lost power switches buffers kept s below from from_is) started in
      net_as (with_event (Restart s) h) book false false power (slice_set switches s one) (slice_set switches s one) (slice_set buffers s out) (slice_set buffers s out)
      (net_switched h (Restart s) lost power switches (slice_set buffers s out) refilled here lawful s one below refl
      (λ switch buffer _ same. restart_own h.script kept.script h.events s below lawful switch one buffer life same (life_next (fabric_of h) s (last_taken s h.events) life (sym takes.work_is ∙ is)) begins))
      (job_book (work.Restart life) is) refl refl refl

-- and is what was to be done next
pub work_view : (book : HistoryOf) (lost : Bool) (net : NetOf) → record { script = book.script; events = book.events; lost = lost } ≡ net → (s : ℕ) (job : Work) (g : HistoryOf) (out : List ℕ) (told : Option PlacedLine) (now : Bool) → g.script ≡ book.script
    → TakesWork book.script book.events s job out told g.events → now ≡ lost
    → record { script = g.script; events = g.events; lost = now } ≡ with_events (event_of_work s (next_work (fabric_of (history_of net)) s (last_taken s net.events))) net
work_view book lost net view_is s job g out told now scripts takes same =
    let done : g ≡ history_with (event_of_work s job) book = λ i. record { script = scripts i; events = takes.event i } in
    let next : g ≡ history_with (event_of_work s (next_work (fabric_of book) s (last_taken s book.events))) book = done ∙ ap (λ (j : Work). history_with (event_of_work s j) book) takes.work_is in
    goes_at book lost net view_is (event_of_work s (next_work (fabric_of book) s (last_taken s book.events))) g now next same
    ∙ ap (λ (x : HistoryOf). with_events (event_of_work s (next_work (fabric_of x) s (last_taken s x.events))) net) (book_at book lost net view_is)

pub work_some : (book : HistoryOf) (lost : Bool) (net : NetOf) → record { script = book.script; events = book.events; lost = lost } ≡ net → (s : ℕ) (job other : Work) (out : List ℕ) (told : Option PlacedLine) (after : List Event)
    → TakesWork book.script book.events s job out told after → job ≡ other
    → nat_lt 0 (length (event_of_work s other)) ≡ nat_lt 0 (length (event_of_work s (next_work (fabric_of (history_of net)) s (last_taken s net.events))))
work_some book lost net view_is s job other out told after takes is =
    ap (λ (j : Work). nat_lt 0 (length (event_of_work s j))) (sym is ∙ takes.work_is)
    ∙ ap (λ (x : HistoryOf). nat_lt 0 (length (event_of_work s (next_work (fabric_of x) s (last_taken s x.events))))) (book_at book lost net view_is)

-- Whose turn it is has this event
pub handle_turn : (w : WorldOf) (s last : ℕ) → is_full_at w.fabric s ≡ true → worker_event w s last ≡ Handle s ∷ []
handle_turn w s last full = ap (λ (b : Bool). cond b (Handle s ∷ []) (cond (is_barred w.fabric) [] (cond (load_due_at w.fabric s) (Load s ∷ []) (event_of_work s (next_work w.fabric s last))))) full

on_turn : (w : WorldOf) (s last : ℕ) → is_full_at w.fabric s ≡ false → worker_event w s last ≡ cond (is_barred w.fabric) [] (cond (load_due_at w.fabric s) (Load s ∷ []) (event_of_work s (next_work w.fabric s last)))
on_turn w s last empty = ap (λ (b : Bool). cond b (Handle s ∷ []) (cond (is_barred w.fabric) [] (cond (load_due_at w.fabric s) (Load s ∷ []) (event_of_work s (next_work w.fabric s last))))) empty

pub rest_turn : (w : WorldOf) (s last : ℕ) → is_full_at w.fabric s ≡ false → is_barred w.fabric ≡ true → worker_event w s last ≡ []
rest_turn w s last empty barred = on_turn w s last empty ∙ ap (λ (b : Bool). cond b [] (cond (load_due_at w.fabric s) (Load s ∷ []) (event_of_work s (next_work w.fabric s last)))) barred

free_turn : (w : WorldOf) (s last : ℕ) → is_full_at w.fabric s ≡ false → is_barred w.fabric ≡ false → worker_event w s last ≡ cond (load_due_at w.fabric s) (Load s ∷ []) (event_of_work s (next_work w.fabric s last))
free_turn w s last empty free = on_turn w s last empty ∙ ap (λ (b : Bool). cond b [] (cond (load_due_at w.fabric s) (Load s ∷ []) (event_of_work s (next_work w.fabric s last)))) free

pub load_turn : (w : WorldOf) (s last : ℕ) → is_full_at w.fabric s ≡ false → is_barred w.fabric ≡ false → load_due_at w.fabric s ≡ true → worker_event w s last ≡ Load s ∷ []
load_turn w s last empty free due = free_turn w s last empty free ∙ ap (λ (b : Bool). cond b (Load s ∷ []) (event_of_work s (next_work w.fabric s last))) due

pub work_turn : (w : WorldOf) (s last : ℕ) → is_full_at w.fabric s ≡ false → is_barred w.fabric ≡ false → load_due_at w.fabric s ≡ false → worker_event w s last ≡ event_of_work s (next_work w.fabric s last)
work_turn w s last empty free none = free_turn w s last empty free ∙ ap (λ (b : Bool). cond b (Load s ∷ []) (event_of_work s (next_work w.fabric s last))) none

-- there is room for what may come
pub room_then : (h : HistoryOf) (lost : Bool) (power : List PowerOf) (switches : List KeptOf) (buffers : List (List ℕ)) → IsNetKept h lost power switches buffers → (xs : List Event) → IsAtMostOne xs → AllMayCome (fabric_of h) xs
    → length (h.events ++ xs) ≤ h.script.limits.events
room_then h lost power switches buffers kept xs (inl none) may =
    let same : length (h.events ++ xs) ≡ length h.events = ap (λ (es : List Event). length (h.events ++ es)) none ∙ ap (length {A = Event}) (append-nil h.events) in
    let most = net_room h lost power switches buffers kept in
    omega (arith, same, most)
room_then h lost power switches buffers kept xs (inr one) may =
    let lawful = All-head (λ (e : Event). is_lawful (fabric_of h) e ≡ true) one.0 [] (subst (AllMayCome (fabric_of h)) one.1 may) in
    let some = room_is (fabric_of h) one.0 (fits_after h.script kept.script h.events) lawful in
    let counted = kept.counted in
    let limit : (fabric_of h).script.limits.events ≡ h.script.limits.events = ap (λ (x : ScriptOf). x.limits.events) (world_script h.script h.events) in
    let long : length (h.events ++ xs) ≡ length h.events + 1 = ap (λ (es : List Event). length (h.events ++ es)) one.1 ∙ length-append h.events (one.0 ∷ []) in
    omega (arith, some, counted, limit, long)

pub turn_room : (book : HistoryOf) (lost : Bool) (power : List PowerOf) (switches : List KeptOf) (buffers : List (List ℕ)) → IsNetKept book lost power switches buffers → (net : NetOf)
    → record { script = book.script; events = book.events; lost = lost } ≡ net → (xs : List Event) → IsAtMostOne xs → AllMayCome (fabric_of (history_of net)) xs → (new : NetOf) → new ≡ with_events xs net → length new.events ≤ new.script.limits.events
turn_room book lost power switches buffers kept net view_is xs one may new is =
    subst (λ (n : NetOf). length n.events ≤ n.script.limits.events) (sym is)
    (subst (λ (n : NetOf). length (n.events ++ xs) ≤ n.script.limits.events) view_is
    (room_then book lost power switches buffers kept xs one (subst (λ (h : HistoryOf). AllMayCome (fabric_of h) xs) (sym (book_at book lost net view_is)) may)))
