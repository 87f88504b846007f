-- Where a cut is not all that the processes did, some process has a next call that may come next.

use Rattle.std.proofs.Common.{◌≡◌, ◌∙◌, sym, ap, refl, subst, ℕ, zero, suc, ◌<◌, arith, List, [], ◌∷◌, length, ◌⊎◌, inl, inr}
use Rattle.an_base.specs.Values.{LifeId}
use Rattle.an_base.specs.declared.frame.Frame.{Frame}
use Rattle.topo_report.proofs.Members.{In, in_from}
use Rattle.epoch_game.specs.Slice.{Earlier}
use Rattle.epoch_game.proofs.Lists.{earlier_itself, earlier_total, earlier_trans}
use Rattle.switch_game.specs.Network.{PowerOn}
use Rattle.switch_processes.specs.Processes.{Call, Clocks, Event, HappensBefore, HasNoCycle, Hears, IsOf, IsRun, Loads, chain, local, message}
use Rattle.switch_processes.proofs.Moments.{event_at, next_of, one_next, same_event}

-- a list without one of its elements
without : {A : Type 0} (x : A) (xs : List A) → In x xs → List A
without x [] i = absurd i
without x (y ∷ ys) (inl is) = ys
without x (y ∷ ys) (inr i) = y ∷ without x ys i

without_length : {A : Type 0} (x : A) (xs : List A) (i : In x xs) → suc (length (without x xs i)) ≡ length xs
unfolding without
without_length x [] i = absurd i
without_length x (y ∷ ys) (inl is) = refl
without_length x (y ∷ ys) (inr i) = ap suc (without_length x ys i)

in_without : {A : Type 0} (x z : A) (xs : List A) (i : In x xs) → In z xs → (z ≡ x) ⊎ In z (without x xs i)
unfolding without
in_without x z [] i j = absurd j
in_without x z (y ∷ ys) (inl is) (inl at) = inl (at ∙ sym is)
in_without x z (y ∷ ys) (inl is) (inr j) = inr j
in_without x z (y ∷ ys) (inr i) (inl at) = inr (inl at)
in_without x z (y ∷ ys) (inr i) (inr j) = by (in_without x z ys i j)
  where
    by : (z ≡ x) ⊎ In z (without x ys i) → (z ≡ x) ⊎ In z (y ∷ without x ys i)
    by (inl is) = inl is
    by (inr k) = inr (inr k)

-- the event that a call is at a cut
abbrev pub next_event : (LifeId → List Call) → LifeId → Call → Event
next_event at x c = event_at x c (at x)

-- a call that comes next in its process, and whose frame was sent before the cut
pub record IsReady (did at : LifeId → List Call) (sending : Event → Event) : Type 0 where
  pub life : LifeId
  pub call : Call
  pub next : Earlier (call ∷ at life) (did life)
  pub sent : (port : ℕ) (frame : Frame) → call ≡ Hears port frame → IsOf at (sending (next_event at life call))

-- a call that comes next in its process, and happens before an event
record IsBlocked (did at : LifeId → List Call) (sending : Event → Event) (event : Event) : Type 0 where
  life : LifeId
  call : Call
  next : Earlier (call ∷ at life) (did life)
  before : HappensBefore sending (next_event at life call) event

-- an event that is not before the cut has the next one of its process before it, or is that
next_before : (did at : LifeId → List Call) (sending : Event → Event) (s e : Event) → IsOf did s → HappensBefore sending s e → (d : Call) → Earlier (d ∷ at s.life) (s.call ∷ s.before) → IsBlocked did at sending e
next_before did at sending s e of before d next = record {
  life = s.life;
  call = d;
  next = earlier_trans (d ∷ at s.life) (s.call ∷ s.before) (did s.life) next of;
  before = by next;
}
  where
    by : Earlier (d ∷ at s.life) (s.call ∷ s.before) → HappensBefore sending (next_event at s.life d) e
    by (inl is) = subst (λ (a : Event). HappensBefore sending a e) (sym (same_event s.life d s.call (at s.life) s.before is)) before
    by (inr low) = chain (next_event at s.life d) s e (local (next_event at s.life d) s refl low) before

-- the sending of a frame is before the cut, or some next call happens before it
reached : (did at : LifeId → List Call) (sending : Event → Event) (s e : Event) → ((x : LifeId) → Earlier (at x) (did x)) → IsOf did s → HappensBefore sending s e → IsOf at s ⊎ IsBlocked did at sending e
reached did at sending s e cut of before = by (earlier_total (s.call ∷ s.before) (at s.life) (did s.life) of (cut s.life))
  where
    further : (at s.life ≡ s.call ∷ s.before) ⊎ ((d : Call) × Earlier (d ∷ at s.life) (s.call ∷ s.before)) → IsOf at s ⊎ IsBlocked did at sending e
    further (inl is) = inl (subst (λ (l : List Call). Earlier (s.call ∷ s.before) l) (sym is) (earlier_itself (s.call ∷ s.before)))
    further (inr n) = inr (next_before did at sending s e of before n.0 n.1)

    by : Earlier (s.call ∷ s.before) (at s.life) ⊎ Earlier (at s.life) (s.call ∷ s.before) → IsOf at s ⊎ IsBlocked did at sending e
    by (inl low) = inl low
    by (inr low) = further (next_of (at s.life) (s.call ∷ s.before) low)

-- a next call may come next, or another one happens before it
ready_or_blocked : (lives : List LifeId) (on : PowerOn) (did at : LifeId → List Call) (sending : Event → Event) → IsRun lives on did sending → ((x : LifeId) → Earlier (at x) (did x)) → (x : LifeId) (c : Call) → Earlier (c ∷ at x) (did x)
    → IsReady did at sending ⊎ IsBlocked did at sending (next_event at x c)
ready_or_blocked lives on did at sending run cut x (Clocks now samples) next = inl (record { life = x; call = Clocks now samples; next = next; sent = λ port frame is. absurd cc })
ready_or_blocked lives on did at sending run cut x (Loads number) next = inl (record { life = x; call = Loads number; next = next; sent = λ port frame is. absurd cc })
ready_or_blocked lives on did at sending run cut x (Hears port frame) next = by (reached did at sending (sending e) e cut (run.sent e port frame next refl).0 (message e port frame refl))
  where
    e : Event
    e = next_event at x (Hears port frame)

    by : IsOf at (sending e) ⊎ IsBlocked did at sending e → IsReady did at sending ⊎ IsBlocked did at sending e
    by (inl was) = inl (record { life = x; call = Hears port frame; next = next; sent = λ p f is. was })
    by (inr blocked) = inr blocked

-- the one event is the other, or happens before it
abbrev IsUpTo : (Event → Event) → Event → Event → Type 0
IsUpTo sending a b = (a ≡ b) ⊎ HappensBefore sending a b

before_up_to : (sending : Event → Event) (a b c : Event) → HappensBefore sending a b → IsUpTo sending b c → HappensBefore sending a c
before_up_to sending a b c before (inl is) = subst (HappensBefore sending a) is before
before_up_to sending a b c before (inr more) = chain a b c before more

-- each next call is one of a life of the list, or the event is up to it
abbrev AllAfter : (did at : LifeId → List Call) → (Event → Event) → List LifeId → Event → Type 0
AllAfter did at sending left event = (z : LifeId) (d : Call) → Earlier (d ∷ at z) (did z) → In z left ⊎ IsUpTo sending event (next_event at z d)

-- so it is of the next call that blocks one, and of the list without its life
passes_on : (did at : LifeId → List Call) (sending : Event → Event) (left : List LifeId) (e : Event) (b : IsBlocked did at sending e) (i : In b.life left) → AllAfter did at sending left e → AllAfter did at sending (without b.life left i) (next_event at b.life b.call)
passes_on did at sending left e b i all z d next = by (all z d next)
  where
    f : Event
    f = next_event at b.life b.call

    same_event : z ≡ b.life → f ≡ next_event at z d
    same_event is = λ j. next_event at (sym is j) (sym same j)
      where
        same : d ≡ b.call
        same = one_next (at b.life) (did b.life) d b.call (subst (λ (y : LifeId). Earlier (d ∷ at y) (did y)) is next) b.next

    sort : (z ≡ b.life) ⊎ In z (without b.life left i) → In z (without b.life left i) ⊎ IsUpTo sending f (next_event at z d)
    sort (inl is) = inr (inl (same_event is))
    sort (inr j) = inl j

    by : In z left ⊎ IsUpTo sending e (next_event at z d) → In z (without b.life left i) ⊎ IsUpTo sending f (next_event at z d)
    by (inl j) = sort (in_without b.life z left i j)
    by (inr up) = inr (inr (before_up_to sending f e (next_event at z d) b.before up))

-- Some call may come next
abbrev Finds : (did at : LifeId → List Call) → (Event → Event) → ℕ → Type 0
Finds did at sending most = (left : List LifeId) (x : LifeId) (c : Call) → length left < most → Earlier (c ∷ at x) (did x) → AllAfter did at sending left (next_event at x c) → IsReady did at sending

find_more : (lives : List LifeId) (on : PowerOn) (did at : LifeId → List Call) (sending : Event → Event) → IsRun lives on did sending → HasNoCycle did sending → ((x : LifeId) → Earlier (at x) (did x)) → (most : ℕ) → Finds did at sending most → Finds did at sending (suc most)
find_more lives on did at sending run none cut most find left x c few next all = by (ready_or_blocked lives on did at sending run cut x c next)
  where
    e : Event
    e = next_event at x c

    shorter : (l : List LifeId) → suc (length l) ≡ length left → length l < most
    shorter l is = omega (arith, is, few)

    on_blocked : (b : IsBlocked did at sending e) → In b.life left ⊎ IsUpTo sending e (next_event at b.life b.call) → IsReady did at sending
    on_blocked b (inl i) = find (without b.life left i) b.life b.call (shorter (without b.life left i) (without_length b.life left i)) b.next (passes_on did at sending left e b i all)
    on_blocked b (inr up) = absurd (none (next_event at b.life b.call) b.next (before_up_to sending (next_event at b.life b.call) e (next_event at b.life b.call) b.before up))

    by : IsReady did at sending ⊎ IsBlocked did at sending e → IsReady did at sending
    by (inl ready) = ready
    by (inr b) = on_blocked b (all b.life b.call b.next)

find : (lives : List LifeId) (on : PowerOn) (did at : LifeId → List Call) (sending : Event → Event) → IsRun lives on did sending → HasNoCycle did sending → ((x : LifeId) → Earlier (at x) (did x)) → (most : ℕ) → Finds did at sending most
find lives on did at sending run none cut zero = λ left x c few next all. absurd (omega (arith, few))
find lives on did at sending run none cut (suc most) = find_more lives on did at sending run none cut most (find lives on did at sending run none cut most)

-- a cut that some process goes on from has a call that may come next
pub ready : (lives : List LifeId) (on : PowerOn) (did at : LifeId → List Call) (sending : Event → Event) → IsRun lives on did sending → HasNoCycle did sending → ((x : LifeId) → Earlier (at x) (did x)) → (x : LifeId) (c : Call) → Earlier (c ∷ at x) (did x) → IsReady did at sending
ready lives on did at sending run none cut x c next =
    find lives on did at sending run none cut (suc (length lives)) lives x c (omega arith) next (λ z d more. inl (in_from z lives (run.among (next_event at z d) more)))
