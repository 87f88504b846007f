-- The calls of a run have one order, by which they are a history of the network.

use Rattle.std.proofs.Common.{◌≡◌, ◌∙◌, sym, ap, refl, subst, ℕ, zero, suc, ◌+◌, ◌-◌, ◌<◌, ◌≤◌, arith, List, [], ◌∷◌, ◌++◌, length, ◌⊎◌, inl, inr, Bool, true, false, cond, Contains}
use Rattle.std.proofs.lemmas.Bool.{cond_both}
use Rattle.std.proofs.lemmas.List.Elements.{Contains-append_left, Contains-append_right}
use Rattle.std.specs.Ordering.{is_eq}
use Rattle.an_base.specs.Values.{LifeId}
use Rattle.an_base.specs.Order.{life_cmp}
use Rattle.an_base.specs.declared.frame.Frame.{Frame}
use Rattle.an_base.proofs.LifeLemmas.{life_passes, same_life}
use Rattle.topo_report.proofs.Members.{In, in_from}
use Rattle.epoch_game.specs.Slice.{Earlier}
use Rattle.epoch_game.specs.Game.{Game, begins}
use Rattle.epoch_game.proofs.Lists.{earlier_itself, earlier_nil, earlier_trans}
use Rattle.switch_core.specs.Switch.{SwitchOf}
use Rattle.switch_game.specs.Network.{Happens, Network, PowerOn, clocks, dark, frames_of, hands, loads, none, stepped}
use Rattle.switch_processes.specs.Processes.{Call, Clocks, Event, HasNoCycle, Hears, IsConsistentCut, IsOf, IsRun, Loads, Takes, called, frames_out, switch_after}
use Rattle.switch_processes.specs.Orders.{AreSentBefore, CallOf, HasOneOrder, IsInterleaving, Passes, call_moves, calls_of, event_of, game_after, network_after}
use Rattle.switch_processes.proofs.Moments.{cut_has_no_cycle, cut_run, earlier_length, event_at, next_of, same_event}
use Rattle.switch_processes.proofs.Ready.{IsReady, ready}

-- the calls of a life with one more call of some life
pub calls_cases : (one : CallOf) (order : List CallOf) (x : LifeId) (P : List Call → Type 0) → (one.life ≡ x → P (one.call ∷ calls_of x order)) → P (calls_of x order) → P (calls_of x (one ∷ order))
calls_cases one order x P here else = cond_both (is_eq (life_cmp one.life x)) (one.call ∷ calls_of x order) (calls_of x order) P (λ is. here (same_life one.life x is)) (λ is. else)

pub calls_here : (one : CallOf) (order : List CallOf) → calls_of one.life (one ∷ order) ≡ one.call ∷ calls_of one.life order
calls_here one order = ap (λ (b : Bool). cond b (one.call ∷ calls_of one.life order) (calls_of one.life order)) (life_passes one.life one.life refl)

pub calls_more : (one : CallOf) (order : List CallOf) (x : LifeId) → Earlier (calls_of x order) (calls_of x (one ∷ order))
calls_more one order x = calls_cases one order x (Earlier (calls_of x order)) (λ is. inr (earlier_itself (calls_of x order))) (earlier_itself (calls_of x order))

-- Calls in an order that is a cut of what the processes did, in which frames come in after they are sent
pub record IsOrdered (did : LifeId → List Call) (sending : Event → Event) (order : List CallOf) : Type 0 where
  pub cut : (x : LifeId) → Earlier (calls_of x order) (did x)
  pub sent : AreSentBefore sending order

-- How many calls are left, at most
left : (LifeId → List Call) → List CallOf → List LifeId → ℕ
left did order [] = 0
left did order (x ∷ xs) = (length (did x) - length (calls_of x order)) + left did order xs

left_more : (did : LifeId → List Call) (one : CallOf) (order : List CallOf) (xs : List LifeId) → left did (one ∷ order) xs ≤ left did order xs
unfolding left
left_more did one order [] = omega arith
left_more did one order (x ∷ xs) =
    let grown = earlier_length (calls_of x order) (calls_of x (one ∷ order)) (calls_more one order x) in
    by (length (did x)) (length (calls_of x order)) (length (calls_of x (one ∷ order))) (left did (one ∷ order) xs) (left did order xs) grown (left_more did one order xs)
  where
    by : (d a b l m : ℕ) → a ≤ b → l ≤ m → (d - b) + l ≤ (d - a) + m
    by d a b l m grown rest = omega (arith, grown, rest)

left_less : (did : LifeId → List Call) (one : CallOf) (order : List CallOf) (xs : List LifeId) → Earlier (one.call ∷ calls_of one.life order) (did one.life) → In one.life xs → left did (one ∷ order) xs < left did order xs
unfolding left
left_less did one order [] next i = absurd i
left_less did one order (x ∷ xs) next (inl is) =
    let here = subst (λ (y : LifeId). length (calls_of y (one ∷ order)) ≡ suc (length (calls_of y order))) is (ap length (calls_here one order)) in
    let low = subst (λ (y : LifeId). suc (length (calls_of y order)) ≤ length (did y)) is (earlier_length (one.call ∷ calls_of one.life order) (did one.life) next) in
    by (length (did x)) (length (calls_of x order)) (length (calls_of x (one ∷ order))) (left did (one ∷ order) xs) (left did order xs) here low (left_more did one order xs)
  where
    by : (d a b l m : ℕ) → b ≡ suc a → suc a ≤ d → l ≤ m → (d - b) + l < (d - a) + m
    by d a b l m here low rest = omega (arith, here, low, rest)
left_less did one order (x ∷ xs) next (inr i) =
    let grown = earlier_length (calls_of x order) (calls_of x (one ∷ order)) (calls_more one order x) in
    by (length (did x)) (length (calls_of x order)) (length (calls_of x (one ∷ order))) (left did (one ∷ order) xs) (left did order xs) grown (left_less did one order xs next i)
  where
    by : (d a b l m : ℕ) → a ≤ b → l < m → (d - b) + l < (d - a) + m
    by d a b l m grown rest = omega (arith, grown, rest)

-- One more call that may come next
one_more : (did : LifeId → List Call) (sending : Event → Event) (order : List CallOf) → IsOrdered did sending order → (r : IsReady did (λ x. calls_of x order) sending) → IsOrdered did sending (record { life = r.life; call = r.call } ∷ order)
one_more did sending order ordered r = record {
  cut = λ x. calls_cases (record { life = r.life; call = r.call }) order x (λ (l : List Call). Earlier l (did x))
      (λ is. subst (λ (y : LifeId). Earlier (r.call ∷ calls_of y order) (did y)) is r.next) (ordered.cut x);
  sent = (r.sent, ordered.sent);
}

-- some process goes on, or none of these
goes_on : (did at : LifeId → List Call) → ((x : LifeId) → Earlier (at x) (did x)) → (xs : List LifeId) → ((x : LifeId) × (c : Call) × Earlier (c ∷ at x) (did x)) ⊎ ((x : LifeId) → In x xs → at x ≡ did x)
goes_on did at cut [] = inr (λ x i. absurd i)
goes_on did at cut (y ∷ ys) = by (next_of (at y) (did y) (cut y)) (goes_on did at cut ys)
  where
    by : (at y ≡ did y) ⊎ ((c : Call) × Earlier (c ∷ at y) (did y)) → ((x : LifeId) × (c : Call) × Earlier (c ∷ at x) (did x)) ⊎ ((x : LifeId) → In x ys → at x ≡ did x) → ((x : LifeId) × (c : Call) × Earlier (c ∷ at x) (did x)) ⊎ ((x : LifeId) → In x (y ∷ ys) → at x ≡ did x)
    by (inr n) rest = inl (y, n.0, n.1)
    by (inl is) (inl n) = inl n
    by (inl is) (inr all) = inr (λ x i. elim i [ inl same ↦ subst (λ (z : LifeId). at z ≡ did z) (sym same) is | inr j ↦ all x j ])

-- All calls in an order that goes on from one of some of them
pub record IsWhole (did : LifeId → List Call) (sending : Event → Event) (start : List CallOf) : Type 0 where
  pub order : List CallOf
  pub ordered : IsOrdered did sending order
  pub interleaving : IsInterleaving did order
  pub since : Earlier start order

ended : (lives : List LifeId) (on : PowerOn) (did at : LifeId → List Call) (sending : Event → Event) → IsRun lives on did sending → ((x : LifeId) → Earlier (at x) (did x)) → ((x : LifeId) → In x lives → at x ≡ did x) → (x : LifeId) → at x ≡ did x
ended lives on did at sending run cut all x = by (next_of (at x) (did x) (cut x))
  where
    by : (at x ≡ did x) ⊎ ((c : Call) × Earlier (c ∷ at x) (did x)) → at x ≡ did x
    by (inl is) = is
    by (inr n) = all x (in_from x lives (run.among (event_at x n.0 (at x)) n.1))

abbrev Extends : List LifeId → (LifeId → List Call) → (Event → Event) → ℕ → Type 0
Extends lives did sending most = (order : List CallOf) → IsOrdered did sending order → left did order lives < most → IsWhole did sending order

extend_more : (lives : List LifeId) (on : PowerOn) (did : LifeId → List Call) (sending : Event → Event) → IsRun lives on did sending → HasNoCycle did sending → (most : ℕ) → Extends lives did sending most → Extends lives did sending (suc most)
extend_more lives on did sending run acyclic most extend order ordered few = by (goes_on did at ordered.cut lives)
  where
    at : LifeId → List Call
    at x = calls_of x order

    lesser : (l m : ℕ) → l < m → m < suc most → l < most
    lesser l m low high = omega (arith, low, high)

    with_ready : IsReady did at sending → IsWhole did sending order
    with_ready r =
        let one : CallOf = record { life = r.life; call = r.call } in
        let less = left_less did one order lives r.next (in_from r.life lives (run.among (event_at r.life r.call (at r.life)) r.next)) in
        let all = extend (one ∷ order) (one_more did sending order ordered r) (lesser (left did (one ∷ order) lives) (left did order lives) less few) in
        record { order = all.order; ordered = all.ordered; interleaving = all.interleaving; since = earlier_trans order (one ∷ order) all.order (inr (earlier_itself order)) all.since }

    by : ((x : LifeId) × (c : Call) × Earlier (c ∷ at x) (did x)) ⊎ ((x : LifeId) → In x lives → at x ≡ did x) → IsWhole did sending order
    by (inl n) = with_ready (ready lives on did at sending run acyclic ordered.cut n.0 n.1 n.2)
    by (inr all) = record { order = order; ordered = ordered; interleaving = ended lives on did at sending run ordered.cut all; since = earlier_itself order }

extend : (lives : List LifeId) (on : PowerOn) (did : LifeId → List Call) (sending : Event → Event) → IsRun lives on did sending → HasNoCycle did sending → (most : ℕ) → Extends lives did sending most
extend lives on did sending run acyclic zero = λ order ordered few. absurd (omega (arith, few))
extend lives on did sending run acyclic (suc most) = extend_more lives on did sending run acyclic most (extend lives on did sending run acyclic most)

pub whole_from : (lives : List LifeId) (on : PowerOn) (did : LifeId → List Call) (sending : Event → Event) → IsRun lives on did sending → HasNoCycle did sending → (start : List CallOf) → IsOrdered did sending start → IsWhole did sending start
whole_from lives on did sending run acyclic start ordered = extend lives on did sending run acyclic (suc (left did start lives)) start ordered (omega arith)

pub whole : (lives : List LifeId) (on : PowerOn) (did : LifeId → List Call) (sending : Event → Event) → IsRun lives on did sending → HasNoCycle did sending → IsWhole did sending []
whole lives on did sending run acyclic = whole_from lives on did sending run acyclic [] (record { cut = λ x. earlier_nil (did x); sent = tt })

-- Each switch of the network is what it is in its process
pub same_switch : (on : PowerOn) (order : List CallOf) (x : LifeId) → (network_after on order).switches x ≡ switch_after on x (calls_of x order)
same_switch on [] x = refl
same_switch on (one ∷ order) x = by (is_eq (life_cmp one.life x)) refl (same_switch on order x)
  where
    w : Network
    w = network_after on order

    by : (b : Bool) → is_eq (life_cmp one.life x) ≡ b → w.switches x ≡ switch_after on x (calls_of x order) → cond b (called one.call (w.switches one.life)).switch (w.switches x) ≡ switch_after on x (cond b (one.call ∷ calls_of x order) (calls_of x order))
    by true is old = ap (λ (s : SwitchOf). (called one.call s).switch) (ap w.switches (same_life one.life x is) ∙ old)
    by false is old = old

-- what went out by an event of the order was sent in the network
pub was_sent : (on : PowerOn) (order : List CallOf) (s : Event) (frame : Frame) → IsOf (λ x. calls_of x order) s → Contains (frames_out on s) frame → Contains (network_after on order).sent frame
was_sent on [] s frame of out = absurd cc
was_sent on (one ∷ order) s frame of out = by (is_eq (life_cmp one.life s.life)) refl (λ low. Contains-append_right new w.sent frame (was_sent on order s frame low out)) of
  where
    w : Network
    w = network_after on order

    new : List Frame
    new = frames_of (called one.call (w.switches one.life)).frames

    now : one.life ≡ s.life → s.call ∷ s.before ≡ one.call ∷ calls_of s.life order → frames_out on s ≡ new
    now same is =
        let switch = sym (same_switch on order s.life) ∙ ap w.switches (sym same) in
        ap (frames_out on) (same_event s.life s.call one.call s.before (calls_of s.life order) is) ∙ ap (λ (u : SwitchOf). frames_of (called one.call u).frames) switch

    by : (b : Bool) → is_eq (life_cmp one.life s.life) ≡ b → (Earlier (s.call ∷ s.before) (calls_of s.life order) → Contains (new ++ w.sent) frame) → Earlier (s.call ∷ s.before) (cond b (one.call ∷ calls_of s.life order) (calls_of s.life order))
        → Contains (new ++ w.sent) frame
    by true is before (inl at) = Contains-append_left new w.sent frame (subst (λ (l : List Frame). Contains l frame) (now (same_life one.life s.life is) at) out)
    by true is before (inr low) = before low
    by false is before low = before low

-- Each call of an order may happen after the earlier ones
pub record CanCall (lives : List LifeId) (on : PowerOn) (one : CallOf) (earlier : List CallOf) : Type 0 where
  pub among : Contains lives one.life
  pub takes : Takes ((network_after on earlier).switches one.life) one.call
  pub sent : (port : ℕ) (frame : Frame) → one.call ≡ Hears port frame → Contains (network_after on earlier).sent frame

abbrev pub CanHappen : List LifeId → PowerOn → List CallOf → Type 0
CanHappen lives on [] = Unit {0}
CanHappen lives on (one ∷ earlier) = CanCall lives on one earlier × CanHappen lives on earlier

pub can_happen : (lives : List LifeId) (on : PowerOn) (did : LifeId → List Call) (sending : Event → Event) → IsRun lives on did sending → (order : List CallOf) → IsOrdered did sending order → CanHappen lives on order
can_happen lives on did sending run [] ordered = tt
can_happen lives on did sending run (one ∷ order) ordered = (
  record {
    among = run.among e of;
    takes = subst (λ (s : SwitchOf). Takes s one.call) (sym (same_switch on order one.life)) (run.taken e of);
    sent = λ port frame is. was_sent on order (sending e) frame (ordered.sent.0 port frame is) (run.sent e port frame of is).1;
  },
  can_happen lives on did sending run order (record { cut = λ x. earlier_trans (calls_of x order) (calls_of x (one ∷ order)) (did x) (calls_more one order x) (ordered.cut x); sent = ordered.sent.1 }),
)
  where
    e : Event
    e = event_of one order

    of : IsOf did e
    of = subst (λ (l : List Call). Earlier l (did one.life)) (calls_here one order) (ordered.cut one.life)

pub can_tail : (lives : List LifeId) (on : PowerOn) (order earlier : List CallOf) → Earlier earlier order → CanHappen lives on order → CanHappen lives on earlier
can_tail lives on [] earlier is can = subst (CanHappen lives on) (sym is) can
can_tail lives on (one ∷ order) earlier (inl is) can = subst (CanHappen lives on) (sym is) can
can_tail lives on (one ∷ order) earlier (inr low) can = can_tail lives on order earlier low can.1

-- so all happens in the network, from each earlier moment on
one_happens : (lives : List LifeId) (v : Network) (g : Game) (w : Network) (h : Game) (x : LifeId) (c : Call) → Happens lives v g w h → Contains lives x → Takes (w.switches x) c → ((port : ℕ) (frame : Frame) → c ≡ Hears port frame → Contains w.sent frame)
    → Happens lives v g (stepped w x (called c (w.switches x))) (call_moves x c (w.switches x) h)
one_happens lives v g w h x (Clocks now samples) happens among takes sent = clocks w h x now samples happens among takes
one_happens lives v g w h x (Hears port frame) happens among takes sent = hands w h x port frame happens among takes.0 takes.1 takes.2 (sent port frame refl)
one_happens lives v g w h x (Loads number) happens among takes sent = loads w h x number happens among takes

pub happens_since : (lives : List LifeId) (on : PowerOn) (order earlier : List CallOf) → Earlier earlier order → CanHappen lives on order → Happens lives (network_after on earlier) (game_after on earlier) (network_after on order) (game_after on order)
happens_since lives on [] earlier is can = subst (λ (o : List CallOf). Happens lives (network_after on o) (game_after on o) (network_after on []) (game_after on [])) (sym is) none
happens_since lives on (one ∷ order) earlier (inl is) can = subst (λ (o : List CallOf). Happens lives (network_after on o) (game_after on o) (network_after on (one ∷ order)) (game_after on (one ∷ order))) (sym is) none
happens_since lives on (one ∷ order) earlier (inr low) can =
    one_happens lives (network_after on earlier) (game_after on earlier) (network_after on order) (game_after on order) one.life one.call (happens_since lives on order earlier low can.1) can.0.among can.0.takes can.0.sent

pub happens_to : (lives : List LifeId) (on : PowerOn) (order : List CallOf) → CanHappen lives on order → Happens lives (dark on) (begins on.epoch) (network_after on order) (game_after on order)
happens_to lives on order can = happens_since lives on order [] (earlier_nil order) can

-- and so at each moment of an order
abbrev pub AllHappen : List LifeId → PowerOn → List CallOf → Type 0
AllHappen lives on order = (past : List CallOf) → Earlier past order → Happens lives (dark on) (begins on.epoch) (network_after on past) (game_after on past)

pub all_happen : (lives : List LifeId) (on : PowerOn) (order : List CallOf) → CanHappen lives on order → AllHappen lives on order
all_happen lives on order can past earlier = happens_to lives on past (can_tail lives on order past earlier can)

-- at an earlier moment of an order each life is at an earlier one of its own
calls_earlier : (order past : List CallOf) (x : LifeId) → Earlier past order → Earlier (calls_of x past) (calls_of x order)
calls_earlier [] past x is = subst (λ (o : List CallOf). Earlier (calls_of x o) []) (sym is) (earlier_itself [])
calls_earlier (one ∷ order) past x (inl is) = subst (λ (o : List CallOf). Earlier (calls_of x o) (calls_of x (one ∷ order))) (sym is) (earlier_itself (calls_of x (one ∷ order)))
calls_earlier (one ∷ order) past x (inr low) = earlier_trans (calls_of x past) (calls_of x order) (calls_of x (one ∷ order)) (calls_earlier order past x low) (calls_more one order x)

-- one order of all, and of what was done up to a cut first
with_start : (lives : List LifeId) (on : PowerOn) (did : LifeId → List Call) (sending : Event → Event) → IsRun lives on did sending → (start : List CallOf) → IsWhole did sending start → HasOneOrder lives on did sending
with_start lives on did sending run start w = record {
  order = w.order;
  interleaving = w.interleaving;
  sent_before = w.ordered.sent;
  happens = all_happen lives on w.order (can_happen lives on did sending run w.order w.ordered);
  moments = λ past earlier x. subst (Earlier (calls_of x past)) (w.interleaving x) (calls_earlier w.order past x earlier);
  switches = λ past earlier x. same_switch on past x;
}

pub one_order : (lives : List LifeId) (on : PowerOn) (did : LifeId → List Call) (sending : Event → Event) → IsRun lives on did sending → HasNoCycle did sending → HasOneOrder lives on did sending
one_order lives on did sending run acyclic = with_start lives on did sending run [] (whole lives on did sending run acyclic)

pub passes : (lives : List LifeId) (on : PowerOn) (did cut : LifeId → List Call) (sending : Event → Event) → IsRun lives on did sending → HasNoCycle did sending → IsConsistentCut did cut sending → (one : HasOneOrder lives on did sending) × Passes lives on cut one.order
unfolding with_start
passes lives on did cut sending run acyclic is =
    let c = whole lives on cut sending (cut_run lives on did cut sending run is) (cut_has_no_cycle did cut sending acyclic is) in
    let w = whole_from lives on did sending run acyclic c.order (record { cut = λ x. earlier_trans (calls_of x c.order) (cut x) (did x) (c.ordered.cut x) (is.moments x); sent = c.ordered.sent }) in (
      with_start lives on did sending run c.order w,
      record {
        past = c.order;
        earlier = w.since;
        interleaving = c.interleaving;
        switches = λ x. same_switch on c.order x ∙ ap (switch_after on x) (c.interleaving x);
        since = happens_since lives on w.order c.order w.since (can_happen lives on did sending run w.order w.ordered);
      },
    )
