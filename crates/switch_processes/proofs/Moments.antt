-- Moments of a process, and of what happens before what.

use Rattle.std.proofs.Common.{◌≡◌, sym, ap, refl, subst, ℕ, ◌<◌, ◌≤◌, arith, List, [], ◌∷◌, length, ◌⊎◌, inl, inr, Bool, true, false, cond}
use Rattle.std.specs.Prelude.{nat_lt}
use Rattle.std.proofs.lemmas.Bool.{cond_both, ltb-false, ltb-true}
use Rattle.an_base.specs.Values.{LifeId}
use Rattle.an_base.specs.declared.frame.Frame.{Frame}
use Rattle.epoch_game.specs.Slice.{Earlier}
use Rattle.epoch_game.proofs.Lists.{earlier_itself, earlier_total, earlier_trans}
use Rattle.switch_game.specs.Network.{PowerOn}
use Rattle.switch_processes.specs.Processes.{AreTimes, Call, Event, HappensBefore, HasNoCycle, Hears, IsConsistentCut, IsOf, IsRun, chain, local, made_by, message}

-- lists with one front and one rest
first_same : (c d : Call) (h k : List Call) → c ∷ h ≡ d ∷ k → c ≡ d
first_same c d h k is = cc

rest_same : (c d : Call) (h k : List Call) → c ∷ h ≡ d ∷ k → h ≡ k
rest_same c d h k is = cc

-- a call of a life after others, and one that makes the same list
abbrev pub event_at : LifeId → Call → List Call → Event
event_at x c h = record { life = x; call = c; before = h }

pub same_event : (x : LifeId) (c d : Call) (h k : List Call) → c ∷ h ≡ d ∷ k → event_at x c h ≡ event_at x d k
same_event x c d h k is = λ i. event_at x (first_same c d h k is i) (rest_same c d h k is i)

-- an earlier list is no longer
pub earlier_length : (h k : List Call) → Earlier h k → length h ≤ length k
earlier_length h [] e = let is = ap length e in omega (arith, is)
earlier_length h (x ∷ k) (inl e) = let is = ap length e in omega (arith, is)
earlier_length h (x ∷ k) (inr e) = let low = earlier_length h k e in omega (arith, low)

-- an earlier list is the whole one, or has a next call
pub next_of : (h k : List Call) → Earlier h k → (h ≡ k) ⊎ ((c : Call) × Earlier (c ∷ h) k)
next_of h [] e = inl e
next_of h (x ∷ k) (inl e) = inl e
next_of h (x ∷ k) (inr e) = by (next_of h k e)
  where
    by : (h ≡ k) ⊎ ((c : Call) × Earlier (c ∷ h) k) → (h ≡ x ∷ k) ⊎ ((c : Call) × Earlier (c ∷ h) (x ∷ k))
    by (inl is) = inr (x, inl (ap (λ (l : List Call). x ∷ l) is))
    by (inr n) = inr (n.0, inr n.1)

-- and no two
pub one_next : (h k : List Call) (c d : Call) → Earlier (c ∷ h) k → Earlier (d ∷ h) k → c ≡ d
one_next h k c d a b = by (earlier_total (c ∷ h) (d ∷ h) k a b)
  where
    longer : (x : Call) → Earlier (x ∷ h) h → ⊥
    longer x e = let low = earlier_length (x ∷ h) h e in omega (arith, low)

    by : Earlier (c ∷ h) (d ∷ h) ⊎ Earlier (d ∷ h) (c ∷ h) → c ≡ d
    by (inl (inl e)) = first_same c d h h e
    by (inl (inr e)) = absurd (longer c e)
    by (inr (inl e)) = sym (first_same d c h h e)
    by (inr (inr e)) = absurd (longer d e)

-- what is earlier in a process is an event of it
pub event_before : (did : LifeId → List Call) (a b : Event) → IsOf did b → a.life ≡ b.life → Earlier (a.call ∷ a.before) b.before → IsOf did a
event_before did a b of same e =
    subst (λ (x : LifeId). Earlier (a.call ∷ a.before) (did x)) (sym same)
    (earlier_trans (a.call ∷ a.before) (b.call ∷ b.before) (did b.life) (inr e) of)

-- Times rise along what happens before what
times_rise : (lives : List LifeId) (on : PowerOn) (did : LifeId → List Call) (sending : Event → Event) (time : Event → ℕ) → IsRun lives on did sending → AreTimes did sending time → (a b : Event) → HappensBefore sending a b → IsOf did b
    → IsOf did a × (time a < time b)
times_rise lives on did sending time run times _ _ (local a b same e) of = (event_before did a b of same e, times.local a b of same e)
times_rise lives on did sending time run times _ _ (message b port frame is) of = ((run.sent b port frame of is).0, times.message b port frame of is)
times_rise lives on did sending time run times _ _ (chain a b c first then_) of =
    let high = times_rise lives on did sending time run times b c then_ of in
    let low = times_rise lives on did sending time run times a b first high.0 in
    (low.0, by low.1 high.1)
  where
    by : time a < time b → time b < time c → time a < time c
    by low high = omega (arith, low, high)

-- so where there are times there is no cycle
pub no_cycle : (lives : List LifeId) (on : PowerOn) (did : LifeId → List Call) (sending : Event → Event) (time : Event → ℕ) → IsRun lives on did sending → AreTimes did sending time → HasNoCycle did sending
no_cycle lives on did sending time run times a of before =
    let low = (times_rise lives on did sending time run times a a before of).1 in
    omega (arith, low)

-- What was done up to a consistent cut is a run
of_whole : (did cut : LifeId → List Call) (sending : Event → Event) → IsConsistentCut did cut sending → (a : Event) → IsOf cut a → IsOf did a
of_whole did cut sending is a of = earlier_trans (a.call ∷ a.before) (cut a.life) (did a.life) of (is.moments a.life)

pub cut_run : (lives : List LifeId) (on : PowerOn) (did cut : LifeId → List Call) (sending : Event → Event) → IsRun lives on did sending → IsConsistentCut did cut sending → IsRun lives on cut sending
cut_run lives on did cut sending run is = record {
  among = λ a of. run.among a (of_whole did cut sending is a of);
  taken = λ a of. run.taken a (of_whole did cut sending is a of);
  sent = λ a port frame of comes. (is.sent a port frame of comes, (run.sent a port frame (of_whole did cut sending is a of) comes).1);
}

pub cut_has_no_cycle : (did cut : LifeId → List Call) (sending : Event → Event) → HasNoCycle did sending → IsConsistentCut did cut sending → HasNoCycle cut sending
cut_has_no_cycle did cut sending none is a of before = none a (of_whole did cut sending is a of) before

-- What was made by a time is earlier, and is what has no later time
made_earlier : (time : Event → ℕ) (now : ℕ) (x : LifeId) (l : List Call) → Earlier (made_by time now x l) l
made_earlier time now x [] = refl
made_earlier time now x (c ∷ l) = cond_both (nat_lt now (time (event_at x c l))) (made_by time now x l) (c ∷ l) (λ (k : List Call). Earlier k (c ∷ l)) (λ late. inr (made_earlier time now x l)) (λ early. inl refl)

made_low : (did : LifeId → List Call) (sending : Event → Event) (time : Event → ℕ) → AreTimes did sending time → (now : ℕ) (x : LifeId) (l : List Call) → Earlier l (did x) → (c : Call) (b : List Call) → Earlier (c ∷ b) (made_by time now x l) → time (event_at x c b) ≤ now
made_low did sending time times now x [] of c b e = absurd cc
made_low did sending time times now x (d ∷ l) of c b e = by (nat_lt now (at d l)) refl (λ low. made_low did sending time times now x l (earlier_trans l (d ∷ l) (did x) (inr (earlier_itself l)) of) c b low) e
  where
    at : Call → List Call → ℕ
    at k m = time (event_at x k m)

    none_later : (a z : ℕ) → a ≤ z → z ≤ now → a ≤ now
    none_later a z low high = omega (arith, low, high)

    same : c ∷ b ≡ d ∷ l → at c b ≤ at d l
    same is = let t : at c b ≡ at d l = ap time (same_event x c d b l is) in omega (arith, t)

    less : (a z : ℕ) → a < z → a ≤ z
    less a z low = omega (arith, low)

    by : (late : Bool) → nat_lt now (at d l) ≡ late → (Earlier (c ∷ b) (made_by time now x l) → at c b ≤ now) → Earlier (c ∷ b) (cond late (made_by time now x l) (d ∷ l)) → at c b ≤ now
    by true is before low = before low
    by false is before (inl eq) = none_later (at c b) (at d l) (same eq) (ltb-false now (at d l) is)
    by false is before (inr low) =
        none_later (at c b) (at d l) (less (at c b) (at d l) (times.local (event_at x c b) (event_at x d l) of refl low)) (ltb-false now (at d l) is)

made_in : (time : Event → ℕ) (now : ℕ) (x : LifeId) (l : List Call) (c : Call) (b : List Call) → time (event_at x c b) ≤ now → Earlier (c ∷ b) l → Earlier (c ∷ b) (made_by time now x l)
made_in time now x [] c b low e = e
made_in time now x (d ∷ l) c b low e = by (nat_lt now (at d l)) refl (made_in time now x l c b low) e
  where
    at : Call → List Call → ℕ
    at k m = time (event_at x k m)

    not_late : nat_lt now (at d l) ≡ true → c ∷ b ≡ d ∷ l → ⊥
    not_late late is =
        let t : at c b ≡ at d l = ap time (same_event x c d b l is) in
        let high = ltb-true now (at d l) late in
        omega (arith, t, high, low)

    by : (late : Bool) → nat_lt now (at d l) ≡ late → (Earlier (c ∷ b) l → Earlier (c ∷ b) (made_by time now x l)) → Earlier (c ∷ b) (d ∷ l) → Earlier (c ∷ b) (cond late (made_by time now x l) (d ∷ l))
    by true is before (inl eq) = absurd (not_late is eq)
    by true is before (inr more) = before more
    by false is before more = more

-- so it is a consistent cut
pub made_cut : (lives : List LifeId) (on : PowerOn) (did : LifeId → List Call) (sending : Event → Event) (time : Event → ℕ) (now : ℕ) → IsRun lives on did sending → AreTimes did sending time
    → IsConsistentCut did (λ x. made_by time now x (did x)) sending
made_cut lives on did sending time now run times = record { moments = λ x. made_earlier time now x (did x); sent = was_sent }
  where
    low : (a b : ℕ) → a < b → b ≤ now → a ≤ now
    low a b less most = omega (arith, less, most)

    was_sent : (e : Event) (port : ℕ) (frame : Frame) → IsOf (λ x. made_by time now x (did x)) e → e.call ≡ Hears port frame → IsOf (λ x. made_by time now x (did x)) (sending e)
    was_sent e port frame of comes =
        let s = sending e in
        let whole = earlier_trans (e.call ∷ e.before) (made_by time now e.life (did e.life)) (did e.life) of (made_earlier time now e.life (did e.life)) in
        let most = made_low did sending time times now e.life (did e.life) (earlier_itself (did e.life)) e.call e.before of in
        made_in time now s.life (did s.life) s.call s.before (low (time s) (time e) (times.message e port frame whole comes) most) (run.sent e port frame whole comes).0
