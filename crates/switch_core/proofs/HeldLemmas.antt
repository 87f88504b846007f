use Rattle.std.proofs.Common.{◌≡◌, ◌≢◌, ◌∙◌, sym, ap, refl, ℕ, zero, suc, ◌+◌, ◌<◌, ◌≤◌, ◌==◌, arith, [], ◌∷◌, length, length-append, length-drop, Option, Some, None, is_some, Bool, true, false, cond, nat_le, ◌⊎◌, inl, inr}
use Rattle.std.proofs.lemmas.Bool.{cases_eq, cond_both, ne_eqb, eqb-true, leb-true}
use Rattle.std.specs.List.{range_with_len, sum_by}
use Rattle.std.proofs.lemmas.List.Sums.{sum_by-cons, sum-map}
use Rattle.an_base.specs.declared.body.Body.{Body}
use Rattle.ordered_link.specs.declared.receiver.Verdict.{Verdict}
use Rattle.ordered_link.specs.declared.receiver.Verdict.TheVariants as verdict
use Rattle.ordered_link.specs.Receiving.{Receiving, accept, come, follow, follow_with, has_come, hold, last, verdict, accepted_by, after_verdict, follow_all, received}
use Rattle.port_monitor.specs.Histories.{externals}
use Rattle.switch_core.specs.Switch.{at_port}
use Rattle.switch_core.specs.Sound.{all_held, held_count, held_from}
use Rattle.switch_core.proofs.SessionLemmas.{at_the_port, at_other_port}

-- nothing is held beyond the window
abbrev pub IsNear : Receiving → Type 0
IsNear r = (k : ℕ) → last r + 8 < k → r.held k ≡ None

-- accepted and held bodies grow by at most so many
pub record Grows (most : ℕ) (old new : Receiving) : Type 0 where
  pub more : last old ≤ last new
  pub count : last new + held_count new ≤ most + last old + held_count old
  pub near : IsNear new

-- a place counts where it holds a body
abbrev bit : Option Body → ℕ
bit o = cond (is_some o) 1 0

-- one number more at the end
held_end : (n k : ℕ) (r : Receiving) → held_from (suc n) k r ≡ held_from n k r + bit (r.held (k + n))
held_end zero k r = let e = ap (λ j. bit (r.held j)) {x = k} {y = k + 0} (omega arith) in omega (arith, e)
held_end (suc n) k r =
    let rest = held_end n (suc k) r in
    let e = ap (λ j. bit (r.held j)) {x = suc k + n} {y = k + suc n} (omega arith) in
    omega (arith, rest, e)

-- the window moves on by one
held_on : (k : ℕ) (r : Receiving) → r.held (suc k + 7) ≡ None → bit (r.held k) + held_from 8 (suc k) r ≡ held_from 8 k r
held_on k r none =
    let e = held_end 7 (suc k) r in
    let f = ap bit none in
    omega (arith, e, f)

-- where less is held the count is less
held_less : (n k : ℕ) (u r : Receiving) → ((j : ℕ) → bit (u.held j) ≤ bit (r.held j)) → held_from n k u ≤ held_from n k r
held_less zero k u r less = omega arith
held_less (suc n) k u r less = let rest = held_less n (suc k) u r less in let here = less k in omega (arith, rest, here)

-- a body that is held counts once
hold_above : (n i k : ℕ) (o : Option Body) (r : Receiving) → k < i → held_from n i (hold k o r) ≡ held_from n i r
hold_above zero i k o r high = refl
hold_above (suc n) i k o r high =
    let here = ap (λ b. bit (cond b o (r.held i))) (ne_eqb i k (omega (arith, high))) in
    let rest = hold_above n (suc i) k o r (omega (arith, high)) in
    omega (arith, here, rest)

hold_most : (n i k : ℕ) (o : Option Body) (r : Receiving) → held_from n i (hold k o r) ≤ 1 + held_from n i r
hold_most zero i k o r = omega arith
hold_most (suc n) i k o r = here (i == k) refl (hold_most n (suc i) k o r)
  where
    one : (b : Bool) → cond b 1 0 ≤ 1
    one true = omega arith
    one false = omega arith

    here : (b : Bool) → b ≡ (i == k) → held_from n (suc i) (hold k o r) ≤ 1 + held_from n (suc i) r → held_from (suc n) i (hold k o r) ≤ 1 + held_from (suc n) i r
    here true test rest =
        let same = eqb-true i k (sym test) in
        let e = hold_above n (suc i) k o r (omega (arith, same)) in
        let f = one (is_some ((hold k o r).held i)) in
        omega (arith, e, f)
    here false test rest =
        let e = ap (λ b. bit (cond b o (r.held i))) (sym test) in
        omega (arith, e, rest)

-- one body is accepted
accept_grows : (body : Body) (r : Receiving) → IsNear r → Grows 1 r (accept body r)
accept_grows body r near =
    let e : last (accept body r) ≡ last r + 1 = length-append r.accepted (body ∷ []) in
    record {
      more = omega (arith, e);
      count =
          let f = ap (λ n. held_from 8 n r) {x = last (accept body r) + 1} {y = suc (last r + 1)} (omega (arith, e)) in
          let g = held_on (last r + 1) r (near (suc (last r + 1) + 7) (omega arith)) in
          omega (arith, e, f, g);
      near = λ k high. near k (omega (arith, high, e));
    }

-- a held one is accepted and no longer held
less_held : (b : Bool) (o : Option Body) → bit (cond b None o) ≤ bit o
less_held true None = omega arith
less_held true (Some body) = omega arith
less_held false o = omega arith

still_none : (b : Bool) (o : Option Body) → o ≡ None → cond b None o ≡ None
still_none true o none = refl
still_none false o none = none

take_grows : (body : Body) (r : Receiving) → IsNear r → r.held (last r + 1) ≡ Some body → Grows 0 r (hold (last r + 1) None (accept body r))
take_grows body r near there =
    let u = hold (last r + 1) None (accept body r) in
    let e : last u ≡ last r + 1 = length-append r.accepted (body ∷ []) in
    record {
      more = omega (arith, e);
      count =
          let less = held_less 8 (suc (last r + 1)) u r (λ j. less_held (j == last r + 1) (r.held j)) in
          let f = ap (λ n. held_from 8 n u) {x = last u + 1} {y = suc (last r + 1)} (omega (arith, e)) in
          let g = held_on (last r + 1) r (near (suc (last r + 1) + 7) (omega arith)) in
          let h = ap bit there in
          omega (arith, e, f, g, h, less);
      near = λ k high. still_none (k == last r + 1) (r.held k) (near k (omega (arith, high, e)));
    }

follow_grows : (o : Option Body) (r : Receiving) → IsNear r → r.held (last r + 1) ≡ o → Grows 0 r (follow_with o r)
follow_grows None r near there = record { more = omega arith; count = omega arith; near = near }
follow_grows (Some body) r near there = take_grows body r near there

grows_then : (most : ℕ) (a b c : Receiving) → Grows most a b → Grows 0 b c → Grows most a c
grows_then most a b c first next = record { more = omega (arith, first.more, next.more); count = omega (arith, first.count, next.count); near = next.near }

follow_all_grows : (n most : ℕ) (a b : Receiving) → Grows most a b → Grows most a (follow_all n b)
follow_all_grows zero most a b so_far = so_far
follow_all_grows (suc n) most a b so_far = follow_all_grows n most a (follow b) (grows_then most a b (follow b) so_far (follow_grows (b.held (last b + 1)) b so_far.near refl))

-- one body is held
hold_grows : (k : ℕ) (body : Body) (r : Receiving) → IsNear r → k ≤ last r + 8 → Grows 1 r (hold k (Some body) r)
hold_grows k body r near low = record {
  more = omega arith;
  count = let most = hold_most 8 (last r + 1) k (Some body) r in omega (arith, most);
  near = λ j high. ap (λ b. cond b (Some body) (r.held j)) (ne_eqb j k (omega (arith, low, high))) ∙ near j high;
}

nothing_grows : (r : Receiving) → IsNear r → Grows 1 r r
nothing_grows r near = record { more = omega arith; count = omega arith; near = near }

-- a body comes
come_grows : (k : ℕ) (body : Body) (r : Receiving) → IsNear r → Grows 1 r (come k body r)
come_grows k body r near =
    let held = cond (nat_le k (last r + 8)) (hold k (Some body) r) r in
    let may_hold = cond_both (nat_le k (last r + 8)) (hold k (Some body) r) r (Grows 1 r) (λ low. hold_grows k body r near (leb-true k (last r + 8) low)) (λ _. nothing_grows r near) in
    let new = cond_both (k == last r + 1) (accept body r) held (Grows 1 r) (λ _. accept_grows body r near) (λ _. may_hold) in
    cond_both (has_come k r) r (cond (k == last r + 1) (accept body r) held) (Grows 1 r) (λ _. nothing_grows r near) (λ _. new)

verdict_grows : (v : Verdict) (a b : Receiving) → Grows 1 a b → Grows 1 a (after_verdict v b)
verdict_grows (verdict.Accepted body) a b so_far = follow_all_grows 7 1 a b so_far
verdict_grows (verdict.Held wanted got) a b so_far = so_far
verdict_grows (verdict.Repeat last) a b so_far = so_far
verdict_grows (verdict.Ahead wanted got) a b so_far = so_far

pub received_grows : (k : ℕ) (body : Body) (r : Receiving) → IsNear r → Grows 1 r (received k body r)
received_grows k body r near = verdict_grows (verdict k body r) r (come k body r) (come_grows k body r near)

-- what is accepted by it was held, but for one
pub accepted_few : (k : ℕ) (body : Body) (r : Receiving) → IsNear r → length (accepted_by k body r) + held_count (received k body r) ≤ 1 + held_count r
accepted_few k body r near =
    let grows = received_grows k body r near in
    let e = length-drop (last r) (received k body r).accepted in
    omega (arith, e, grows.more, grows.count)

-- a sum over numbers that rise changes by what changes at one of them
sum_above : (n a port : ℕ) (g f : ℕ → ℕ) → ((q : ℕ) → q ≢ port → g q ≡ f q) → port < a → sum_by g (range_with_len a n) ≡ sum_by f (range_with_len a n)
sum_above zero a port g f same high = refl
sum_above (suc n) a port g f same high =
    let here = same a (omega (arith, high)) in
    let rest = sum_above n (a + 1) port g f same (omega (arith, high)) in
    let e = sum_by-cons g a (range_with_len (a + 1) n) in
    let h = sum_by-cons f a (range_with_len (a + 1) n) in
    omega (arith, here, rest, e, h)

sum_next : (n a port : ℕ) (g f : ℕ → ℕ) → (a ≡ port) ⊎ (a ≢ port) → ((q : ℕ) → q ≢ port → g q ≡ f q) → (a ≢ port → sum_by g (range_with_len (a + 1) n) + f port ≡ sum_by f (range_with_len (a + 1) n) + g port)
    → sum_by g (range_with_len a (suc n)) + f port ≡ sum_by f (range_with_len a (suc n)) + g port
sum_next n a port g f (inl at) same rest =
    let above = sum_above n (a + 1) port g f same (omega (arith, at)) in
    let e = sum_by-cons g a (range_with_len (a + 1) n) in
    let h = sum_by-cons f a (range_with_len (a + 1) n) in
    let i = ap g at in
    let j = ap f at in
    omega (arith, above, e, h, i, j)
sum_next n a port g f (inr other) same rest =
    let here = same a other in
    let e = sum_by-cons g a (range_with_len (a + 1) n) in
    let h = sum_by-cons f a (range_with_len (a + 1) n) in
    omega (arith, here, e, h, rest other)

sum_at : (n a port : ℕ) (g f : ℕ → ℕ) → ((q : ℕ) → q ≢ port → g q ≡ f q) → a ≤ port → port < a + n → sum_by g (range_with_len a n) + f port ≡ sum_by f (range_with_len a n) + g port
sum_at zero a port g f same least most = omega (arith, least, most)
sum_at (suc n) a port g f same least most = sum_next n a port g f (cases_eq a port) same (λ other. sum_at n (a + 1) port g f same (omega (arith, least, other)) (omega (arith, most)))

-- and so does the count of all that is held
all_held_at : (port : ℕ) (r : Receiving) (receivings : ℕ → Receiving) → 1 ≤ port → port ≤ 12 → all_held (at_port port r receivings) + held_count (receivings port) ≡ all_held receivings + held_count r
all_held_at port r receivings least most =
    let g = λ (q : ℕ). held_count (at_port port r receivings q) in
    let f = λ (q : ℕ). held_count (receivings q) in
    let all = sum_at 12 1 port g f (λ q other. ap held_count (at_other_port port q r receivings other)) least (omega (arith, most)) in
    let at = ap held_count (at_the_port port r receivings) in
    let e : all_held (at_port port r receivings) ≡ sum_by g (range_with_len 1 12) = sum-map g externals in
    let h : all_held receivings ≡ sum_by f (range_with_len 1 12) = sum-map f externals in
    omega (arith, all, at, e, h)

-- a body comes at one of the ports: one more is accepted or held
pub came_more : (port k : ℕ) (body : Body) (receivings : ℕ → Receiving) → IsNear (receivings port) → 1 ≤ port → port ≤ 12
    → length (accepted_by k body (receivings port)) + all_held (at_port port (received k body (receivings port)) receivings) ≤ 1 + all_held receivings
came_more port k body receivings near least most =
    let few = accepted_few k body (receivings port) near in
    let all = all_held_at port (received k body (receivings port)) receivings least most in
    omega (arith, few, all)
