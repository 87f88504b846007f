use Rattle.std.specs.Prelude.{IsTrue, is_some, nat_le}
use Rattle.std.proofs.Common.{◌≡◌, ◌∙◌, ◌⊎◌, inl, inr, ⊎_elim, sym, ap, subst, refl, ℕ, zero, suc, ◌+◌, ◌≤◌, ◌==◌, ◌||◌, arith, [], ◌∷◌, Option, Some, None, Bool, true, false, cond, length-append}
use Rattle.std.proofs.lemmas.Bool.{false≢true, true≢false, eqb-true, eqb-false, ne_eqb, eq-eqb, leb-true, leb-false, le-leb, or_cases, cases_Bool, cases_eq}
use Rattle.an_base.specs.declared.body.Body.{Body}
use Rattle.common_values.proofs.TestLemmas.{by_test}
use Rattle.ordered_link.specs.Receiving.{Receiving, last, accept, hold, come, verdict, follow, follow_with, has_come, received, follow_all, after_verdict, is_acknowledged}
use Rattle.ordered_link.specs.declared.receiver.Verdict.TheVariants.{Accepted, Held, Repeat, Ahead}
use Rattle.link_settling.proofs.WayModel.{is_held}

-- held bodies are followed
record Follows (r q : Receiving) : Type 0 where
  grows : last r ≤ last q
  one : (last q ≡ last r) ⊎ IsTrue (is_held r (last q))
  held_on : (j : ℕ) → IsTrue (is_held r j) → (j ≤ last q) ⊎ IsTrue (is_held q j)
  held : (j : ℕ) → IsTrue (is_held q j) → IsTrue (is_held r j)

abbrev IsAbove : Receiving → Type 0
IsAbove r = (j : ℕ) → IsTrue (is_held r j) → last r + 1 ≤ j

stays : (r : Receiving) → Follows r r
stays r = record { grows = omega arith; one = inl refl; held_on = λ j h. inr h; held = λ j h. h }

accepted_last : (b : Body) (r : Receiving) → last (accept b r) ≡ last r + 1
accepted_last b r = length-append r.accepted (b ∷ [])

-- the wanted body, where it is held, is accepted and held no more
followed : (b : Body) (r : Receiving) → r.held (last r + 1) ≡ Some b → IsAbove r → Follows r (hold (last r + 1) None (accept b r)) × IsAbove (hold (last r + 1) None (accept b r))
followed b r is above = (
  record {
    grows = omega (arith, e);
    one = inr (subst (λ n. IsTrue (is_held r n)) (sym e) (ap is_some is));
    held_on = λ j h. ⊎_elim (λ (same : j ≡ last r + 1). inl (omega (arith, same, e))) (λ other. inr (ap (λ t. is_some (cond t None (r.held j))) (ne_eqb j (last r + 1) other) ∙ h)) (cases_eq j (last r + 1));
    held = kept;
  },
  λ j h. let a = above j (kept j h) in let n = apart j h in less j a n,
)
  where
    e : last (accept b r) ≡ last r + 1
    e = accepted_last b r

    kept : (j : ℕ) → IsTrue (is_some (cond (j == last r + 1) None (r.held j))) → IsTrue (is_held r j)
    kept j = by_test (λ t. IsTrue (is_some (cond t None (r.held j))) → IsTrue (is_held r j)) (j == last r + 1) (λ _ h. absurd (false≢true h)) (λ _ h. h)

    apart : (j : ℕ) → IsTrue (is_some (cond (j == last r + 1) None (r.held j))) → j ≡ last r + 1 → ⊥
    apart j h same = false≢true (sym (ap (λ t. is_some (cond t None (r.held j))) (eq-eqb j (last r + 1) same)) ∙ h)

    less : (j : ℕ) → last r + 1 ≤ j → (j ≡ last r + 1 → ⊥) → last (accept b r) + 1 ≤ j
    less j a n = let f = e in grind (arith, a, n, f)

follow_by : (o : Option Body) (r : Receiving) → r.held (last r + 1) ≡ o → IsAbove r → Follows r (follow_with o r) × IsAbove (follow_with o r)
follow_by None r is above = (stays r, above)
follow_by (Some b) r is above = followed b r is above

follows_then : (r p q : Receiving) → Follows r p → Follows p q → Follows r q
follows_then r p q f g = record {
  grows = let a = f.grows in let b = g.grows in omega (arith, a, b);
  one = ⊎_elim (λ e. ⊎_elim (λ d. inl (e ∙ d)) (λ h. inr (subst (λ n. IsTrue (is_held r n)) (sym e) h)) f.one) (λ h. inr (f.held (last q) h)) g.one;
  held_on = λ j h. ⊎_elim (λ below. inl (let b = g.grows in omega (arith, b, below))) (λ k. g.held_on j k) (f.held_on j h);
  held = λ j h. f.held j (g.held j h);
}

all_followed : (n : ℕ) (r : Receiving) → IsAbove r → Follows r (follow_all n r) × IsAbove (follow_all n r)
all_followed zero r above = (stays r, above)
all_followed (suc n) r above =
    let one = follow_by (r.held (last r + 1)) r refl above in
    let more = all_followed n (follow r) one.1 in
    (follows_then r (follow r) (follow_all n (follow r)) one.0 more.0, more.1)

-- until the wanted one is not held
abbrev StopsIn : ℕ → Receiving → Type 0
StopsIn n r = (r.held (last r + 1) ≡ None) ⊎ ((j : ℕ) → IsTrue (is_held r j) → j ≤ last r + n)

stops_none : (r : Receiving) → ((j : ℕ) → IsTrue (is_held r j) → j ≤ last r + 0) → is_held r (last r + 1) ≡ false
stops_none r few = ⊎_elim (λ h. absurd (let f = few (last r + 1) h in omega (arith, f))) (λ h. h) (cases_Bool (is_held r (last r + 1)))

stops_by : (n : ℕ) (o : Option Body) (r : Receiving) → r.held (last r + 1) ≡ o → IsAbove r → StopsIn (suc n) r → StopsIn n (follow_with o r)
stops_by n None r is above few = inl is
stops_by n (Some b) r is above few =
    let f = (followed b r is above).0 in
    let e = accepted_last b r in
    inr (λ j h. ⊎_elim (λ none. absurd (false≢true (ap is_some (sym none ∙ is)))) (λ (some : (j : ℕ) → IsTrue (is_held r j) → j ≤ last r + suc n). let s = some j (f.held j h) in omega (arith, s, e)) few)

stops : (n : ℕ) (r : Receiving) → IsAbove r → StopsIn n r → is_held (follow_all n r) (last (follow_all n r) + 1) ≡ false
stops zero r above few = ⊎_elim (λ none. ap is_some none) (λ some. stops_none r some) few
stops (suc n) r above few = stops n (follow r) (follow_by (r.held (last r + 1)) r refl above).1 (stops_by n (r.held (last r + 1)) r refl above few)

-- what is held lies in the window above the next one
pub record IsTidy (r : Receiving) : Type 0 where
  pub above : (j : ℕ) → IsTrue (is_held r j) → last r + 2 ≤ j
  pub near : (j : ℕ) → IsTrue (is_held r j) → j ≤ last r + 8

-- what one more body does
pub record Receipt (k : ℕ) (r q : Receiving) : Type 0 where
  pub grows : last r ≤ last q
  pub one : (last q ≡ last r) ⊎ ((last q ≡ k) ⊎ IsTrue (is_held r (last q)))
  pub in_window : k ≤ last r + 8 → (k ≤ last q) ⊎ IsTrue (is_held q k)
  pub held_on : (j : ℕ) → IsTrue (is_held r j) → (j ≤ last q) ⊎ IsTrue (is_held q j)
  pub held : (j : ℕ) → IsTrue (is_held q j) → IsTrue (is_held r j) ⊎ (j ≡ k)
  pub tidy : IsTidy q

repeated : (k : ℕ) (r : Receiving) → has_come k r ≡ true → IsTidy r → Receipt k r r
repeated k r come tidy = record {
  grows = omega arith;
  one = inl refl;
  in_window = λ _. ⊎_elim (λ below. inl (leb-true k (last r) below)) (λ held. inr held) (or_cases (nat_le k (last r)) (is_held r k) come);
  held_on = λ j h. inr h;
  held = λ j h. inl h;
  tidy = tidy;
}

ahead : (k : ℕ) (r : Receiving) → nat_le k (last r + 8) ≡ false → IsTidy r → Receipt k r r
ahead k r far tidy = record {
  grows = omega arith;
  one = inl refl;
  in_window = λ near. absurd (let f = leb-false k (last r + 8) far in omega (arith, f, near));
  held_on = λ j h. inr h;
  held = λ j h. inl h;
  tidy = tidy;
}

kept_aside : (k : ℕ) (body : Body) (r : Receiving) → has_come k r ≡ false → (k == last r + 1) ≡ false → nat_le k (last r + 8) ≡ true → IsTidy r → Receipt k r (hold k (Some body) r)
kept_aside k body r new other near tidy = record {
  grows = omega arith;
  one = inl refl;
  in_window = λ _. inr here;
  held_on = λ j h. inr (by_test (λ t. IsTrue (is_some (cond t (Some body) (r.held j)))) (j == k) (λ _. refl) (λ _. h));
  held = which;
  tidy = record {
    above = λ j h. ⊎_elim (tidy.above j) (λ (same : j ≡ k). let a = far_enough in omega (arith, same, a)) (which j h);
    near = λ j h. ⊎_elim (tidy.near j) (λ (same : j ≡ k). let a = leb-true k (last r + 8) near in omega (arith, same, a)) (which j h);
  };
}
  where
    here : IsTrue (is_some (cond (k == k) (Some body) (r.held k)))
    here = ap (λ t. is_some (cond t (Some body) (r.held k))) (eq-eqb k k refl)

    which : (j : ℕ) → IsTrue (is_some (cond (j == k) (Some body) (r.held j))) → IsTrue (is_held r j) ⊎ (j ≡ k)
    which j = by_test (λ t. (j == k) ≡ t → IsTrue (is_some (cond t (Some body) (r.held j))) → IsTrue (is_held r j) ⊎ (j ≡ k)) (j == k) (λ _ same _. inr (eqb-true j k same)) (λ _ _ h. inl h) refl

    above_last : (b c : Bool) → (b || c) ≡ false → b ≡ false
    above_last true c h = absurd (true≢false h)
    above_last false c h = refl

    far_enough : last r + 2 ≤ k
    far_enough = let a = leb-false k (last r) (above_last (nat_le k (last r)) (is_held r k) new) in let b = eqb-false k (last r + 1) other in grind (arith, a, b)

taken : (k : ℕ) (body : Body) (r : Receiving) → k ≡ last r + 1 → IsTidy r → Receipt k r (follow_all 7 (accept body r))
taken k body r wanted tidy = record {
  grows = let g = f.grows in omega (arith, g, e);
  one = ⊎_elim (λ same. inr (inl (same ∙ e ∙ sym wanted))) (λ held. inr (inr held)) f.one;
  in_window = λ _. inl (let g = f.grows in omega (arith, g, e, wanted));
  held_on = f.held_on;
  held = λ j h. inl (f.held j h);
  tidy = record {
    above = λ j h. let a = all.1 j h in let n = apart j h in less j a n;
    near = λ j h. let n = tidy.near j (f.held j h) in let g = f.grows in omega (arith, n, g, e);
  };
}
  where
    e : last (accept body r) ≡ last r + 1
    e = accepted_last body r

    above : IsAbove (accept body r)
    above j h = let a = tidy.above j h in omega (arith, a, e)

    all : Follows (accept body r) (follow_all 7 (accept body r)) × IsAbove (follow_all 7 (accept body r))
    all = all_followed 7 (accept body r) above

    f : Follows (accept body r) (follow_all 7 (accept body r))
    f = all.0

    stopped : is_held (follow_all 7 (accept body r)) (last (follow_all 7 (accept body r)) + 1) ≡ false
    stopped = stops 7 (accept body r) above (inr (λ j h. let n = tidy.near j h in omega (arith, n, e)))

    apart : (j : ℕ) → IsTrue (is_held (follow_all 7 (accept body r)) j) → j ≡ last (follow_all 7 (accept body r)) + 1 → ⊥
    apart j h same = false≢true (sym stopped ∙ subst (λ n. IsTrue (is_held (follow_all 7 (accept body r)) n)) same h)

    less : (j : ℕ) → last (follow_all 7 (accept body r)) + 1 ≤ j → (j ≡ last (follow_all 7 (accept body r)) + 1 → ⊥) → last (follow_all 7 (accept body r)) + 2 ≤ j
    less j a n = grind (arith, a, n)

pub received_is : (k : ℕ) (body : Body) (r : Receiving) → IsTidy r → Receipt k r (received k body r)
received_is k body r tidy =
    by_test (λ a. has_come k r ≡ a → Receipt k r (after_verdict (cond a (Repeat (last r)) (cond (k == last r + 1) (Accepted body) (cond (nat_le k (last r + 8)) (Held (last r + 1) k) (Ahead (last r + 1) k)))) (cond a r (cond (k == last r + 1) (accept body r) (cond (nat_le k (last r + 8)) (hold k (Some body) r) r))))) (has_come k r)
    (λ _ come. repeated k r come tidy)
    (λ _ new.
    by_test (λ b. (k == last r + 1) ≡ b → Receipt k r (after_verdict (cond b (Accepted body) (cond (nat_le k (last r + 8)) (Held (last r + 1) k) (Ahead (last r + 1) k))) (cond b (accept body r) (cond (nat_le k (last r + 8)) (hold k (Some body) r) r)))) (k == last r + 1)
    (λ _ wanted. taken k body r (eqb-true k (last r + 1) wanted) tidy)
    (λ _ other.
    by_test (λ c. nat_le k (last r + 8) ≡ c → Receipt k r (after_verdict (cond c (Held (last r + 1) k) (Ahead (last r + 1) k)) (cond c (hold k (Some body) r) r))) (nat_le k (last r + 8))
    (λ _ near. kept_aside k body r new other near tidy)
    (λ _ far. ahead k r far tidy)
    refl)
    refl)
    refl

-- but for one that is too far ahead it is acknowledged
pub is_answered : (k : ℕ) (body : Body) (r : Receiving) → k ≤ last r + 8 → is_acknowledged (verdict k body r) ≡ true
is_answered k body r near =
    by_test (λ a. is_acknowledged (cond a (Repeat (last r)) (cond (k == last r + 1) (Accepted body) (cond (nat_le k (last r + 8)) (Held (last r + 1) k) (Ahead (last r + 1) k)))) ≡ true) (has_come k r)
    (λ _. refl)
    (λ _. by_test (λ b. is_acknowledged (cond b (Accepted body) (cond (nat_le k (last r + 8)) (Held (last r + 1) k) (Ahead (last r + 1) k))) ≡ true) (k == last r + 1)
    (λ _. refl)
    (λ _. ap (λ c. is_acknowledged (cond c (Held (last r + 1) k) (Ahead (last r + 1) k))) (le-leb k (last r + 8) near)))
