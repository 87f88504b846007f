use Rattle.std.specs.Prelude.{nat_lt, nat_le}
use Rattle.std.proofs.Common.{◌≡◌, ◌≢◌, ◌∙◌, ◌⊎◌, inl, inr, ⊎_elim, sym, ap, subst, refl, ℕ, suc, ◌+◌, ◌-◌, ◌≤◌, ◌<◌, ◌==◌, arith, List, [], ◌∷◌, length, get_or, set, Some, true, cond}
use Rattle.std.proofs.lemmas.Bool.{leb-true, ltb-true, leb-false, and_parts, and_from, lt-ltb, le-leb, cases_eq, eqb-true}
use Rattle.std.proofs.lemmas.Option.{same_Some, none-some}
use Rattle.std.proofs.lemmas.List.{length-set, get_or-set_same, get_or-set_other}
use Rattle.an_base.specs.Values.{EndId, PeerAt}
use Rattle.common_values.proofs.TestLemmas.{by_test}
use Rattle.ordered_link.specs.Sending.{Sending, highest, is_outstanding, send_again, due_from, due, is_due}
use Rattle.ordered_link.specs.Session.{put_out}
use Rattle.switch_core.specs.Switch.{SwitchOf}
use Rattle.switch_core.specs.Steps.{peer_among, sends_again, all_again, resends_on, all_resent}
use Rattle.link_settling.specs.Directions.{last_sent}
use Rattle.link_settling.specs.Moves.{resting, repeating, Works, IsFresh}
use Rattle.link_settling.proofs.Moves.{works_still, works_on, sends_here, sends_elsewhere, filled_again}
use Rattle.switch_core.proofs.SessionLemmas.{at_the_port, at_other_port}

-- all are outstanding
abbrev AreOut : List ℕ → Sending → Type 0
AreOut [] t = Unit {0}
AreOut (k ∷ ks) t = (is_outstanding k t ≡ true) × AreOut ks t

-- one of them
abbrev IsOneOf : ℕ → List ℕ → Type 0
IsOneOf k [] = ⊥
IsOneOf k (n ∷ ns) = (n ≡ k) ⊎ IsOneOf k ns

out_is : (k : ℕ) (t : Sending) → t.acked < k → k ≤ highest t → is_outstanding k t ≡ true
out_is k t above below = and_from (nat_lt t.acked k) (nat_le k (highest t)) (lt-ltb t.acked k above) (le-leb k (highest t) below)

out_above : (k : ℕ) (t : Sending) → is_outstanding k t ≡ true → t.acked < k
out_above k t out = ltb-true t.acked k (and_parts (nat_lt t.acked k) (nat_le k (highest t)) out).0

out_below : (k : ℕ) (t : Sending) → is_outstanding k t ≡ true → k ≤ highest t
out_below k t out = leb-true k (highest t) (and_parts (nat_lt t.acked k) (nat_le k (highest t)) out).1

out_again : (now k j : ℕ) (t : Sending) → is_outstanding j t ≡ true → is_outstanding j (send_again k now t) ≡ true
out_again now k j t out =
    let l = length-set t.sent (k - t.acked - 1) now in
    let b = out_below j t out in
    out_is j (send_again k now t) (out_above j t out) (omega (arith, b, l))

all_out_again : (now k : ℕ) (ks : List ℕ) (t : Sending) → AreOut ks t → AreOut ks (send_again k now t)
all_out_again now k [] t out = tt
all_out_again now k (j ∷ js) t out = (out_again now k j t out.0, all_out_again now k js t out.1)

-- what is due is outstanding
due_out : (now k : ℕ) (ticks : List ℕ) (t : Sending) → t.acked < k → k + length ticks ≤ suc (highest t) → AreOut (due_from now k ticks) t
due_out now k [] t above below = tt
due_out now k (tick ∷ ticks) t above below =
    let rest = due_out now (suc k) ticks t (omega (arith, above)) (omega (arith, below)) in
    by_test (λ b. AreOut (cond b (k ∷ due_from now (suc k) ticks) (due_from now (suc k) ticks)) t) (is_due now tick)
    (λ _. (out_is k t above (omega (arith, below)), rest)) (λ _. rest)

-- and what is not due went out less than four ticks ago
due_all : (now k : ℕ) (ticks : List ℕ) (j : ℕ) → k ≤ j → j < k + length ticks → (now ≤ get_or ticks (j - k) 0 + 3) ⊎ IsOneOf j (due_from now k ticks)
due_all now k [] j above below = absurd (omega (arith, above, below))
due_all now k (tick ∷ ticks) j above below =
    ⊎_elim
    (λ (same : j ≡ k).
    by_test (λ b. is_due now tick ≡ b → (now ≤ get_or (tick ∷ ticks) (j - k) 0 + 3) ⊎ IsOneOf j (cond b (k ∷ due_from now (suc k) ticks) (due_from now (suc k) ticks))) (is_due now tick)
    (λ _ _. inr (inl (sym same)))
    (λ _ not_due.
    let e = ap (λ i. get_or (tick ∷ ticks) i 0) {x = j - k} {y = 0} (omega (arith, same)) in
    let n = leb-false (tick + 4) now not_due in
    inl (now_first now tick (get_or (tick ∷ ticks) (j - k) 0) e n))
    refl)
    (λ other.
    let e = ap (λ i. get_or (tick ∷ ticks) i 0) {x = j - k} {y = suc (j - suc k)} (grind (arith, above, other)) in
    ⊎_elim
    (λ (recent : now ≤ get_or ticks (j - suc k) 0 + 3). inl (same_bound now (get_or (tick ∷ ticks) (j - k) 0) (get_or ticks (j - suc k) 0) e recent))
    (λ among. inr (by_test (λ b. IsOneOf j (cond b (k ∷ due_from now (suc k) ticks) (due_from now (suc k) ticks))) (is_due now tick) (λ _. inr among) (λ _. among)))
    (due_all now (suc k) ticks j (grind (arith, above, other)) (omega (arith, below))))
    (cases_eq j k)
  where
    now_first : (now tick x : ℕ) → x ≡ tick → now < tick + 4 → now ≤ x + 3
    now_first now tick x e n = omega (arith, e, n)

    same_bound : (now x y : ℕ) → x ≡ y → now ≤ y + 3 → now ≤ x + 3
    same_bound now x y e n = omega (arith, e, n)

-- bodies sent again one after the other
abbrev again_all : ℕ → List ℕ → Sending → Sending
again_all now [] t = t
again_all now (k ∷ ks) t = again_all now ks (send_again k now t)

again_fresh : (now : ℕ) (ks : List ℕ) (t : Sending) → AreOut ks t
    → ((j : ℕ) → t.acked < j → j ≤ highest t → (now ≤ last_sent t j + 3) ⊎ IsOneOf j ks) → IsFresh now (again_all now ks t)
again_fresh now [] t out known = λ j above below. ⊎_elim (λ recent. recent) (λ among. absurd among) (known j above below)
again_fresh now (k ∷ ks) t out known =
    again_fresh now ks (send_again k now t) (all_out_again now k ks t out.1) (λ j above below.
    let b : j ≤ highest t = omega (arith, below, l) in
    ⊎_elim
    (λ (same : j ≡ k). inl (stamped j same))
    (λ other. ⊎_elim (λ recent. inl (kept j above other recent)) (λ among. ⊎_elim (λ e. absurd (other (sym e))) (λ later. inr later) among) (known j above b))
    (cases_eq j k))
  where
    l : length (set t.sent (k - t.acked - 1) now) ≡ length t.sent
    l = length-set t.sent (k - t.acked - 1) now

    here : last_sent (send_again k now t) k ≡ now
    here = let a = out_above k t out.0 in let b = out_below k t out.0 in get_or-set_same t.sent (k - t.acked - 1) now 0 (omega (arith, a, b))

    stamped : (j : ℕ) → j ≡ k → now ≤ last_sent (send_again k now t) j + 3
    stamped j same = subst (λ i. now ≤ last_sent (send_again k now t) i + 3) (sym same) (let h = here in bound (last_sent (send_again k now t) k) h)
      where
        bound : (x : ℕ) → x ≡ now → now ≤ x + 3
        bound x e = omega (arith, e)

    kept : (j : ℕ) → t.acked < j → (j ≡ k → ⊥) → now ≤ last_sent t j + 3 → now ≤ last_sent (send_again k now t) j + 3
    kept j above other recent =
        let a = out_above k t out.0 in
        subst (λ x. now ≤ x + 3) (sym (get_or-set_other t.sent (k - t.acked - 1) (j - t.acked - 1) now 0 (λ e. other (omega (arith, e, a, above))))) recent

due_fresh : (now : ℕ) (t : Sending) → IsFresh now (again_all now (due now t) t)
due_fresh now t = again_fresh now (due now t) t (due_out now (suc t.acked) t.sent t (omega arith) (omega arith))
    (λ j above below.
    let e : j - suc t.acked ≡ j - t.acked - 1 = omega arith in
    subst (λ i. (now ≤ get_or t.sent i 0 + 3) ⊎ IsOneOf j (due now t)) e (due_all now (suc t.acked) t.sent j (omega (arith, above)) (omega (arith, below))))

-- in a switch
again_at : (l : PeerAt) (ks : List ℕ) (s : SwitchOf) → (all_again l ks s).switch.sendings l.port ≡ again_all s.tick ks (s.sendings l.port)
again_at l [] s = refl
again_at l (k ∷ ks) s =
    again_at l ks (sends_again l k s).switch ∙ ap (again_all s.tick ks) (at_the_port l.port (send_again k s.tick (s.sendings l.port)) s.sendings)

again_works : (p : ℕ) (l : PeerAt) (ks : List ℕ) (s : SwitchOf) → AreOut ks (s.sendings l.port) → Works 0 0 p s (all_again l ks s)
again_works p l [] s out = works_still 0 p s
again_works p l (k ∷ ks) s out =
    let t = s.sendings l.port in
    works_on 0 0 0 p s.tick (s.sendings p) (s.receivings p) (sends_again l k s) (all_again l ks (sends_again l k s).switch)
    (⊎_elim
    (λ (same : p ≡ l.port). subst (λ q. Works 0 0 q s (sends_again l k s)) (sym same)
    (sends_here 0 0 l.port l.peer t (send_again k s.tick t) t (Some k) s
    (λ f j is. let e = same_Some k j is in let a = out_above k t out.0 in let b = out_below k t out.0 in let w = f.within in (omega (arith, e, a), omega (arith, e, b, w)))
    (λ _. repeating k t (send_again k s.tick t) [] out.0 (resting (send_again k s.tick t)))
    (filled_again s.tick k 0 t)))
    (λ other. sends_elsewhere 0 p l.port l.peer (send_again k s.tick t) (put_out t (Some k)) s other)
    (cases_eq p l.port))
    (again_works p l ks (sends_again l k s).switch (subst (AreOut ks) (sym (at_the_port l.port (send_again k s.tick t) s.sendings)) (all_out_again s.tick k ks t out.1)))

resends_works : (p : ℕ) (l : PeerAt) (s : SwitchOf) → Works 0 0 p s (resends_on l s)
resends_works p l s = let t = s.sendings l.port in again_works p l (due s.tick t) s (due_out s.tick (suc t.acked) t.sent t (omega arith) (omega arith))

resends_fresh : (l : PeerAt) (s : SwitchOf) → IsFresh s.tick ((resends_on l s).switch.sendings l.port)
resends_fresh l s = let t = s.sendings l.port in subst (IsFresh s.tick) (sym (again_at l (due s.tick t) s)) (due_fresh s.tick t)

pub resent_works : (p : ℕ) (ls : List PeerAt) (s : SwitchOf) → Works 0 0 p s (all_resent ls s)
resent_works p [] s = works_still 0 p s
resent_works p (l ∷ ls) s = works_on 0 0 0 p s.tick (s.sendings p) (s.receivings p) (resends_on l s) (all_resent ls (resends_on l s).switch) (resends_works p l s) (resent_works p ls (resends_on l s).switch)

-- what is fresh stays so
fresh_sent : (now : ℕ) (ks : List ℕ) (t : Sending) → AreOut ks t → IsFresh now t → IsFresh now (again_all now ks t)
fresh_sent now ks t out fresh = again_fresh now ks t out (λ j above below. inl (fresh j above below))

again_elsewhere : (p : ℕ) (l : PeerAt) (ks : List ℕ) (s : SwitchOf) → p ≢ l.port → (all_again l ks s).switch.sendings p ≡ s.sendings p
again_elsewhere p l [] s other = refl
again_elsewhere p l (k ∷ ks) s other = again_elsewhere p l ks (sends_again l k s).switch other ∙ at_other_port l.port p (send_again k s.tick (s.sendings l.port)) s.sendings other

resends_stay : (p : ℕ) (l : PeerAt) (s : SwitchOf) → IsFresh s.tick (s.sendings p) → IsFresh s.tick ((resends_on l s).switch.sendings p)
resends_stay p l s fresh =
    ⊎_elim
    (λ (same : p ≡ l.port). subst (λ q. IsFresh s.tick ((resends_on l s).switch.sendings q)) (sym same) (resends_fresh l s))
    (λ other. subst (IsFresh s.tick) (sym (again_elsewhere p l (due s.tick (s.sendings l.port)) s other)) fresh)
    (cases_eq p l.port)

resent_stay : (p : ℕ) (ls : List PeerAt) (s : SwitchOf) → IsFresh s.tick (s.sendings p) → IsFresh s.tick ((all_resent ls s).switch.sendings p)
resent_stay p [] s fresh = fresh
resent_stay p (l ∷ ls) s fresh =
    let e = (resends_works p l s).tick in
    subst (λ now. IsFresh now ((all_resent ls (resends_on l s).switch).switch.sendings p)) e
    (resent_stay p ls (resends_on l s).switch (subst (λ now. IsFresh now ((resends_on l s).switch.sendings p)) (sym e) (resends_stay p l s fresh)))

-- and what is sent on a link is fresh after what was due went out again
pub resent_fresh : (p : ℕ) (ls : List PeerAt) (s : SwitchOf) (peer : EndId) → peer_among ls p ≡ Some peer → IsFresh s.tick ((all_resent ls s).switch.sendings p)
resent_fresh p [] s peer linked = absurd (none-some peer linked)
resent_fresh p (l ∷ ls) s peer linked =
    let e = (resends_works p l s).tick in
    let next = (resends_on l s).switch in
    by_test (λ b. l.port == p ≡ b → cond b (Some l.peer) (peer_among ls p) ≡ Some peer → IsFresh s.tick ((all_resent (l ∷ ls) s).switch.sendings p)) (l.port == p)
    (λ _ same _.
    let f = subst (λ q. IsFresh s.tick (next.sendings q)) (eqb-true l.port p same) (resends_fresh l s) in
    subst (λ now. IsFresh now ((all_resent ls next).switch.sendings p)) e (resent_stay p ls next (subst (λ now. IsFresh now (next.sendings p)) (sym e) f)))
    (λ _ _ later. subst (λ now. IsFresh now ((all_resent ls next).switch.sendings p)) e (resent_fresh p ls next peer later))
    refl linked
