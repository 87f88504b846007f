use Rattle.std.specs.Prelude.{nat_lt, nat_le}
use Rattle.std.proofs.Common.{◌≡◌, ◌∙◌, ◌⊎◌, inl, inr, ⊎_elim, ap, refl, ℕ, suc, ◌+◌, ◌-◌, ◌≤◌, ◌<◌, arith, [], ◌∷◌, ◌++◌, length, get_or, set, Option, Some, None, true, false, cond, length-append}
use Rattle.std.proofs.lemmas.Bool.{leb-true, ltb-true, ltb-false, leb-false, and_parts, and_cases, cases_eq}
use Rattle.std.proofs.lemmas.List.{get_or_push, get_or_append_left, get_or-drop, get_or-set_same, get_or-set_other, length-set, length-drop}
use Rattle.an_base.specs.declared.body.Body.{Body}
use Rattle.common_values.proofs.TestLemmas.{by_test}
use Rattle.ordered_link.specs.Sending.{Sending, highest, is_outstanding, is_waiting, may_send, next_to_send, send_next, with_pushed, push, sent_by_push, forget, send_again}
use Rattle.link_settling.specs.Directions.{last_sent}

-- body k goes out in this tick
pub record SendsOne (now k : ℕ) (s t : Sending) : Type 0 where
  pub acked : t.acked ≡ s.acked
  pub sent : (highest t ≡ highest s) ⊎ ((highest t ≡ suc (highest s)) × (k ≡ suc (highest s)))
  pub outstanding : s.acked < k
  pub most : k ≤ highest t
  pub window : highest t ≤ s.acked + 8
  pub stamp : last_sent t k ≡ now
  pub stamps : (j : ℕ) → s.acked < j → j ≤ highest s → (last_sent t j ≡ last_sent s j) ⊎ (j ≡ k)

-- a body goes out, or none does
pub record SendsNone (s t : Sending) : Type 0 where
  pub acked : t.acked ≡ s.acked
  pub sent : t.sent ≡ s.sent

abbrev pub SendsBy : ℕ → Option ℕ → Sending → Sending → Type 0
SendsBy now out s t = ((out ≡ None) × SendsNone s t) ⊎ ((k : ℕ) × (out ≡ Some k) × SendsOne now k s t)

one_more : (now : ℕ) (s : Sending) → may_send s ≡ true → SendsOne now (highest s + 1) s (record s { sent = s.sent ++ now ∷ [] })
one_more now s may = record {
  acked = refl;
  sent = inr (omega (arith, l), omega arith);
  outstanding = omega arith;
  most = omega (arith, l);
  window = let few = ltb-true (length s.sent) 8 (and_parts (nat_lt (length s.sent) 8) (is_waiting s) may).0 in omega (arith, l, few);
  stamp = get_or_push s.sent now 0 (highest s + 1 - s.acked - 1) (omega arith);
  stamps = λ j a b. inl (get_or_append_left s.sent (now ∷ []) 0 (j - s.acked - 1) (omega (arith, a, b)));
}
  where
    l : length (s.sent ++ now ∷ []) ≡ length s.sent + 1
    l = length-append s.sent (now ∷ [])

pub next_is : (now : ℕ) (s : Sending) → SendsBy now (next_to_send s) s (send_next now s)
next_is now s =
    by_test (λ b. may_send s ≡ b → SendsBy now (cond b (Some (highest s + 1)) None) s (cond b (record s { sent = s.sent ++ now ∷ [] }) s)) (may_send s)
    (λ _ may. inr (highest s + 1, refl, one_more now s may))
    (λ _ _. inl (refl, record { acked = refl; sent = refl }))
    refl

-- what was pushed does not count
pushed_by : (now : ℕ) (out : Option ℕ) (body : Body) (s t : Sending) → SendsBy now out (with_pushed body s) t → SendsBy now out s t
pushed_by now out body s t sends = elim sends [
  | inl none ↦ inl (none.0, record { acked = none.1.acked; sent = none.1.sent })
  | inr some ↦ let one = some.2 in inr (some.0, some.1, record { acked = one.acked; sent = one.sent; outstanding = one.outstanding; most = one.most; window = one.window; stamp = one.stamp; stamps = one.stamps })
]

pub push_is : (now : ℕ) (body : Body) (s : Sending) → SendsBy now (sent_by_push body s) s (push body now s)
push_is now body s =
    by_test (λ b. SendsBy now (cond b None (next_to_send (with_pushed body s))) s (cond b (with_pushed body s) (send_next now (with_pushed body s)))) (is_waiting s)
    (λ _. inl (refl, record { acked = refl; sent = refl }))
    (λ _. pushed_by now (next_to_send (with_pushed body s)) body s (send_next now (with_pushed body s)) (next_is now (with_pushed body s)))

-- an outstanding body goes out again
pub again_is : (now k : ℕ) (s : Sending) → is_outstanding k s ≡ true → highest s ≤ s.acked + 8 → SendsOne now k s (send_again k now s)
again_is now k s out window = record {
  acked = refl;
  sent = inl (ap (λ n. s.acked + n) l);
  outstanding = above;
  most = omega (arith, below, l);
  window = omega (arith, l, window);
  stamp = get_or-set_same s.sent (k - s.acked - 1) now 0 (omega (arith, above, below));
  stamps = λ j a b. ⊎_elim (λ same. inr same) (λ other. inl (get_or-set_other s.sent (k - s.acked - 1) (j - s.acked - 1) now 0 (λ e. other (omega (arith, e, a, above))))) (cases_eq j k);
}
  where
    l : length (set s.sent (k - s.acked - 1) now) ≡ length s.sent
    l = length-set s.sent (k - s.acked - 1) now

    above : s.acked < k
    above = ltb-true s.acked k (and_parts (nat_lt s.acked k) (nat_le k (highest s)) out).0

    below : k ≤ highest s
    below = leb-true k (highest s) (and_parts (nat_lt s.acked k) (nat_le k (highest s)) out).1

-- an acknowledgement that counts
pub record Forgets (n : ℕ) (s t : Sending) : Type 0 where
  pub above : s.acked < n
  pub below : n ≤ highest s
  pub acked : t.acked ≡ n
  pub sent : highest t ≡ highest s
  pub stamps : (j : ℕ) → t.acked < j → last_sent t j ≡ last_sent s j

pub forget_is : (n : ℕ) (s : Sending) → is_outstanding n s ≡ true → Forgets n s (forget n s)
forget_is n s out = record {
  above = above;
  below = below;
  acked = refl;
  sent = let l = length-drop (n - s.acked) s.sent in omega (arith, l, above, below);
  stamps = λ j a. get_or-drop (n - s.acked) s.sent (j - n - 1) 0 ∙ ap (λ i. get_or s.sent i 0) {x = n - s.acked + (j - n - 1)} {y = j - s.acked - 1} (omega (arith, a, above));
}
  where
    above : s.acked < n
    above = ltb-true s.acked n (and_parts (nat_lt s.acked n) (nat_le n (highest s)) out).0

    below : n ≤ highest s
    below = leb-true n (highest s) (and_parts (nat_lt s.acked n) (nat_le n (highest s)) out).1

-- and one that does not
pub not_outstanding : (n : ℕ) (s : Sending) → is_outstanding n s ≡ false → (n ≤ s.acked) ⊎ (highest s < n)
not_outstanding n s out = ⊎_elim (λ a. inl (ltb-false s.acked n a)) (λ b. inr (leb-false n (highest s) b)) (and_cases (nat_lt s.acked n) (nat_le n (highest s)) out)
