use Rattle.std.proofs.Common.{◌≡◌, ◌∙◌, sym, ap, refl, subst, ℕ, zero, suc, ◌≤◌, Bool, true, false, List, [], ◌∷◌, length, ◌⊎◌, inl, inr, arith}
use Rattle.an_base.specs.Values.{LifeId, EntryOf}
use Rattle.topo_report.specs.Report.{is_of, kept, others}
use Rattle.an_base.proofs.LifeLemmas.{below_same, below_both}
use Rattle.topo_report.proofs.LifeLaws.{is_of-life}
use Rattle.topo_report.proofs.Members.{In, Under, Rises}
use Rattle.topo_report.proofs.KeptLemmas.{kept-me, kept-other, kept-none}
use Rattle.topo_report.proofs.OtherLemmas.{others-me, others-other, others_in, others_have, CutAt, own_cut, other_cut, none_in}

-- r keeps n others of es and leaves out only what has no place
pub record IsCutOf (me : LifeId) (n : ℕ) (es r : List EntryOf) : Type 0 where
  pub rising : Rises r
  pub taken : (x : EntryOf) → In x r → In x es
  pub most : length (others me r) ≤ n
  pub whole : (f : EntryOf) → In f es → In f r ⊎ CutAt me n r f.life

-- where the first of es is kept, it is the first of r
first_is : (e y : EntryOf) (es r : List EntryOf) → Under e es → Under y r → In y (e ∷ es) → In e (y ∷ r) → y ≡ e
first_is e y es r low high (inl is) j = is
first_is e y es r low high (inr i) (inl is) = sym is
first_is e y es r low high (inr i) (inr j) = absurd (below_both e.life y.life (low y i) (high e j))

-- what follows it is among what follows it
follows : (e x : EntryOf) (es r : List EntryOf) → Under e r → In x r → In x (e ∷ es) → In x es
follows e x es r high i (inl is) = absurd (below_same e.life x.life (ap (λ (y : EntryOf). y.life) (sym is)) (high x i))
follows e x es r high i (inr j) = j

own_rest : (me : LifeId) (n : ℕ) (e : EntryOf) (es r : List EntryOf) → is_of me e ≡ true → Under e es → IsCutOf me n (e ∷ es) (e ∷ r) → IsCutOf me n es r
own_rest me n e es r own low c = record {
  rising = c.rising.1;
  taken = λ x i. follows e x es r c.rising.0 i (c.taken x (inr i));
  most = subst (λ (xs : List EntryOf). length xs ≤ n) (others-me me e r own) c.most;
  whole = λ f i. elim (c.whole f (inr i)) [
    | inl j ↦ inl (follows e f r es low i j)
    | inr k ↦ inr (own_cut me f.life n e r own k)
  ];
}

other_rest : (me : LifeId) (n : ℕ) (e : EntryOf) (es r : List EntryOf) → is_of me e ≡ false → Under e es → IsCutOf me (suc n) (e ∷ es) (e ∷ r) → IsCutOf me n es r
other_rest me n e es r other low c = record {
  rising = c.rising.1;
  taken = λ x i. follows e x es r c.rising.0 i (c.taken x (inr i));
  most = let le = subst (λ (xs : List EntryOf). length xs ≤ suc n) (others-other me e r other) c.most in omega arith;
  whole = λ f i. elim (c.whole f (inr i)) [
    | inl j ↦ inl (follows e f r es low i j)
    | inr k ↦ inr (other_cut me f.life n e r other k)
  ];
}

no_room : (me : LifeId) (e : EntryOf) (r : List EntryOf) → is_of me e ≡ false → In e r → length (others me r) ≤ 0 → ⊥
no_room me e r other i none = none_in e (others me r) none (others_have e me r i other)

-- the first has no place, so there is room for none
left_rest : (me : LifeId) (e : EntryOf) (es r : List EntryOf) → is_of me e ≡ false → IsCutOf me zero (e ∷ es) r → IsCutOf me zero es r
left_rest me e es r other c = record {
  rising = c.rising;
  taken = λ x i. elim (c.taken x i) [
    | inl is ↦ absurd (no_room me x r (ap (is_of me) is ∙ other) i c.most)
    | inr j ↦ j
  ];
  most = c.most;
  whole = λ f i. c.whole f (inr i);
}

-- an other that is kept is not below the first
no_cut : (me : LifeId) (n : ℕ) (e : EntryOf) (es r : List EntryOf) → Under e es → IsCutOf me (suc n) (e ∷ es) r → CutAt me (suc n) r e.life → ⊥
no_cut me n e es r low c k = first (others me r) refl
  where
    first : (xs : List EntryOf) → others me r ≡ xs → ⊥
    first [] is = absurd (let full = k.full in let none = ap length is in omega arith)
    first (x ∷ xs) is =
        let i : In x (others me r) = subst (In x) (sym is) (inl refl) in
        elim (c.taken x (others_in x me r i)) [
          | inl same ↦ below_same x.life e.life (ap (λ (y : EntryOf). y.life) same) (k.above x i)
          | inr j ↦ below_both e.life x.life (low x j) (k.above x i)
        ]

-- there is only one such list
pub kept_only : (me : LifeId) (es r : List EntryOf) (n : ℕ) → Rises es → IsCutOf me n es r → r ≡ kept me n es
kept_only me [] [] n rise c = refl
kept_only me [] (y ∷ r) n rise c = absurd (c.taken y (inl refl))
kept_only me (e ∷ es) r n rise c = by n r (is_of me e) refl (c.whole e (inl refl)) c (λ m q d. kept_only me es q m rise.1 d)
  where
    kept_by : (m : ℕ) (y : EntryOf) (q : List EntryOf) (b : Bool) → is_of me e ≡ b → y ≡ e → IsCutOf me m (e ∷ es) (e ∷ q) → ((k : ℕ) (p : List EntryOf) → IsCutOf me k es p → p ≡ kept me k es) → y ∷ q ≡ kept me m (e ∷ es)
    kept_by m y q true is same d rest =
        ap (λ (x : EntryOf). x ∷ q) same ∙ ap (λ (p : List EntryOf). e ∷ p) (rest m q (own_rest me m e es q is rise.0 d)) ∙ sym (kept-me me m e es is)
    kept_by zero y q false is same d rest = absurd (no_room me e (e ∷ q) is (inl refl) d.most)
    kept_by (suc m) y q false is same d rest =
        ap (λ (x : EntryOf). x ∷ q) same ∙ ap (λ (p : List EntryOf). e ∷ p) (rest m q (other_rest me m e es q is rise.0 d)) ∙ sym (kept-other me m e es is)

    by : (m : ℕ) (q : List EntryOf) (b : Bool) → is_of me e ≡ b → In e q ⊎ CutAt me m q e.life → IsCutOf me m (e ∷ es) q → ((k : ℕ) (p : List EntryOf) → IsCutOf me k es p → p ≡ kept me k es) → q ≡ kept me m (e ∷ es)
    by m [] b is (inl i) d rest = absurd i
    by m (y ∷ q) b is (inl i) d rest =
        let same = first_is e y es q rise.0 d.rising.0 (d.taken y (inl refl)) i in
        kept_by m y q b is same (subst (λ (x : EntryOf). IsCutOf me m (e ∷ es) (x ∷ q)) same d) rest
    by m q true is (inr k) d rest = absurd (k.other (is_of-life me e is))
    by zero q false is (inr k) d rest = rest zero q (left_rest me e es q is d) ∙ sym (kept-none me e es is)
    by (suc m) q false is (inr k) d rest = absurd (no_cut me m e es q rise.0 d k)
