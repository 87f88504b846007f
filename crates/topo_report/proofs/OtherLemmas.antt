-- The entries that are not those of the life itself, and how many of them are kept.
use Rattle.std.proofs.Common.{◌≡◌, ◌∙◌, sym, ap, refl, subst, ℕ, zero, suc, ◌≤◌, Bool, true, false, cond, not, List, [], ◌∷◌, length, ◌⊎◌, inl, inr, arith}
use Rattle.an_base.specs.Values.{LifeId, EntryOf}
use Rattle.an_base.specs.Order.{IsBelow}
use Rattle.topo_report.specs.Report.{is_of, kept, others}
use Rattle.topo_report.proofs.LifeLaws.{is_of-me}
use Rattle.topo_report.proofs.Members.{In, Rises}
use Rattle.topo_report.proofs.KeptLemmas.{kept-me, kept-other, kept-none}

pub others-me : (me : LifeId) (e : EntryOf) (es : List EntryOf) → is_of me e ≡ true → others me (e ∷ es) ≡ others me es
others-me me e es is = ap (λ (b : Bool). cond (not b) (e ∷ others me es) (others me es)) is

pub others-other : (me : LifeId) (e : EntryOf) (es : List EntryOf) → is_of me e ≡ false → others me (e ∷ es) ≡ e ∷ others me es
others-other me e es is = ap (λ (b : Bool). cond (not b) (e ∷ others me es) (others me es)) is

-- the others are among all
pub others_in : (x : EntryOf) (me : LifeId) (es : List EntryOf) → In x (others me es) → In x es
others_in x me [] i = i
others_in x me (e ∷ es) i = by (is_of me e) refl (λ j. others_in x me es j)
  where
    by : (b : Bool) → is_of me e ≡ b → (In x (others me es) → In x es) → In x (e ∷ es)
    by true is more = inr (more (subst (In x) (others-me me e es is) i))
    by false is more = elim (subst (In x) (others-other me e es is) i) [ inl same ↦ inl same | inr j ↦ inr (more j) ]

-- and all that are not of the life itself
pub others_have : (x : EntryOf) (me : LifeId) (es : List EntryOf) → In x es → is_of me x ≡ false → In x (others me es)
others_have x me [] i other = absurd i
others_have x me (e ∷ es) (inl same) other = subst (In x) (sym (others-other me e es (ap (is_of me) (sym same) ∙ other))) (inl same)
others_have x me (e ∷ es) (inr i) other = by (is_of me e) refl (others_have x me es i other)
  where
    by : (b : Bool) → is_of me e ≡ b → In x (others me es) → In x (others me (e ∷ es))
    by true is more = subst (In x) (sym (others-me me e es is)) more
    by false is more = subst (In x) (sym (others-other me e es is)) (inr more)

not_me : (me : LifeId) (e : EntryOf) → is_of me e ≡ false → e.life ≡ me → ⊥
not_me me e other same = let own = is_of-me me e same in cc

pub others_differ : (x : EntryOf) (me : LifeId) (es : List EntryOf) → In x (others me es) → x.life ≡ me → ⊥
others_differ x me [] i same = absurd i
others_differ x me (e ∷ es) i same = by (is_of me e) refl (λ j. others_differ x me es j same)
  where
    by : (b : Bool) → is_of me e ≡ b → (In x (others me es) → ⊥) → ⊥
    by true is more = more (subst (In x) (others-me me e es is) i)
    by false is more = elim (subst (In x) (others-other me e es is) i) [ inl one ↦ not_me me e is (ap (λ (y : EntryOf). y.life) (sym one) ∙ same) | inr j ↦ more j ]

pub others_rise : (me : LifeId) (es : List EntryOf) → Rises es → Rises (others me es)
others_rise me [] rise = rise
others_rise me (e ∷ es) rise = by (is_of me e) refl (others_rise me es rise.1)
  where
    by : (b : Bool) → is_of me e ≡ b → Rises (others me es) → Rises (others me (e ∷ es))
    by true is more = subst Rises (sym (others-me me e es is)) more
    by false is more = subst Rises (sym (others-other me e es is)) ((λ y i. rise.0 y (others_in y me es i)), more)

-- n others are kept at most
pub others_most : (me : LifeId) (es : List EntryOf) (n : ℕ) → length (others me (kept me n es)) ≤ n
others_most me [] n = omega arith
others_most me (e ∷ es) n = by n (is_of me e) refl (λ m. others_most me es m)
  where
    by : (m : ℕ) (b : Bool) → is_of me e ≡ b → ((k : ℕ) → length (others me (kept me k es)) ≤ k) → length (others me (kept me m (e ∷ es))) ≤ m
    by m true is more = rw (ap (others me) (kept-me me m e es is) ∙ others-me me e (kept me m es) is) (more m)
    by zero false is more = rw (ap (others me) (kept-none me e es is)) (more zero)
    by (suc m) false is more = rw (ap (others me) (kept-other me m e es is) ∙ others-other me e (kept me m es) is) (let le = more m in omega arith)

-- a life has no place among n others
pub record CutAt (me : LifeId) (n : ℕ) (es : List EntryOf) (life : LifeId) : Type 0 where
  pub other : life ≡ me → ⊥
  pub full : length (others me es) ≡ n
  pub above : (e : EntryOf) → In e (others me es) → IsBelow e.life life

-- one more that is not counted
cut_own : (me life : LifeId) (n : ℕ) (e : EntryOf) (es : List EntryOf) → is_of me e ≡ true → CutAt me n es life → CutAt me n (e ∷ es) life
cut_own me life n e es is c = record { other = c.other; full = ap length (others-me me e es is) ∙ c.full; above = λ x i. c.above x (subst (In x) (others-me me e es is) i) }

pub own_cut : (me life : LifeId) (n : ℕ) (e : EntryOf) (es : List EntryOf) → is_of me e ≡ true → CutAt me n (e ∷ es) life → CutAt me n es life
own_cut me life n e es is c = record { other = c.other; full = sym (ap length (others-me me e es is)) ∙ c.full; above = λ x i. c.above x (subst (In x) (sym (others-me me e es is)) i) }

-- and one that is
cut_other : (me life : LifeId) (n : ℕ) (e : EntryOf) (es : List EntryOf) → is_of me e ≡ false → IsBelow e.life life → CutAt me n es life → CutAt me (suc n) (e ∷ es) life
cut_other me life n e es is low c = record {
  other = c.other;
  full = ap length (others-other me e es is) ∙ ap suc c.full;
  above = λ x i. elim (subst (In x) (others-other me e es is) i) [ inl same ↦ rw same low | inr j ↦ c.above x j ];
}

suc_same : (m n : ℕ) → suc m ≡ suc n → m ≡ n
suc_same m n is = omega arith

pub other_cut : (me life : LifeId) (n : ℕ) (e : EntryOf) (es : List EntryOf) → is_of me e ≡ false → CutAt me (suc n) (e ∷ es) life → CutAt me n es life
other_cut me life n e es is c = record {
  other = c.other;
  full = suc_same (length (others me es)) n (sym (ap length (others-other me e es is)) ∙ c.full);
  above = λ x i. c.above x (subst (In x) (sym (others-other me e es is)) (inr i));
}

pub none_in : {A : Type 0} (x : A) (xs : List A) → length xs ≤ 0 → In x xs → ⊥
none_in x [] none i = i
none_in x (y ∷ xs) none i = absurd (omega arith)

-- a life that is not kept has no place
pub kept_whole : (me : LifeId) (f : EntryOf) (es : List EntryOf) → Rises es → (n : ℕ) → In f es → In f (kept me n es) ⊎ CutAt me n (kept me n es) f.life
kept_whole me f [] rise n i = absurd i
kept_whole me f (e ∷ es) rise n i = by n (is_of me e) refl (λ m j. kept_whole me f es rise.1 m j) i
  where
    by : (m : ℕ) (b : Bool) → is_of me e ≡ b → ((k : ℕ) → In f es → In f (kept me k es) ⊎ CutAt me k (kept me k es) f.life) → In f (e ∷ es) → In f (kept me m (e ∷ es)) ⊎ CutAt me m (kept me m (e ∷ es)) f.life
    by m true is more (inl same) = inl (subst (In f) (sym (kept-me me m e es is)) (inl same))
    by m true is more (inr j) = elim (more m j) [
      | inl k ↦ inl (subst (In f) (sym (kept-me me m e es is)) (inr k))
      | inr c ↦ inr (subst (λ (r : List EntryOf). CutAt me m r f.life) (sym (kept-me me m e es is)) (cut_own me f.life m e (kept me m es) is c))
    ]
    by zero false is more (inl same) =
        inr (subst (λ (r : List EntryOf). CutAt me zero r f.life) (sym (kept-none me e es is)) (record {
          other = λ own. not_me me e is (ap (λ (y : EntryOf). y.life) (sym same) ∙ own);
          full = let le = others_most me es zero in omega arith;
          above = λ x j. absurd (none_in x (others me (kept me zero es)) (others_most me es zero) j);
        }))
    by zero false is more (inr j) = subst (λ (r : List EntryOf). In f r ⊎ CutAt me zero r f.life) (sym (kept-none me e es is)) (more zero j)
    by (suc m) false is more (inl same) = inl (subst (In f) (sym (kept-other me m e es is)) (inl same))
    by (suc m) false is more (inr j) = elim (more m j) [
      | inl k ↦ inl (subst (In f) (sym (kept-other me m e es is)) (inr k))
      | inr c ↦ inr (subst (λ (r : List EntryOf). CutAt me (suc m) r f.life) (sym (kept-other me m e es is)) (cut_other me f.life m e (kept me m es) is (rise.0 f j) c))
    ]

-- a list with a member is not empty
pub some_in : {A : Type 0} (x : A) (xs : List A) → In x xs → 1 ≤ length xs
some_in x [] i = absurd i
some_in x (y ∷ ys) i = omega arith

-- where there is room, something is kept
pub kept_some : (me : LifeId) (n : ℕ) (es : List EntryOf) → 1 ≤ length es → 1 ≤ length (kept me (suc n) es)
kept_some me n [] some = some
kept_some me n (e ∷ es) some = by (is_of me e) refl
  where
    by : (b : Bool) → is_of me e ≡ b → 1 ≤ length (kept me (suc n) (e ∷ es))
    by true is = rw (kept-me me (suc n) e es is) (omega arith)
    by false is = rw (kept-other me n e es is) (omega arith)
