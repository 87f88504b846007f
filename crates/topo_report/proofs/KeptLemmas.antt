use Rattle.std.proofs.Common.{◌≡◌, ◌∙◌, sym, ap, refl, subst, ℕ, zero, suc, ◌≤◌, Bool, true, false, cond, List, [], ◌∷◌, ◌++◌, ◌⊎◌, inl, inr, Less, Equal, Greater, arith}
use Rattle.std.specs.declared.cmp.Ordering.{Ordering}
use Rattle.std.specs.Ordering.{is_eq, is_lt}
use Rattle.an_base.specs.Values.{LifeId, EntryOf}
use Rattle.an_base.specs.Order.{life_cmp}
use Rattle.an_base.proofs.OrderLaws.{life_apart}
use Rattle.topo_report.specs.Report.{lesser_entry, put_by, put, least_entries, is_of, kept}
use Rattle.topo_report.proofs.LifeLaws.{lesser_entry-life}
use Rattle.topo_report.proofs.Members.{In, Under, Rises}
use Rattle.topo_report.proofs.PutLemmas.{put_first}
use Rattle.topo_report.proofs.LeastLemmas.{least_entries_rise, least_entries_rising, under_more}

-- an entry of the life itself is kept
pub kept-me : (me : LifeId) (n : ℕ) (e : EntryOf) (es : List EntryOf) → is_of me e ≡ true → kept me n (e ∷ es) ≡ e ∷ kept me n es
kept-me me zero e es is = ap (λ (b : Bool). cond b (e ∷ kept me zero es) (kept me zero es)) is
kept-me me (suc n) e es is = ap (λ (b : Bool). cond b (e ∷ kept me (suc n) es) (e ∷ kept me n es)) is

-- another where there is room
pub kept-other : (me : LifeId) (n : ℕ) (e : EntryOf) (es : List EntryOf) → is_of me e ≡ false → kept me (suc n) (e ∷ es) ≡ e ∷ kept me n es
kept-other me n e es is = ap (λ (b : Bool). cond b (e ∷ kept me (suc n) es) (e ∷ kept me n es)) is

pub kept-none : (me : LifeId) (e : EntryOf) (es : List EntryOf) → is_of me e ≡ false → kept me zero (e ∷ es) ≡ kept me zero es
kept-none me e es is = ap (λ (b : Bool). cond b (e ∷ kept me zero es) (kept me zero es)) is

is_of-same : (me : LifeId) (e f : EntryOf) → e.life ≡ f.life → is_of me e ≡ is_of me f
is_of-same me e f life = ap (λ (l : LifeId). is_eq (life_cmp l me)) life

-- entries of f's life are kept, and leave so much room
record Keeps (me : LifeId) (n : ℕ) (f : EntryOf) : Type 0 where
  room : ℕ
  most : room ≤ n
  is : (g : EntryOf) (es : List EntryOf) → g.life ≡ f.life → kept me n (g ∷ es) ≡ g ∷ kept me room es

-- or left out
abbrev Leaves : LifeId → ℕ → EntryOf → Type 0
Leaves me n f = (g : EntryOf) (es : List EntryOf) → g.life ≡ f.life → kept me n (g ∷ es) ≡ kept me n es

keeps_or_leaves : (me : LifeId) (n : ℕ) (f : EntryOf) → Keeps me n f ⊎ Leaves me n f
keeps_or_leaves me n f = by n (is_of me f) refl
  where
    by : (n : ℕ) (b : Bool) → is_of me f ≡ b → Keeps me n f ⊎ Leaves me n f
    by n true is = inl (record { room = n; most = omega arith; is = λ g es life. kept-me me n g es (is_of-same me g f life ∙ is) })
    by zero false is = inr (λ g es life. kept-none me g es (is_of-same me g f life ∙ is))
    by (suc n) false is = inl (record { room = n; most = omega arith; is = λ g es life. kept-other me n g es (is_of-same me g f life ∙ is) })

in_behind : (x f : EntryOf) (es fs : List EntryOf) → (In x es → In x fs) → In x (f ∷ es) → In x (f ∷ fs)
in_behind x f es fs rest (inl is) = inl is
in_behind x f es fs rest (inr i) = inr (rest i)

-- what is kept was there
pub kept_in : (x : EntryOf) (me : LifeId) (n : ℕ) (es : List EntryOf) → In x (kept me n es) → In x es
kept_in x me n [] i = i
kept_in x me n (f ∷ fs) i = elim (keeps_or_leaves me n f) [
  | inl k ↦ in_behind x f (kept me k.room fs) fs (λ j. kept_in x me k.room fs j) (subst (In x) (k.is f fs refl) i)
  | inr l ↦ inr (kept_in x me n fs (subst (In x) (l f fs refl) i))
]

-- and rises
pub kept_rises : (me : LifeId) (n : ℕ) (es : List EntryOf) → Rises es → Rises (kept me n es)
kept_rises me n [] rise = rise
kept_rises me n (f ∷ fs) rise = elim (keeps_or_leaves me n f) [
  | inl k ↦ subst Rises (sym (k.is f fs refl)) ((λ y i. rise.0 y (kept_in y me k.room fs i)), kept_rises me k.room fs rise.1)
  | inr l ↦ subst Rises (sym (l f fs refl)) (kept_rises me n fs rise.1)
]

kept_again_by : (me : LifeId) (f : EntryOf) (fs : List EntryOf) → ((m n : ℕ) → m ≤ n → kept me m (kept me n fs) ≡ kept me m fs) → (m n : ℕ) (b : Bool) → is_of me f ≡ b → m ≤ n → kept me m (kept me n (f ∷ fs)) ≡ kept me m (f ∷ fs)
kept_again_by me f fs rest m n true is le =
    ap (kept me m) (kept-me me n f fs is) ∙ kept-me me m f (kept me n fs) is ∙ ap (λ (es : List EntryOf). f ∷ es) (rest m n le) ∙ sym (kept-me me m f fs is)
kept_again_by me f fs rest zero zero false is le = ap (kept me zero) (kept-none me f fs is) ∙ rest zero zero le ∙ sym (kept-none me f fs is)
kept_again_by me f fs rest (suc m) zero false is le = absurd (omega arith)
kept_again_by me f fs rest zero (suc n) false is le =
    ap (kept me zero) (kept-other me n f fs is) ∙ kept-none me f (kept me n fs) is ∙ rest zero n (omega arith) ∙ sym (kept-none me f fs is)
kept_again_by me f fs rest (suc m) (suc n) false is le =
    ap (kept me (suc m)) (kept-other me n f fs is) ∙ kept-other me m f (kept me n fs) is ∙ ap (λ (es : List EntryOf). f ∷ es) (rest m n (omega arith)) ∙ sym (kept-other me m f fs is)

-- keeping more before changes nothing
pub kept_again : (me : LifeId) (es : List EntryOf) (m n : ℕ) → m ≤ n → kept me m (kept me n es) ≡ kept me m es
kept_again me [] m n le = refl
kept_again me (f ∷ fs) m n le = kept_again_by me f fs (λ i j h. kept_again me fs i j h) m n (is_of me f) refl le

kept_first : (me : LifeId) (n : ℕ) (e : EntryOf) (es : List EntryOf) → kept me n (e ∷ kept me n es) ≡ kept me n (e ∷ es)
kept_first me n e es = elim (keeps_or_leaves me n e) [
  | inl k ↦ k.is e (kept me n es) refl ∙ ap (λ (xs : List EntryOf). e ∷ xs) (kept_again me es k.room n k.most) ∙ sym (k.is e es refl)
  | inr l ↦ l e (kept me n es) refl ∙ kept_again me es n n (omega arith) ∙ sym (l e es refl)
]

-- where one more entry goes, by how its life compares with the first
put-equal : (e f : EntryOf) (fs : List EntryOf) → life_cmp e.life f.life ≡ Equal → put e (f ∷ fs) ≡ lesser_entry e f ∷ fs
put-equal e f fs is = ap (λ (o : Ordering). put_by o e f fs (put e fs)) is

put-greater : (e f : EntryOf) (fs : List EntryOf) → life_cmp e.life f.life ≡ Greater → put e (f ∷ fs) ≡ f ∷ put e fs
put-greater e f fs is = ap (λ (o : Ordering). put_by o e f fs (put e fs)) is

kept_put_equal : (me : LifeId) (n : ℕ) (e f : EntryOf) (fs : List EntryOf) → life_cmp e.life f.life ≡ Equal → Under f fs → Keeps me n f ⊎ Leaves me n f → kept me n (put e (kept me n (f ∷ fs))) ≡ kept me n (lesser_entry e f ∷ fs)
kept_put_equal me n e f fs is low (inl k) =
    let life = lesser_entry-life e f (life_apart e.life f.life is) in
    ap (λ (es : List EntryOf). kept me n (put e es)) (k.is f fs refl) ∙ ap (kept me n) (put-equal e f (kept me k.room fs) is)
    ∙ k.is (lesser_entry e f) (kept me k.room fs) life ∙ ap (λ (es : List EntryOf). lesser_entry e f ∷ es) (kept_again me fs k.room k.room (omega arith))
    ∙ sym (k.is (lesser_entry e f) fs life)
kept_put_equal me n e f fs is low (inr l) =
    let same = life_apart e.life f.life is in
    let life = lesser_entry-life e f same in
    ap (λ (es : List EntryOf). kept me n (put e es)) (l f fs refl)
    ∙ ap (kept me n) (put_first e (kept me n fs) (λ y i. rw same (low y (kept_in y me n fs i))))
    ∙ l e (kept me n fs) same ∙ kept_again me fs n n (omega arith) ∙ sym (l (lesser_entry e f) fs life)

kept_put_greater : (me : LifeId) (n : ℕ) (e f : EntryOf) (fs : List EntryOf) → life_cmp e.life f.life ≡ Greater → ((m : ℕ) → kept me m (put e (kept me m fs)) ≡ kept me m (put e fs)) → Keeps me n f ⊎ Leaves me n f → kept me n (put e (kept me n (f ∷ fs))) ≡ kept me n (f ∷ put e fs)
kept_put_greater me n e f fs is rest (inl k) =
    ap (λ (es : List EntryOf). kept me n (put e es)) (k.is f fs refl) ∙ ap (kept me n) (put-greater e f (kept me k.room fs) is)
    ∙ k.is f (put e (kept me k.room fs)) refl ∙ ap (λ (es : List EntryOf). f ∷ es) (rest k.room) ∙ sym (k.is f (put e fs) refl)
kept_put_greater me n e f fs is rest (inr l) = ap (λ (es : List EntryOf). kept me n (put e es)) (l f fs refl) ∙ rest n ∙ sym (l f (put e fs) refl)

kept_put_by : (me : LifeId) (n : ℕ) (e f : EntryOf) (fs : List EntryOf) (o : Ordering) → life_cmp e.life f.life ≡ o → Under f fs → ((m : ℕ) → kept me m (put e (kept me m fs)) ≡ kept me m (put e fs)) → kept me n (put e (kept me n (f ∷ fs))) ≡ kept me n (put_by o e f fs (put e fs))
kept_put_by me n e f fs Less is low rest =
    ap (kept me n) (put_first e (kept me n (f ∷ fs)) (λ y i. under_more e f fs (ap is_lt is) low y (kept_in y me n (f ∷ fs) i))) ∙ kept_first me n e (f ∷ fs)
kept_put_by me n e f fs Equal is low rest = kept_put_equal me n e f fs is low (keeps_or_leaves me n f)
kept_put_by me n e f fs Greater is low rest = kept_put_greater me n e f fs is rest (keeps_or_leaves me n f)

-- one more entry gives the same, whether there was a cut before or not
pub kept_put : (me : LifeId) (e : EntryOf) (es : List EntryOf) → Rises es → (n : ℕ) → kept me n (put e (kept me n es)) ≡ kept me n (put e es)
kept_put me e [] rise n = refl
kept_put me e (f ∷ fs) rise n = kept_put_by me n e f fs (life_cmp e.life f.life) refl rise.0 (λ m. kept_put me e fs rise.1 m)

-- and so do more
pub kept_more : (me : LifeId) (n : ℕ) (xs ys zs : List EntryOf) → kept me n (least_entries ys) ≡ kept me n (least_entries zs) → kept me n (least_entries (xs ++ ys)) ≡ kept me n (least_entries (xs ++ zs))
kept_more me n [] ys zs same = same
kept_more me n (x ∷ xs) ys zs same =
    sym (kept_put me x (least_entries (xs ++ ys)) (least_entries_rise (xs ++ ys)) n) ∙ ap (λ (es : List EntryOf). kept me n (put x es)) (kept_more me n xs ys zs same)
    ∙ kept_put me x (least_entries (xs ++ zs)) (least_entries_rise (xs ++ zs)) n

-- a cut list stays as it is
pub kept_stays : (me : LifeId) (n : ℕ) (es : List EntryOf) → kept me n (least_entries (kept me n (least_entries es))) ≡ kept me n (least_entries es)
kept_stays me n es =
    ap (kept me n) (least_entries_rising (kept me n (least_entries es)) (kept_rises me n (least_entries es) (least_entries_rise es)))
    ∙ kept_again me (least_entries es) n n (omega arith)
