-- Lists, histories and sums over the views.
use Rattle.std.proofs.Common.{◌≡◌, ◌≢◌, ℕ, zero, suc, ◌+◌, ◌<◌, ◌≤◌, cond, eqb, List, [], ◌∷◌, ◌++◌, length, set, sym, refl, ap, ◌∙◌, subst, inl, inr, ⊎_elim, arith, length-append, eq-eqb, ne_eqb, append_assoc, append-nil}
use Rattle.std.proofs.lemmas.List.Elements.{filter-append}
use mathlib.Core.Option.{some, some-injective, some-ne-none}
use lib.ListN.{get_elem?}
use Rattle.atomic_table.proofs.Lists.{at_set}
use Rattle.fabric_turn.specs.History.{own_entries, NoneOf, Adds, AppendsAtMostOne}
use Rattle.fabric_turn.specs.Rule.{total_by, tickets_at, numbers_at}
use Rattle.fabric_turn.specs.declared.view.Stage.{Stage}
use Rattle.fabric_turn.specs.declared.view.Stage.TheVariants.{Spent, Idle, Waits, Serves}

module _ {A : Type 0} where
  pub total_by-set : (f : A → ℕ) (l : List A) (i : ℕ) (v w : A) → get_elem? l i ≡ some v → total_by f (set l i w) + f v ≡ total_by f l + f w
  total_by-set f [] i v w e = absurd (some-ne-none v (sym e))
  total_by-set f (x ∷ xs) zero v w e = let is : f x ≡ f v = ap f (some-injective x v e) in omega arith
  total_by-set f (x ∷ xs) (suc i) v w e = let r = total_by-set f xs i v w e in omega arith

  pub total_by-snoc : (f : A → ℕ) (l : List A) (w : A) → total_by f (l ++ w ∷ []) ≡ total_by f l + f w
  total_by-snoc f [] w = omega arith
  total_by-snoc f (x ∷ xs) w = let r = total_by-snoc f xs w in omega arith

  pub total_by-le : (f g : A → ℕ) → ((x : A) → f x ≤ g x) → (l : List A) → total_by f l ≤ total_by g l
  total_by-le f g h [] = omega arith
  total_by-le f g h (x ∷ xs) = let r = total_by-le f g h xs in let k = h x in omega arith

  pub set_put : (l : List A) (i : ℕ) (v w : A) → get_elem? l i ≡ some v → get_elem? (set l i w) i ≡ some w
  set_put [] i v w e = absurd (some-ne-none v (sym e))
  set_put (x ∷ xs) zero v w e = refl
  set_put (x ∷ xs) (suc i) v w e = set_put xs i v w e

  pub no-more : (xs ys : List A) → xs ++ ys ≡ xs → ys ≡ []
  no-more xs [] e = refl
  no-more xs (y ∷ ys) e = let n = length-append xs (y ∷ ys) in let m = ap length e in absurd (omega arith)

  pub snoc-nil : (l m : List A) (b : A) → m ≡ l ++ b ∷ [] → l ≡ [] → m ≡ b ∷ []
  snoc-nil l m b is none = is ∙ ap (λ k. k ++ b ∷ []) none

  -- what is so of the view that changed and of the others is so of each
  pub seats_stay : (K : ℕ → A → Type 0) (vs : List A) (me : ℕ) (w : A) → K me w → ((j : ℕ) (d : A) → j ≢ me → get_elem? vs j ≡ some d → K j d)
      → (j : ℕ) (d : A) → get_elem? (set vs me w) j ≡ some d → K j d
  seats_stay K vs me w mine others j d e = ⊎_elim (λ (t : (j ≡ me) × (w ≡ d)). subst (λ (x : ℕ × A). K x.0 x.1) (λ i. (sym t.0 i, t.1 i)) mine)
      (λ (t : (j ≢ me) × (get_elem? vs j ≡ some d)). others j d t.0 t.1) (at_set vs me j w d e)

pub out_le : (st : Stage) (n : ℕ) → 0 < n → tickets_at st ≤ numbers_at st n
out_le Spent n h = omega arith
out_le Idle n h = omega arith
out_le (Waits t) n h = omega arith
out_le (Serves t) n h = omega arith

module _ {E : Type 0} (owner : E → ℕ) where
  pub own_entries-append : (xs ys : List E) (c : ℕ) → own_entries owner (xs ++ ys) c ≡ own_entries owner xs c ++ own_entries owner ys c
  own_entries-append xs ys c = filter-append (λ e. eqb (owner e) c) xs ys

  pub own_entries-other : (e : E) (c n : ℕ) → owner e ≡ c → n ≢ c → own_entries owner (e ∷ []) n ≡ []
  own_entries-other e c n is ne = let no : owner e ≢ n = λ h. ne (sym h ∙ is) in ap (λ b. cond b (e ∷ []) []) (ne_eqb (owner e) n no)

  pub others_add : (c n : ℕ) (added : List E) → Adds owner c added → n ≢ c → own_entries owner added n ≡ []
  others_add c n added (inl e) ne = ap (λ h. own_entries owner h n) e
  others_add c n added (inr x) ne = ap (λ h. own_entries owner h n) x.1 ∙ own_entries-other x.0 c n x.2 ne

  pub own_adds : (c : ℕ) (added : List E) → Adds owner c added → own_entries owner added c ≡ added
  own_adds c added (inl e) = ap (λ h. own_entries owner h c) e ∙ sym e
  own_adds c added (inr x) = ap (λ h. own_entries owner h c) x.1 ∙ ap (λ b. cond b (x.0 ∷ []) []) (eq-eqb (owner x.0) c x.2) ∙ sym x.1

  pub others_own : (c n : ℕ) (before after : List E) → AppendsAtMostOne owner c before after → n ≢ c → own_entries owner after n ≡ own_entries owner before n
  others_own c n before after (added, adds, e) ne = ap (λ h. own_entries owner h n) e ∙ own_entries-append before added n ∙ ap (λ l. own_entries owner before n ++ l) (others_add c n added adds ne) ∙ append-nil (own_entries owner before n)

  -- who saw all of its own entries has none in the rest
  pub none_of_rest : (seen rest log mine : List E) (c : ℕ) → seen ++ rest ≡ log → own_entries owner log c ≡ mine → own_entries owner seen c ≡ mine → NoneOf owner c rest
  none_of_rest seen rest log mine c whole made saw = no-more (own_entries owner seen c) (own_entries owner rest c) (sym (own_entries-append seen rest c) ∙ ap (λ h. own_entries owner h c) whole ∙ made ∙ sym saw)

  pub prefix_stays : (c : ℕ) (seen rest before after : List E) → AppendsAtMostOne owner c before after → seen ++ rest ≡ before → (more : List E) × (seen ++ more ≡ after)
  prefix_stays c seen rest before after (added, _, f) e = (rest ++ added, sym (append_assoc seen rest added) ∙ ap (λ h. h ++ added) e ∙ sym f)
