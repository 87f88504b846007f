-- How many numbers are proposed, and how many are free.
use Rattle.std.proofs.Common.{◌≡◌, ◌∙◌, sym, ap, refl, ℕ, zero, suc, ◌+◌, ◌<◌, ◌≤◌, List, [], ◌∷◌, length, take, filter, Bool, true, false, not, eqb, cond, arith, ◌||◌, add-one, add-zero, ◌-◌, inl, inr, get_or, map, ◌++◌, append-nil}
use Rattle.std.specs.List.{range_with_len, list_any}
use Rattle.std.proofs.lemmas.Bool.{cases_eq, ne_eqb, or_from, or_left, or_right}
use Rattle.std.proofs.lemmas.Bool.Decides.{Decides-eqb}
use Rattle.std.proofs.lemmas.List.{take_all, take-map, length-map, get_or_default}
use Rattle.std.proofs.lemmas.List.Folds.{list_any_more}
use Rattle.std.proofs.lemmas.List.FromFn.{filter_of_map_range_with_len_more, map-range_with_len_more}
use Rattle.an_base.specs.Values.{EntryOf}
use Rattle.switch_numbering.specs.Numbering.{proposals, is_proposed, all_numbers, free, is_first, others_before, number_at}

-- tests that agree everywhere keep the same elements
filter_same : (f g : ℕ → Bool) (xs : List ℕ) → ((n : ℕ) → f n ≡ g n) → filter f xs ≡ filter g xs
filter_same f g xs same = λ i. filter (λ n. same n i) xs

-- how many of the numbers from a on the test keeps
abbrev kept : (ℕ → Bool) → ℕ → ℕ → ℕ
kept f a n = length (filter f (range_with_len a n))

kept_next : (f : ℕ → Bool) (a n : ℕ) → kept f a (suc n) ≡ cond (f a) 1 0 + kept f (a + 1) n
kept_next f a n = by (f a)
  where
    by : (b : Bool) → length (cond b (a ∷ filter f (range_with_len (a + 1) n)) (filter f (range_with_len (a + 1) n))) ≡ cond b 1 0 + kept f (a + 1) n
    by true = omega arith
    by false = omega arith

-- the test without one more number
abbrev without : (ℕ → Bool) → ℕ → ℕ → Bool
without f p n = not (f n || eqb p n)

-- a number that it does not name is kept as before
without_other : (f : ℕ → Bool) (p n : ℕ) → (p ≡ n → ⊥) → without f p n ≡ not (f n)
without_other f p n other = keeps (f n) (eqb p n) (ne_eqb p n other)
  where
    keeps : (b c : Bool) → c ≡ false → not (b || c) ≡ not b
    keeps true c e = refl
    keeps false c e = ap not e

-- a number that stands before the range changes nothing
kept_outside : (f : ℕ → Bool) (p a n : ℕ) → p < a → kept (without f p) a n ≡ kept (λ m. not (f m)) a n
kept_outside f p a zero low = refl
kept_outside f p a (suc n) low =
    let rest = kept_outside f p (a + 1) n (omega arith) in
    let first : without f p a ≡ not (f a) = without_other f p a (λ same. absurd (omega arith)) in
    kept_next (without f p) a n ∙ ap (λ (b : Bool). cond b 1 0 + kept (without f p) (a + 1) n) first ∙ ap (λ (k : ℕ). cond (not (f a)) 1 0 + k) rest
    ∙ sym (kept_next (λ m. not (f m)) a n)

-- one number less is kept at most
kept_most : (f : ℕ → Bool) (p a n : ℕ) → kept (λ m. not (f m)) a n ≤ kept (without f p) a n + 1
kept_most f p a zero = omega arith
kept_most f p a (suc n) = elim (cases_eq a p) [
  | inl same ↦ (
      let rest = kept_outside f p (a + 1) n (omega arith) in
      let one = kept_next (without f p) a n in
      let two = kept_next (λ m. not (f m)) a n in
      let bit = bit_most (not (f a)) in
      omega arith)
  | inr other ↦ (
      let rest = kept_most f p (a + 1) n in
      let first : without f p a ≡ not (f a) = without_other f p a (λ same. other (sym same)) in
      let one = kept_next (without f p) a n ∙ ap (λ (b : Bool). cond b 1 0 + kept (without f p) (a + 1) n) first in
      let two = kept_next (λ m. not (f m)) a n in
      omega arith)
]
  where
    bit_most : (b : Bool) → cond b 1 0 ≤ 1
    bit_most true = omega arith
    bit_most false = omega arith

-- a number that the test did not keep changes nothing
without_known : (f : ℕ → Bool) (p : ℕ) → f p ≡ true → (n : ℕ) → without f p n ≡ not (f n)
without_known f p known n = elim (cases_eq n p) [
  | inl same ↦ both (f n) (eqb p n) (ap f same ∙ known)
  | inr other ↦ without_other f p n (λ same. other (sym same))
]
  where
    both : (b c : Bool) → b ≡ true → not (b || c) ≡ not b
    both true c e = refl
    both false c e = absurd (cc)

-- one more proposal
free_more : (ps : List ℕ) (i : ℕ) → i < length ps → free (take (i + 1) ps) ≡ filter (without (is_proposed (take i ps)) (get_or ps i 0)) all_numbers
free_more ps i low = filter_same _ _ all_numbers (λ n. ap not (list_any_more (λ p. eqb p n) ps i 0 low))

free_step : (ps : List ℕ) (i : ℕ) → i < length ps → length (free (take i ps)) + cond (is_first ps i) 0 1 ≤ length (free (take (suc i) ps)) + 1
unfolding all_numbers
free_step ps i low = rw (← add-one i) (by (is_proposed (take i ps) (get_or ps i 0)) refl)
  where
    by : (b : Bool) → is_proposed (take i ps) (get_or ps i 0) ≡ b → length (free (take i ps)) + cond (not b) 0 1 ≤ length (free (take (i + 1) ps)) + 1
    by true e =
        let f = ap length (free_more ps i low) in
        let g = ap length (filter_same _ _ all_numbers (without_known (is_proposed (take i ps)) (get_or ps i 0) e)) in
        omega arith
    by false e =
        let f = ap length (free_more ps i low) in
        let g = kept_most (is_proposed (take i ps)) (get_or ps i 0) 1 126 in
        omega arith

-- a test of what a function gives
pub list_any-map : {X Y : Type 0} (p : Y → Bool) (f : X → Y) (xs : List X) → list_any p (map f xs) ≡ list_any (λ x. p (f x)) xs
list_any-map p f [] = refl
list_any-map p f (x ∷ xs) = ap (λ (b : Bool). p (f x) || b) (list_any-map p f xs)

-- one more entry
pub proposed_more : (es : List EntryOf) (n i : ℕ) (d : EntryOf) → i < length es → is_proposed (proposals (take i es)) n ≡ false → ((get_or es i d).proposed ≡ n → ⊥) → is_proposed (proposals (take (i + 1) es)) n ≡ false
proposed_more es n i d low none other =
    list_any-map (λ p. eqb p n) (λ e. e.proposed) (take (i + 1) es)
    ∙ list_any_more (λ e. eqb e.proposed n) es i d low
    ∙ or_from _ _ (sym (list_any-map (λ p. eqb p n) (λ (e : EntryOf). e.proposed) (take i es)) ∙ none) (ne_eqb _ _ other)

-- an entry that proposes the number
pub proposed_at : (es : List EntryOf) (n i : ℕ) (d : EntryOf) → i < length es → (get_or es i d).proposed ≡ n → is_proposed (proposals es) n ≡ true
proposed_at [] n i d low is = absurd (omega arith)
proposed_at (e ∷ es) n zero d low is = or_left (eqb e.proposed n) _ ((Decides-eqb e.proposed n).1 is)
proposed_at (e ∷ es) n (suc i) d low is = or_right (eqb e.proposed n) _ (proposed_at es n i d (omega arith) is)

-- the next free number comes last
pub free_next : (proposed : List ℕ) (n j : ℕ) → 1 + n ≡ j → filter (λ m. not (is_proposed proposed m)) (range_with_len 1 (n + 1)) ≡ filter (λ m. not (is_proposed proposed m)) (range_with_len 1 n) ++ cond (not (is_proposed proposed j)) (j ∷ []) []
free_next proposed n j is =
    sym (ap (filter (λ m. not (is_proposed proposed m))) (map_itself (range_with_len 1 (n + 1))))
    ∙ filter_of_map_range_with_len_more (λ m. not (is_proposed proposed m)) (λ m. m) 1 n j is
    ∙ ap (λ (xs : List ℕ). filter (λ m. not (is_proposed proposed m)) xs ++ cond (not (is_proposed proposed j)) (j ∷ []) []) (map_itself (range_with_len 1 n))
  where
    map_itself : (xs : List ℕ) → map (λ m. m) xs ≡ xs
    map_itself [] = refl
    map_itself (x ∷ xs) = ap (λ (ys : List ℕ). x ∷ ys) (map_itself xs)

free_none : length (free []) ≡ 126
unfolding all_numbers
free_none = refl

-- no more numbers are taken than there are first proposals
free_count : (ps : List ℕ) (i : ℕ) → i ≤ length ps → 126 + others_before ps i ≤ length (free (take i ps)) + i
free_count ps zero low = omega (arith, free_none)
free_count ps (suc i) low = omega (arith, free_count ps i (omega arith), free_step ps i (omega arith))

pub others_rise : (ps : List ℕ) (i k : ℕ) → others_before ps i ≤ others_before ps (i + k)
others_rise ps i zero = rw add-zero (omega arith)
others_rise ps i (suc k) = let h = others_rise ps i k in let e : i + suc k ≡ suc (i + k) = omega arith in rw e (omega arith)

-- there is a free number for each of the others
pub others_fit : (ps : List ℕ) (i : ℕ) → i < length ps → length ps ≤ 126 → is_first ps i ≡ false → others_before ps i < length (free ps)
others_fit ps i low few other =
    let all = free_count ps (length ps) (omega arith) in
    let whole : free (take (length ps) ps) ≡ free ps = ap free (take_all (length ps) ps (omega arith)) in
    let long = ap length whole in
    let rise : others_before ps (suc i) ≤ others_before ps (suc i + (length ps - suc i)) = others_rise ps (suc i) (length ps - suc i) in
    let e : suc i + (length ps - suc i) ≡ length ps = omega arith in
    let rise_to : others_before ps (suc i) ≤ others_before ps (length ps) = rw e at rise in
    let one : others_before ps (suc i) ≡ others_before ps i + 1 = ap (λ (b : Bool). others_before ps i + cond b 0 1) other in
    omega arith

-- after one more number that is free, or is not
pub free_then : (ps : List ℕ) (n j : ℕ) (before after : List ℕ) → 1 + n ≡ j → before ≡ filter (λ m. not (is_proposed ps m)) (range_with_len 1 n) → not (is_proposed ps j) ≡ true → after ≡ before ++ j ∷ [] → after ≡ filter (λ m. not (is_proposed ps m)) (range_with_len 1 (n + 1))
free_then ps n j before after is so_far new pushed =
    pushed ∙ ap (λ (xs : List ℕ). xs ++ j ∷ []) so_far
    ∙ ap (λ (b : Bool). filter (λ m. not (is_proposed ps m)) (range_with_len 1 n) ++ cond b (j ∷ []) []) (sym new)
    ∙ sym (free_next ps n j is)

pub free_else : (ps : List ℕ) (n j : ℕ) (before : List ℕ) → 1 + n ≡ j → before ≡ filter (λ m. not (is_proposed ps m)) (range_with_len 1 n) → not (is_proposed ps j) ≡ false → before ≡ filter (λ m. not (is_proposed ps m)) (range_with_len 1 (n + 1))
free_else ps n j before is so_far old =
    so_far ∙ sym (append-nil (filter (λ m. not (is_proposed ps m)) (range_with_len 1 n)))
    ∙ ap (λ (b : Bool). filter (λ m. not (is_proposed ps m)) (range_with_len 1 n) ++ cond b (j ∷ []) []) (sym old)
    ∙ sym (free_next ps n j is)

-- up to the greatest number they are all
pub free_all : (ps : List ℕ) (n : ℕ) (items : List ℕ) → n ≡ 126 → items ≡ filter (λ m. not (is_proposed ps m)) (range_with_len 1 n) → items ≡ free ps
unfolding all_numbers
free_all ps n items whole so_far = so_far ∙ ap (λ (k : ℕ). filter (λ m. not (is_proposed ps m)) (range_with_len 1 k)) whole

-- the number of the next entry
pub number_next : (ps : List ℕ) (i : ℕ) (n : ℕ) (items next : List ℕ) → items ≡ map (number_at ps) (range_with_len 0 i) → n ≡ number_at ps i → next ≡ items ++ n ∷ [] → next ≡ map (number_at ps) (range_with_len 0 (i + 1))
number_next ps i n items next so_far is pushed =
    pushed ∙ ap (λ (xs : List ℕ). xs ++ n ∷ []) so_far ∙ ap (λ (k : ℕ). map (number_at ps) (range_with_len 0 i) ++ k ∷ []) is
    ∙ sym (map-range_with_len_more (number_at ps) 0 i i (omega arith))

-- what the i-th proposes
pub proposal_at : (es : List EntryOf) (i : ℕ) (d : EntryOf) → i < length es → get_or (proposals es) i 0 ≡ (get_or es i d).proposed
proposal_at [] i d low = absurd (omega arith)
proposal_at (e ∷ es) zero d low = refl
proposal_at (e ∷ es) (suc i) d low = proposal_at es i d (omega arith)

pub first_is : (es : List EntryOf) (i : ℕ) (d : EntryOf) → i < length es → is_first (proposals es) i ≡ not (is_proposed (proposals (take i es)) (get_or es i d).proposed)
first_is es i d low = ap (λ (xs : List ℕ). not (is_proposed xs (get_or (proposals es) i 0))) (take-map (λ e. e.proposed) i es) ∙ ap (λ (n : ℕ). not (is_proposed (proposals (take i es)) n)) (proposal_at es i d low)

-- the number of one that is the first to propose it, and of another
pub number_first : (ps : List ℕ) (i : ℕ) → is_first ps i ≡ true → (get_or ps i 0 ≡ number_at ps i) × (others_before ps (i + 1) ≡ others_before ps i)
number_first ps i first = (
  ap (λ (b : Bool). cond b (get_or ps i 0) (get_or (free ps) (others_before ps i) 0)) (sym first),
  (rw add-one (ap (λ (b : Bool). others_before ps i + cond b 0 1) first ∙ add-zero _)),
)

pub number_other : (ps : List ℕ) (i : ℕ) → is_first ps i ≡ false → (get_or (free ps) (others_before ps i) 0 ≡ number_at ps i) × (others_before ps (i + 1) ≡ others_before ps i + 1)
number_other ps i other = (
  ap (λ (b : Bool). cond b (get_or ps i 0) (get_or (free ps) (others_before ps i) 0)) (sym other),
  (rw add-one (ap (λ (b : Bool). others_before ps i + cond b 0 1) other)),
)

-- whether an entry is the first that proposes its number, from what is found of those before it
pub first_found : (es : List EntryOf) (i p : ℕ) (e : EntryOf) (r : Bool) → i < length es → e ≡ get_or es i e → p ≡ e.proposed → r ≡ is_proposed (proposals (take i es)) p → is_first (proposals es) i ≡ not r
first_found es i p e r low at is found =
    first_is es i e low
    ∙ ap (λ (x : EntryOf). not (is_proposed (proposals (take i es)) x.proposed)) (sym at)
    ∙ ap (λ (n : ℕ). not (is_proposed (proposals (take i es)) n)) (sym is)
    ∙ ap not (sym found)

-- the step at an entry that is not the first to propose its number
pub other_step : (es : List EntryOf) (free_items items next : List ℕ) (i others value : ℕ) → free_items ≡ free (proposals es) → items ≡ map (number_at (proposals es)) (range_with_len 0 i) → others ≡ others_before (proposals es) i → is_first (proposals es) i ≡ false → others < length free_items → value ≡ get_or free_items others value → next ≡ items ++ value ∷ [] → (next ≡ map (number_at (proposals es)) (range_with_len 0 (i + 1))) × (others + 1 ≡ others_before (proposals es) (i + 1))
other_step es free_items items next i others value frees so_far count other within at pushed =
    let n = number_other (proposals es) i other in
    let value_is : value ≡ number_at (proposals es) i =
    at ∙ get_or_default free_items others value 0 within ∙ ap (λ (xs : List ℕ). get_or xs others 0) frees ∙ ap (λ (k : ℕ). get_or (free (proposals es)) k 0) count ∙ n.0 in
    (number_next (proposals es) i value items next so_far value_is pushed, ap (λ (k : ℕ). k + 1) count ∙ sym n.1)

-- the step at one that is
pub first_step : (es : List EntryOf) (items next : List ℕ) (i others value : ℕ) (e : EntryOf) → i < length es → items ≡ map (number_at (proposals es)) (range_with_len 0 i) → others ≡ others_before (proposals es) i → is_first (proposals es) i ≡ true → e ≡ get_or es i e → value ≡ e.proposed → next ≡ items ++ value ∷ [] → (next ≡ map (number_at (proposals es)) (range_with_len 0 (i + 1))) × (others ≡ others_before (proposals es) (i + 1))
first_step es items next i others value e low so_far count first at is pushed =
    let n = number_first (proposals es) i first in
    let value_is : value ≡ number_at (proposals es) i =
    is ∙ ap (λ (x : EntryOf). x.proposed) at ∙ sym (proposal_at es i e low) ∙ n.0 in
    (number_next (proposals es) i value items next so_far value_is pushed, count ∙ sym n.1)

-- one more entry proposes a number in range
pub within_next : (es : List EntryOf) (i : ℕ) (e : EntryOf) → e ≡ get_or es i e → i < length es → 1 ≤ e.proposed → e.proposed ≤ 126 → ((k : ℕ) (d : EntryOf) → k < i → (1 ≤ (get_or es k d).proposed) × ((get_or es k d).proposed ≤ 126)) → (k : ℕ) (d : EntryOf) → k < i + 1 → (1 ≤ (get_or es k d).proposed) × ((get_or es k d).proposed ≤ 126)
within_next es i e at low least most before k d near = elim (cases_eq k i) [
  | inl same ↦ (
      let here : (get_or es k d).proposed ≡ e.proposed = sym (proposal_at es k d (omega arith)) ∙ ap (λ (n : ℕ). get_or (proposals es) n 0) same ∙ proposal_at es i e low ∙ ap (λ (x : EntryOf). x.proposed) (sym at) in
      (omega arith, omega arith))
  | inr other ↦ before k d (omega arith)
]

-- the same of entries
pub others_within : (es : List EntryOf) (free_items : List ℕ) (i others : ℕ) → i < length es → length es ≤ 126 → others ≡ others_before (proposals es) i → is_first (proposals es) i ≡ false → free_items ≡ free (proposals es) → others < length free_items
others_within es free_items i others low few count other frees =
    let n = length-map es (λ e. e.proposed) in
    let fits = others_fit (proposals es) i (omega arith) (omega arith) other in
    let long = ap length frees in
    omega arith

-- no more are others than there are at all
pub others_low : (ps : List ℕ) (i : ℕ) → others_before ps i ≤ i
others_low ps zero = omega arith
others_low ps (suc i) = let h = others_low ps i in by (is_first ps i) h
  where
    by : (b : Bool) → others_before ps i ≤ i → others_before ps i + cond b 0 1 ≤ suc i
    by true h = omega arith
    by false h = omega arith
