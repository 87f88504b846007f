-- The numbers of entries are as many as the entries, within 1 to 126, and all different.
use Rattle.std.proofs.Common.{◌≡◌, ◌∙◌, sym, ap, refl, ℕ, zero, suc, ◌+◌, ◌-◌, ◌<◌, ◌≤◌, List, [], ◌∷◌, length, take, filter, Bool, true, false, not, eqb, cond, arith, get_or, All}
use Rattle.std.specs.List.{range_with_len}
use Rattle.std.proofs.lemmas.Bool.{or_left, or_right}
use Rattle.std.proofs.lemmas.List.{get_or-take, length-take, length-map, get_or-map}
use Rattle.std.proofs.lemmas.List.FromFn.{length-map-range_with_len, get_or-map-range_with_len}
use Rattle.std.proofs.lemmas.Bool.Decides.{Decides-eqb}
use Rattle.an_base.specs.Values.{EntryOf}
use Rattle.an_base.specs.Numbers.{AreNumbers}
use Rattle.switch_numbering.specs.Numbering.{proposals, is_proposed, all_numbers, free, is_first, others_before, number_at, numbering}
use Rattle.switch_numbering.proofs.Counting.{others_fit, others_rise}

-- there is a number for each entry
pub length-numbering : (entries : List EntryOf) → length (numbering entries) ≡ length entries
length-numbering entries = length-map-range_with_len (number_at (proposals entries)) 0 (length entries)

-- what the test keeps of a range is in the range and passes the test
record IsKept (f : ℕ → Bool) (a n v : ℕ) : Type 0 where
  least : a ≤ v
  most : v < a + n
  passes : f v ≡ true

kept_at : (f : ℕ → Bool) (a n k d : ℕ) → k < length (filter f (range_with_len a n)) → IsKept f a n (get_or (filter f (range_with_len a n)) k d)
kept_at f a zero k d low = absurd (omega arith)
kept_at f a (suc n) k d low = by (f a) refl k low (kept_at f (a + 1) n)
  where
    wider : (v : ℕ) → IsKept f (a + 1) n v → IsKept f a (suc n) v
    wider v h = record { least = omega (arith, h.least); most = omega (arith, h.most); passes = h.passes }

    by : (b : Bool) → f a ≡ b → (k : ℕ) → k < length (cond b (a ∷ filter f (range_with_len (a + 1) n)) (filter f (range_with_len (a + 1) n)))
        → ((k d : ℕ) → k < length (filter f (range_with_len (a + 1) n)) → IsKept f (a + 1) n (get_or (filter f (range_with_len (a + 1) n)) k d))
        → IsKept f a (suc n) (get_or (cond b (a ∷ filter f (range_with_len (a + 1) n)) (filter f (range_with_len (a + 1) n))) k d)
    by true e zero low rest = record { least = omega arith; most = omega arith; passes = e }
    by true e (suc k) low rest = wider _ (rest k d (omega arith))
    by false e k low rest = wider _ (rest k d low)

-- and stands by rising number
kept_rise : (f : ℕ → Bool) (a n i j d : ℕ) → i < j → j < length (filter f (range_with_len a n)) → get_or (filter f (range_with_len a n)) i d < get_or (filter f (range_with_len a n)) j d
kept_rise f a zero i j d before low = absurd (omega arith)
kept_rise f a (suc n) i j d before low = by (f a) i j before low (kept_rise f (a + 1) n)
  where
    by : (b : Bool) (i j : ℕ) → i < j → j < length (cond b (a ∷ filter f (range_with_len (a + 1) n)) (filter f (range_with_len (a + 1) n)))
        → ((i j d : ℕ) → i < j → j < length (filter f (range_with_len (a + 1) n)) → get_or (filter f (range_with_len (a + 1) n)) i d < get_or (filter f (range_with_len (a + 1) n)) j d)
        → get_or (cond b (a ∷ filter f (range_with_len (a + 1) n)) (filter f (range_with_len (a + 1) n))) i d < get_or (cond b (a ∷ filter f (range_with_len (a + 1) n)) (filter f (range_with_len (a + 1) n))) j d
    by true i zero before low rest = absurd (omega arith)
    by true zero (suc j) before low rest = let h = kept_at f (a + 1) n j d (omega arith) in omega (arith, h.least)
    by true (suc i) (suc j) before low rest = rest i j d (omega arith) (omega arith)
    by false i j before low rest = rest i j d before low

free_at : (ps : List ℕ) (k : ℕ) → k < length (free ps) → IsKept (λ n. not (is_proposed ps n)) 1 126 (get_or (free ps) k 0)
unfolding all_numbers
free_at ps k low = kept_at (λ n. not (is_proposed ps n)) 1 126 k 0 low

free_rise : (ps : List ℕ) (i j : ℕ) → i < j → j < length (free ps) → get_or (free ps) i 0 < get_or (free ps) j 0
unfolding all_numbers
free_rise ps i j before low = kept_rise (λ n. not (is_proposed ps n)) 1 126 i j 0 before low

-- what stands in the list is proposed
proposed_in : (ps : List ℕ) (i : ℕ) → i < length ps → is_proposed ps (get_or ps i 0) ≡ true
proposed_in [] i low = absurd (omega arith)
proposed_in (p ∷ ps) zero low = or_left (eqb p p) _ ((Decides-eqb p p).1 refl)
proposed_in (p ∷ ps) (suc i) low = or_right (eqb p (get_or ps i 0)) _ (proposed_in ps i (omega arith))

not_both : (b : Bool) → b ≡ true → not b ≡ true → ⊥
not_both true e f = cc
not_both false e f = cc

-- a number is proposed, or it is one of the free ones, whose place is told
number_cases : (ps : List ℕ) (i : ℕ) (b : Bool) → is_first ps i ≡ b → number_at ps i ≡ cond b (get_or ps i 0) (get_or (free ps) (others_before ps i) 0)
number_cases ps i b e = ap (λ (c : Bool). cond c (get_or ps i 0) (get_or (free ps) (others_before ps i) 0)) e

within_at : (ps : List ℕ) (i : ℕ) → i < length ps → length ps ≤ 126 → All (λ p. (1 ≤ p) × (p ≤ 126)) ps → (1 ≤ number_at ps i) × (number_at ps i ≤ 126)
within_at ps i low few within = by (is_first ps i) refl
  where
    by : (b : Bool) → is_first ps i ≡ b → (1 ≤ number_at ps i) × (number_at ps i ≤ 126)
    by true e = let n = number_cases ps i true e in let w = within i 0 low in (omega arith, omega arith)
    by false e = let n = number_cases ps i false e in let w = free_at ps (others_before ps i) (others_fit ps i low few e) in (omega (arith, w.least), omega (arith, w.most))

first_is_new : (ps : List ℕ) (i j : ℕ) → i < j → j < length ps → is_first ps j ≡ true → get_or ps i 0 ≡ get_or ps j 0 → ⊥
first_is_new ps i j before low first same =
    let at : get_or (take j ps) i 0 ≡ get_or ps i 0 = get_or-take j ps i 0 before in
    let here = proposed_in (take j ps) i (omega (arith, length-take j ps)) in
    not_both _ (ap (is_proposed (take j ps)) (sym same ∙ sym at) ∙ here) first

free_is_new : (ps : List ℕ) (i k : ℕ) → i < length ps → k < length (free ps) → get_or ps i 0 ≡ get_or (free ps) k 0 → ⊥
free_is_new ps i k low free_low same = not_both _ (ap (is_proposed ps) (sym same) ∙ proposed_in ps i low) (free_at ps k free_low).passes

others_apart : (ps : List ℕ) (i j : ℕ) → i < j → is_first ps i ≡ false → others_before ps i < others_before ps j
others_apart ps i j before other =
    let rise : others_before ps (suc i) ≤ others_before ps (suc i + (j - suc i)) = others_rise ps (suc i) (j - suc i) in
    let e : suc i + (j - suc i) ≡ j = omega arith in
    let rise_to : others_before ps (suc i) ≤ others_before ps j = rw e at rise in
    let one : others_before ps (suc i) ≡ others_before ps i + 1 = ap (λ (b : Bool). others_before ps i + cond b 0 1) other in
    omega arith

apart_at : (ps : List ℕ) (i j : ℕ) → i < j → j < length ps → length ps ≤ 126 → number_at ps i ≡ number_at ps j → ⊥
apart_at ps i j before low few same = by (is_first ps i) (is_first ps j) refl refl
  where
    by : (b c : Bool) → is_first ps i ≡ b → is_first ps j ≡ c → ⊥
    by true true e f = first_is_new ps i j before low f (sym (number_cases ps i true e) ∙ same ∙ number_cases ps j true f)
    by true false e f = free_is_new ps i (others_before ps j) (omega arith) (others_fit ps j low few f) (sym (number_cases ps i true e) ∙ same ∙ number_cases ps j false f)
    by false true e f = free_is_new ps j (others_before ps i) low (others_fit ps i (omega arith) few e) (sym (number_cases ps j true f) ∙ sym same ∙ number_cases ps i false e)
    by false false e f =
        let n = number_cases ps i false e in
        let m = number_cases ps j false f in
        omega (arith, free_rise ps (others_before ps i) (others_before ps j) (others_apart ps i j before e) (others_fit ps j low few f))

in_range : (es : List EntryOf) → All (λ e. (1 ≤ e.proposed) × (e.proposed ≤ 126)) es → (k d : ℕ) → k < length (proposals es) → (1 ≤ get_or (proposals es) k d) × (get_or (proposals es) k d ≤ 126)
in_range [] within k d low = absurd (omega arith)
in_range (e ∷ es) within k d low =
    let long : length (proposals (e ∷ es)) ≡ length (e ∷ es) = length-map (e ∷ es) (λ x. x.proposed) in
    let at : get_or (proposals (e ∷ es)) k d ≡ (get_or (e ∷ es) k e).proposed = get_or-map (λ (x : EntryOf). x.proposed) (e ∷ es) k e d (omega arith) in
    let w = within k e (omega arith) in
    (omega arith, omega arith)

-- the numbers of a topology differ, and are in range
pub numbers_are : (es : List EntryOf) → 1 ≤ length es → length es ≤ 126 → All (λ e. (1 ≤ e.proposed) × (e.proposed ≤ 126)) es → AreNumbers (numbering es)
numbers_are es some few within =
    let ps = proposals es in
    let long : length ps ≡ length es = length-map es (λ e. e.proposed) in
    let range : All (λ p. (1 ≤ p) × (p ≤ 126)) ps = in_range es within in
    let count = length-map-range_with_len (number_at ps) 0 (length es) in
    let at = λ (k : ℕ) (d : ℕ) (low : k < length es). get_or-map-range_with_len (number_at ps) 0 (length es) k k d low (omega arith) in
    record {
      some = omega arith;
      most = omega arith;
      within = λ k d low. let w = within_at ps k (omega arith) (omega arith) range in let is = at k d (omega arith) in (omega arith, omega arith);
      apart = λ i j d before low same. apart_at ps i j before (omega arith) (omega arith) (sym (at i d (omega arith)) ∙ same ∙ at j d (omega arith));
    }
