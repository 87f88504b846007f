-- Words of fresh and of done bits.
use Rattle.std.proofs.Common.{◌≡◌, ◌≢◌, ◌∙◌, sym, ap, subst, ℕ, zero, suc, ◌+◌, ◌*◌, ◌%◌, ◌^◌, ◌<◌, ◌≤◌, List, [], ◌∷◌, arith, length, get_or, set, inl, inr, ◌⊎◌, ◌↔◌}
use Rattle.std.specs.Int.{bit_at, bit_not, w64, trailing_zeros}
use Rattle.std.specs.Int.RustNames.{bit_and, bit_or}
use Rattle.std.proofs.lemmas.Bool.{cases_eq, cases_lt}
use Rattle.std.proofs.lemmas.List.{get_or-set_other, get_or-set_same, get_or_past}
use Rattle.std.proofs.lemmas.Nat.Bits.{bit_at_set_same, bit_at_set_other, bit_at_and, bit_at_or, bit_at_not, bit_at_above, bit_at-lt, bit_at-zero, bit_at-trailing_zeros}
use Rattle.fabric_routes.specs.Waves.{HasBit, gap}

-- a bit is 1 or not
pub bit_or_not : (n k : ℕ) → (bit_at n k ≡ 1) ⊎ (bit_at n k ≡ 1 → ⊥)
bit_or_not n k = cases_eq (bit_at n k) 1

pub fresh_is : (word gone : ℕ) → word < 2 ^ 64 → gone < 2 ^ 64 → (k : ℕ) → ((bit_at (bit_and word (bit_not w64 gone)) k ≡ 1) ↔ ((bit_at word k ≡ 1) × (bit_at gone k ≡ 1 → ⊥)))
fresh_is word gone fits small k =
    let both = bit_at_and word (bit_not w64 gone) k in
    let a = bit_at-lt word k in
    let b = bit_at-lt gone k in
    let d = bit_at-lt (bit_not w64 gone) k in
    elim (cases_lt k 64) [
      | inl low ↦ (
          let flip = bit_at_not w64 gone k small low in (
            λ is. (omega arith, λ has. absurd (omega arith)),
            λ (has, not). elim (cases_eq (bit_at gone k) 1) [
              | inl is ↦ absurd (not is)
              | inr other ↦ omega arith
            ],
          ))
      | inr high ↦ (
          let z = bit_at_above word 64 k fits high in
          (λ is. absurd (omega arith), λ (has, not). absurd (omega arith)))
    ]

pub joined_is : (gone fresh k : ℕ) → ((bit_at (bit_or gone fresh) k ≡ 1) ↔ ((bit_at gone k ≡ 1) ⊎ (bit_at fresh k ≡ 1)))
joined_is gone fresh k =
    let both = bit_at_or gone fresh k in
    let a = bit_at-lt gone k in
    let b = bit_at-lt fresh k in (
      λ is. elim (cases_eq (bit_at gone k) 1) [
        | inl has ↦ inl has
        | inr other ↦ inr (omega arith)
      ],
      λ either. elim either [
        | inl has ↦ omega arith
        | inr has ↦ omega arith
      ],
    )

pub joined_more : (gone fresh : ℕ) → fresh ≢ 0 → fresh < 2 ^ 64 → gone ≤ bit_or gone fresh → ((k : ℕ) → bit_at fresh k ≡ 1 → bit_at gone k ≡ 1 → ⊥) → gone < bit_or gone fresh
joined_more gone fresh some fits most apart =
    let low = bit_at-trailing_zeros w64 fresh (omega arith) fits in
    elim (cases_eq (bit_or gone fresh) gone) [
      | inl same ↦ absurd (apart (trailing_zeros w64 fresh) low.1 (sym (ap (λ (n : ℕ). bit_at n (trailing_zeros w64 fresh)) same) ∙ (joined_is gone fresh (trailing_zeros w64 fresh)).1 (inr low.1)))
      | inr other ↦ omega arith
    ]

pub gap_less : (words : List ℕ) (k word : ℕ) → k < length words → get_or words k 0 < word → word < 2 ^ 64 → gap (set words k word) < gap words
gap_less [] k word low more fits = absurd (omega arith)
gap_less (first ∷ words) zero word low more fits = omega arith
gap_less (first ∷ words) (suc k) word low more fits = let rest = gap_less words k word (omega arith) more fits in omega arith

-- a bit of a word is of a switch that there is
pub has_low : (words : List ℕ) (switch bit : ℕ) → HasBit words switch bit → switch < length words
has_low words switch bit has = elim (cases_lt switch (length words)) [
  | inl low ↦ low
  | inr high ↦ absurd (let past = get_or_past words switch 0 high in let z = bit_at-zero bit in let e : bit_at (get_or words switch 0) bit ≡ bit_at 0 bit = ap (λ (n : ℕ). bit_at n bit) past in omega arith)
]

-- and is one of 64
pub bit_low : (words : List ℕ) (switch bit : ℕ) → get_or words switch 0 < 2 ^ 64 → HasBit words switch bit → bit < 64
bit_low words switch bit fits has = elim (cases_lt bit 64) [
  | inl low ↦ low
  | inr high ↦ absurd (let z = bit_at_above (get_or words switch 0) 64 bit fits high in omega arith)
]

-- the bits of a switch that were seen are put to those that are done
pub done_more : (seen done : List ℕ) (at fresh word : ℕ) → at < length done → ((k : ℕ) → ((bit_at fresh k ≡ 1) ↔ ((bit_at (get_or seen at 0) k ≡ 1) × (bit_at (get_or done at 0) k ≡ 1 → ⊥)))) → ((k : ℕ) → ((bit_at word k ≡ 1) ↔ ((bit_at (get_or done at 0) k ≡ 1) ⊎ (bit_at fresh k ≡ 1)))) → (switch bit : ℕ) → (HasBit (set done at word) switch bit ↔ (HasBit done switch bit ⊎ ((switch ≡ at) × HasBit seen at bit)))
done_more seen done at fresh word low is_fresh is_word switch bit = elim (cases_eq switch at) [
  | inl same ↦ (
      let here : bit_at (get_or (set done at word) switch 0) bit ≡ bit_at word bit = ap (λ (s : ℕ). bit_at (get_or (set done at word) s 0) bit) same ∙ ap (λ (n : ℕ). bit_at n bit) (get_or-set_same done at word 0 low) in
      let was : bit_at (get_or done switch 0) bit ≡ bit_at (get_or done at 0) bit = ap (λ (s : ℕ). bit_at (get_or done s 0) bit) same in (
        λ has. elim ((is_word bit).0 (sym here ∙ has)) [
          | inl had ↦ inl (was ∙ had)
          | inr new ↦ inr (same, ((is_fresh bit).0 new).0)
        ],
        λ either. elim either [
          | inl had ↦ here ∙ (is_word bit).1 (inl (sym was ∙ had))
          | inr (_, saw) ↦ elim (bit_or_not (get_or done at 0) bit) [
            | inl had ↦ here ∙ (is_word bit).1 (inl had)
            | inr not ↦ here ∙ (is_word bit).1 (inr ((is_fresh bit).1 (saw, not)))
          ]
        ],
      ))
  | inr other ↦ (
      let there : bit_at (get_or (set done at word) switch 0) bit ≡ bit_at (get_or done switch 0) bit = ap (λ (n : ℕ). bit_at n bit) (get_or-set_other done at switch word 0 other) in (
        λ has. inl (sym there ∙ has),
        λ either. elim either [
          | inl had ↦ there ∙ had
          | inr (same, _) ↦ absurd (other same)
        ],
      ))
]

pub with_is : (word bit : ℕ) → bit < 64 → (other : ℕ) → ((bit_at (bit_or word (1 * 2 ^ bit % 2 ^ 64)) other ≡ 1) ↔ ((bit_at word other ≡ 1) ⊎ (other ≡ bit)))
with_is word bit low other = elim (cases_eq other bit) [
  | inl same ↦ (
    λ _. inr same,
    λ _. ap (bit_at (bit_or word (1 * 2 ^ bit % 2 ^ 64))) same ∙ bit_at_set_same w64 word bit low,
  )
  | inr else ↦ (
      let kept = bit_at_set_other w64 word bit low other else in (
        λ is. inl (sym kept ∙ is),
        λ either. elim either [
          | inl had ↦ kept ∙ had
          | inr same ↦ absurd (else same)
        ],
      ))
]

-- where no bit is fresh, each bit of the word is gone
pub none_fresh : (word gone fresh : ℕ) → fresh ≡ 0 → ((bit : ℕ) → ((bit_at fresh bit ≡ 1) ↔ ((bit_at word bit ≡ 1) × (bit_at gone bit ≡ 1 → ⊥)))) → (bit : ℕ) → bit_at word bit ≡ 1 → bit_at gone bit ≡ 1
none_fresh word gone fresh none is bit has = elim (bit_or_not gone bit) [
  | inl had ↦ had
  | inr not ↦ absurd (
      let e = (is bit).1 (has, not) in
      let z = bit_at-zero bit in
      let f : bit_at fresh bit ≡ bit_at 0 bit = ap (λ (n : ℕ). bit_at n bit) none in
      omega arith)
]

-- a word of the numbers that have something, with one number more
module _ (Has : ℕ → Type 0) (word at : ℕ) (so_far : (bit : ℕ) → ((bit_at word bit ≡ 1) ↔ ((bit < at) × Has bit))) where
  pub has_more : (new : ℕ) → Has at → ((other : ℕ) → ((bit_at new other ≡ 1) ↔ ((bit_at word other ≡ 1) ⊎ (other ≡ at)))) → (bit : ℕ) → ((bit_at new bit ≡ 1) ↔ ((bit < at + 1) × Has bit))
  has_more new has put bit = (
    λ is. elim ((put bit).0 is) [
      | inl had ↦ (let before = (so_far bit).0 had in let low = before.0 in (omega arith, before.1))
      | inr same ↦ (omega arith, subst Has (sym same) has)
    ],
    λ (low, here). elim (cases_eq bit at) [
      | inl same ↦ (put bit).1 (inr same)
      | inr other ↦ (put bit).1 (inl ((so_far bit).1 (omega arith, here)))
    ],
  )

  pub has_same : (new : ℕ) → (Has at → ⊥) → new ≡ word → (bit : ℕ) → ((bit_at new bit ≡ 1) ↔ ((bit < at + 1) × Has bit))
  has_same new not same bit = (
    λ is. (let before = (so_far bit).0 (ap (λ (n : ℕ). bit_at n bit) (sym same) ∙ is) in let low = before.0 in (omega arith, before.1)),
    λ (low, here). elim (cases_eq bit at) [
      | inl is ↦ absurd (not (subst Has is here))
      | inr other ↦ ap (λ (n : ℕ). bit_at n bit) same ∙ (so_far bit).1 (omega arith, here)
    ],
  )

-- what holds of each element so far holds of one more that is put
pub put_more : (P : ℕ → ℕ → Type 0) (xs : List ℕ) (place value : ℕ) → place < length xs → P place value → ((k : ℕ) → k < place → P k (get_or xs k 0)) → (k : ℕ) → k < place + 1 → P k (get_or (set xs place value) k 0)
put_more P xs place value low here before k within = elim (cases_eq k place) [
  | inl same ↦ subst (λ (n : ℕ). P n (get_or (set xs place value) n 0)) (sym same) (subst (λ (x : ℕ). P place x) (sym (get_or-set_same xs place value 0 low)) here)
  | inr other ↦ subst (λ (x : ℕ). P k x) (sym (get_or-set_other xs place k value 0 other)) (before k (omega arith))
]
