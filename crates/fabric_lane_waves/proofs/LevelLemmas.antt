-- The bits of an end port's LIDs, in the words of its levels.
use Rattle.std.proofs.Common.{◌≡◌, ◌≢◌, ◌∙◌, sym, ap, refl, ℕ, ◌+◌, ◌*◌, ◌<◌, ◌^◌, List, arith, length, get_or, set, inl, inr, ◌⊎◌, ◌↔◌}
use Rattle.std.specs.Int.{bit_at}
use Rattle.std.specs.Int.RustNames.{bit_or}
use Rattle.std.proofs.lemmas.Bool.{cases_eq, cases_lt}
use Rattle.std.proofs.lemmas.Nat.Bits.{bit_at_above, bit_at-zero}
use Rattle.fabric_model.specs.declared.node.EndPort.{EndPort}
use Rattle.fabric_lane_tables.specs.PathLevels.{HasLevel, LevelsOf}
use Rattle.fabric_lane_waves.specs.LaneBlocks.{AreSetBy}
use Rattle.fabric_lane_waves.proofs.SetLemmas.{put_word, set_as, set_more, set_none}

pub no_bit : (word bit : ℕ) → word ≡ 0 → bit_at word bit ≡ 1 → ⊥
no_bit word bit none is = absurd (let z = bit_at-zero bit in let e : bit_at word bit ≡ bit_at 0 bit = ap (λ (n : ℕ). bit_at n bit) none in omega arith)

-- so many bits are below their number
pub bit_below : (word width bit : ℕ) → word < 2 ^ width → bit_at word bit ≡ 1 → bit < width
bit_below word width bit fits has = elim (cases_lt bit width) [
  | inl low ↦ low
  | inr high ↦ absurd (let none = bit_at_above word width bit fits high in omega arith)
]

-- a word stands in those of some levels, but for those that are left
module _ (row levels word : ℕ) where
  abbrev pub Leveled : ℕ → ℕ → Type 0
  Leveled place bit = (level : ℕ) × (level < 16) × (bit_at levels level ≡ 1) × (place ≡ row + level) × (bit_at word bit ≡ 1)

  abbrev pub But : ℕ → ℕ → ℕ → Type 0
  But left place bit = (level : ℕ) × (level < 16) × (bit_at levels level ≡ 1) × (bit_at left level ≡ 1 → ⊥) × (place ≡ row + level) × (bit_at word bit ≡ 1)

  pub levels_none : (left : ℕ) (words : List ℕ) → left ≡ levels → AreSetBy words words (But left)
  levels_none left words all = set_none (But left) words (λ place bit (level, low, has, not, at, in_word). not (ap (λ (n : ℕ). bit_at n level) all ∙ has))

  pub levels_more : (left rest one : ℕ) (a b : List ℕ) → one < 16 → bit_at levels one ≡ 1 → ((other : ℕ) → ((bit_at rest other ≡ 1) ↔ ((bit_at left other ≡ 1) × (other ≢ one)))) → row + one < length b → AreSetBy a b (But left) → AreSetBy a (set b (row + one) (bit_or (get_or b (row + one) 0) word)) (But rest)
  levels_more left rest one a b low has is_rest within before = set_more (But left) (λ place bit. (place ≡ row + one) × (bit_at word bit ≡ 1)) (But rest) a b (set b (row + one) (bit_or (get_or b (row + one) 0) word))
      (λ place bit (level, low, is, not, at, in_word). elim (cases_eq level one) [
        | inl same ↦ inr (at ∙ ap (λ (l : ℕ). row + l) same, in_word)
        | inr other ↦ inl (level, low, is, (λ left. not ((is_rest level).1 (left, other))), at, in_word)
      ])
      (λ place bit (level, low, is, not, at, in_word). (level, low, is, (λ left. not ((is_rest level).0 left).0), at, in_word))
      (λ place bit (at, in_word). (one, low, has, (λ left. ((is_rest one).0 left).1 refl), at, in_word))
      before (put_word b (row + one) word within)

  pub levels_all : (left : ℕ) (a b : List ℕ) → left ≡ 0 → AreSetBy a b (But left) → AreSetBy a b Leveled
  levels_all left a b none are = set_as (But left) Leveled a b
      (λ place bit (level, low, is, not, at, in_word). (level, low, is, at, in_word))
      (λ place bit (level, low, is, at, in_word). (level, low, is, no_bit left level none, at, in_word))
      are

-- the LIDs of a word in those of their levels, but for those that are left
module _ (told : LevelsOf) (source : EndPort) (block row word : ℕ) where
  abbrev pub Told : ℕ → ℕ → Type 0
  Told place bit = (level : ℕ) × HasLevel told source (64 * block + bit) level × (place ≡ row + level) × (bit_at word bit ≡ 1)

  abbrev pub ToldBut : ℕ → ℕ → ℕ → Type 0
  ToldBut left place bit = (level : ℕ) × HasLevel told source (64 * block + bit) level × (place ≡ row + level) × (bit_at word bit ≡ 1) × (bit_at left bit ≡ 1 → ⊥)

  pub told_none : (words : List ℕ) → AreSetBy words words (ToldBut word)
  told_none words = set_none (ToldBut word) words (λ place bit (level, has, at, in_word, not). not in_word)

  pub told_more : (left rest one levels mask : ℕ) (a b c : List ℕ) → levels ≡ told source (64 * block + one) → bit_at word one ≡ 1 → ((bit : ℕ) → ((bit_at rest bit ≡ 1) ↔ ((bit_at left bit ≡ 1) × (bit ≢ one)))) → ((bit : ℕ) → ((bit_at mask bit ≡ 1) ↔ ((bit_at 0 bit ≡ 1) ⊎ (bit ≡ one)))) → AreSetBy a b (ToldBut left) → AreSetBy b c (Leveled row levels mask) → AreSetBy a c (ToldBut rest)
  told_more left rest one levels mask a b c are has is_rest is_mask before put = set_more (ToldBut left) (Leveled row levels mask) (ToldBut rest) a b c
      (λ place bit (level, is, at, in_word, not). elim (cases_eq bit one) [
        | inl same ↦ inr (level, is.0, ap (λ (n : ℕ). bit_at n level) (are ∙ ap (λ (k : ℕ). told source (64 * block + k)) (sym same)) ∙ is.1, at, (is_mask bit).1 (inr same))
        | inr other ↦ inl (level, is, at, in_word, (λ left. not ((is_rest bit).1 (left, other))))
      ])
      (λ place bit (level, is, at, in_word, not). (level, is, at, in_word, (λ left. not ((is_rest bit).0 left).0)))
      (λ place bit (level, low, is, at, in_mask). elim ((is_mask bit).0 in_mask) [
        | inl none ↦ absurd (no_bit 0 bit refl none)
        | inr same ↦ (level, (low, ap (λ (n : ℕ). bit_at n level) (ap (λ (k : ℕ). told source (64 * block + k)) same ∙ sym are) ∙ is), at, ap (bit_at word) same ∙ has, (λ left. ((is_rest bit).0 left).1 same))
      ])
      before put

  pub told_all : (left : ℕ) (a b : List ℕ) → left ≡ 0 → AreSetBy a b (ToldBut left) → AreSetBy a b Told
  told_all left a b none are = set_as (ToldBut left) Told a b
      (λ place bit (level, is, at, in_word, not). (level, is, at, in_word))
      (λ place bit (level, is, at, in_word). (level, is, at, in_word, no_bit left bit none))
      are

  -- all LIDs with the same levels
  pub told_same : (levels : ℕ) (a b : List ℕ) → ((lid : ℕ) → told source lid ≡ levels) → AreSetBy a b (Leveled row levels word) → AreSetBy a b Told
  told_same levels a b all are = set_as (Leveled row levels word) Told a b
      (λ place bit (level, low, is, at, in_word). (level, (low, ap (λ (n : ℕ). bit_at n level) (all (64 * block + bit)) ∙ is), at, in_word))
      (λ place bit (level, is, at, in_word). (level, is.0, ap (λ (n : ℕ). bit_at n level) (sym (all (64 * block + bit))) ∙ is.1, at, in_word))
      are
