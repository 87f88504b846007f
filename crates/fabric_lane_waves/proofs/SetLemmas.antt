-- Words with more bits: the LIDs that end ports own, and those to which gates send.
use Rattle.std.proofs.Common.{◌≡◌, ◌∙◌, sym, ap, subst, refl, ℕ, ◌+◌, ◌*◌, ◌<◌, List, Some, None, arith, length, length-set, get_or, set, inl, inr, ◌⊎◌, ◌↔◌}
use Rattle.std.specs.Int.{bit_at}
use Rattle.std.specs.Int.RustNames.{bit_or}
use Rattle.std.proofs.lemmas.Bool.{cases_eq, cases_lt}
use Rattle.std.proofs.lemmas.List.{get_or-set_other, get_or-set_same}
use Rattle.fabric_model.specs.declared.node.EndPort.{EndPort}
use Rattle.fabric_model.specs.Fabric.{FabricOf, owner_of}
use Rattle.fabric_routes.specs.Waves.{HasBit}
use Rattle.fabric_routes.proofs.WordLemmas.{joined_is}
use Rattle.fabric_lane_waves.specs.LaneBlocks.{AreOwned, AreSetBy}
use Rattle.fabric_lane_waves.specs.LaneGates.{place_in, source_at, source_count}
use Rattle.fabric_lane_waves.proofs.GateLemmas.{place_back, place_is}

pub set_none : (P : ℕ → ℕ → Type 0) (words : List ℕ) → ((place bit : ℕ) → P place bit → ⊥) → AreSetBy words words P
set_none P words none = (
  refl,
  λ place bit. (
    λ has. inl has,
    λ either. elim either [
      | inl had ↦ had
      | inr is ↦ absurd (none place bit is)
    ],
  ),
)

pub set_as : (P R : ℕ → ℕ → Type 0) (old new : List ℕ) → ((place bit : ℕ) → P place bit → R place bit) → ((place bit : ℕ) → R place bit → P place bit) → AreSetBy old new P → AreSetBy old new R
set_as P R old new to from are = (
  are.0,
  λ place bit. (
    λ has. elim ((are.1 place bit).0 has) [
      | inl had ↦ inl had
      | inr p ↦ inr (to place bit p)
    ],
    λ either. elim either [
      | inl had ↦ (are.1 place bit).1 (inl had)
      | inr r ↦ (are.1 place bit).1 (inr (from place bit r))
    ],
  ),
)

-- what stands already need not be set again
pub set_had : (P Q : ℕ → ℕ → Type 0) (old new : List ℕ) → ((place bit : ℕ) → P place bit → Q place bit ⊎ HasBit old place bit) → ((place bit : ℕ) → Q place bit → P place bit) → AreSetBy old new Q → AreSetBy old new P
set_had P Q old new split from are = (
  are.0,
  λ place bit. (
    λ has. elim ((are.1 place bit).0 has) [
      | inl had ↦ inl had
      | inr q ↦ inr (from place bit q)
    ],
    λ either. elim either [
      | inl had ↦ (are.1 place bit).1 (inl had)
      | inr p ↦ elim (split place bit p) [
        | inl q ↦ (are.1 place bit).1 (inr q)
        | inr had ↦ (are.1 place bit).1 (inl had)
      ]
    ],
  ),
)

pub set_more : (P Q R : ℕ → ℕ → Type 0) (a b c : List ℕ) → ((place bit : ℕ) → R place bit → P place bit ⊎ Q place bit) → ((place bit : ℕ) → P place bit → R place bit) → ((place bit : ℕ) → Q place bit → R place bit) → AreSetBy a b P → AreSetBy b c Q → AreSetBy a c R
set_more P Q R a b c split left right first second = (
  second.0 ∙ first.0,
  λ place bit. (
    λ has. elim ((second.1 place bit).0 has) [
      | inl before ↦ elim ((first.1 place bit).0 before) [
        | inl had ↦ inl had
        | inr p ↦ inr (left place bit p)
      ]
      | inr q ↦ inr (right place bit q)
    ],
    λ either. elim either [
      | inl had ↦ (second.1 place bit).1 (inl ((first.1 place bit).1 (inl had)))
      | inr r ↦ elim (split place bit r) [
        | inl p ↦ (second.1 place bit).1 (inl ((first.1 place bit).1 (inr p)))
        | inr q ↦ (second.1 place bit).1 (inr q)
      ]
    ],
  ),
)

-- the bits of a word are put to those of a place
module _ (words : List ℕ) (at word : ℕ) (low : at < length words) where
  abbrev joint : List ℕ
  joint = set words at (bit_or (get_or words at 0) word)

  pub put_word : AreSetBy words (set words at (bit_or (get_or words at 0) word)) (λ place bit. (place ≡ at) × (bit_at word bit ≡ 1))
  put_word = (
    length-set words at (bit_or (get_or words at 0) word),
    λ place bit. elim (cases_eq place at) [
      | inl same ↦ (
          let here : bit_at (get_or joint place 0) bit ≡ bit_at (bit_or (get_or words at 0) word) bit = ap (λ (p : ℕ). bit_at (get_or joint p 0) bit) same ∙ ap (λ (n : ℕ). bit_at n bit) (get_or-set_same words at (bit_or (get_or words at 0) word) 0 low) in
          let was : bit_at (get_or words place 0) bit ≡ bit_at (get_or words at 0) bit = ap (λ (p : ℕ). bit_at (get_or words p 0) bit) same in (
            λ has. elim ((joined_is (get_or words at 0) word bit).0 (sym here ∙ has)) [
              | inl had ↦ inl (was ∙ had)
              | inr new ↦ inr (same, new)
            ],
            λ either. elim either [
              | inl had ↦ here ∙ (joined_is (get_or words at 0) word bit).1 (inl (sym was ∙ had))
              | inr (is, new) ↦ here ∙ (joined_is (get_or words at 0) word bit).1 (inr new)
            ],
          ))
      | inr other ↦ (
          let there : bit_at (get_or joint place 0) bit ≡ bit_at (get_or words place 0) bit = ap (λ (n : ℕ). bit_at n bit) (get_or-set_other words at place (bit_or (get_or words at 0) word) 0 other) in (
            λ has. inl (sym there ∙ has),
            λ either. elim either [
              | inl had ↦ there ∙ had
              | inr (same, is) ↦ absurd (other same)
            ],
          ))
    ],
  )

some_end : (a b : EndPort) → Some a ≡ Some b → a ≡ b
some_end a b same = cc

some_place : (a b : ℕ) → Some a ≡ Some b → a ≡ b
some_place a b same = cc

-- the owner of a LID
module _ (fabric : FabricOf) (block : ℕ) where
  abbrev pub Owns : ℕ → ℕ → ℕ → Type 0
  Owns one place bit = (bit ≡ one) × (place < source_count fabric) × (owner_of fabric (64 * block + one) ≡ Some (source_at fabric place))

  module _ (one : ℕ) (old : List ℕ) where
    pub own_none : owner_of fabric (64 * block + one) ≡ None → AreSetBy old old (Owns one)
    own_none none = set_none (Owns one) old (λ place bit is. absurd (let owns = is.2 in cc))

    module _ (owner : EndPort) (is : owner_of fabric (64 * block + one) ≡ Some owner) where
      who : (place : ℕ) → place < source_count fabric → owner_of fabric (64 * block + one) ≡ Some (source_at fabric place) → place_in fabric owner ≡ Some place
      who place low owns = ap (place_in fabric) (some_end owner (source_at fabric place) (sym is ∙ owns)) ∙ place_back fabric place low

      pub own_away : place_in fabric owner ≡ None → AreSetBy old old (Owns one)
      own_away none = set_none (Owns one) old (λ place bit kind. absurd (let at = who place kind.1 kind.2 in cc))

      pub own_at : (at : ℕ) → place_in fabric owner ≡ Some at → at < source_count fabric → (new : List ℕ) → length new ≡ length old → ((place bit : ℕ) → (HasBit new place bit ↔ (HasBit old place bit ⊎ ((place ≡ at) × (bit ≡ one))))) → AreSetBy old new (Owns one)
      own_at at there low new size marked = (
        size,
        λ place bit. (
          λ has. elim ((marked place bit).0 has) [
            | inl had ↦ inl had
            | inr (here, put_in) ↦ inr (put_in, subst (λ (p : ℕ). p < source_count fabric) (sym here) low, is ∙ ap (λ (e : EndPort). Some e) (sym (place_is fabric owner at there) ∙ ap (source_at fabric) (sym here)))
          ],
          λ either. elim either [
            | inl had ↦ (marked place bit).1 (inl had)
            | inr (put_in, within, owns) ↦ (marked place bit).1 (inr (some_place place at (sym (who place within owns) ∙ there), put_in))
          ],
        ),
      )

  -- of the first LIDs of a block
  abbrev pub OwnsBelow : ℕ → ℕ → ℕ → Type 0
  OwnsBelow end place bit = (bit < end) × (place < source_count fabric) × (owner_of fabric (64 * block + bit) ≡ Some (source_at fabric place))

  pub owned_more : (end : ℕ) (a b c : List ℕ) → AreSetBy a b (OwnsBelow end) → AreSetBy b c (Owns end) → AreSetBy a c (OwnsBelow (end + 1))
  owned_more end a b c first second = set_more (OwnsBelow end) (Owns end) (OwnsBelow (end + 1)) a b c
      (λ place bit (less, low, owns). elim (cases_lt bit end) [
        | inl before ↦ inl (before, low, owns)
        | inr last ↦ (let same : bit ≡ end = omega arith in inr (same, low, ap (λ (k : ℕ). owner_of fabric (64 * block + k)) (sym same) ∙ owns))
      ])
      (λ place bit (less, low, owns). (omega arith, low, owns))
      (λ place bit (same, low, owns). (omega arith, low, ap (λ (k : ℕ). owner_of fabric (64 * block + k)) same ∙ owns))
      first second

  pub all_owned : (old new : List ℕ) → ((place bit : ℕ) → HasBit old place bit → ⊥) → AreSetBy old new (OwnsBelow 64) → AreOwned fabric block new
  all_owned old new none are place bit low fits = (
    λ has. elim ((are.1 place bit).0 has) [
      | inl had ↦ absurd (none place bit had)
      | inr (less, within, owns) ↦ owns
    ],
    λ owns. (are.1 place bit).1 (inr (fits, low, owns)),
  )
