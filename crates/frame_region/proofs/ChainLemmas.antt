use Rattle.std.proofs.Common.{◌≡◌, ◌≢◌, ◌∙◌, sym, ap, subst, refl, ℕ, zero, suc, ◌+◌, ◌-◌, ◌*◌, ◌/◌, ◌%◌, min, ◌<◌, ◌≤◌, List, length, arith, slice_index_or, slice_set, ◌⊎◌, inl, inr}
use Rattle.std.proofs.lemmas.Bool.{cases_eq}
use Rattle.std.proofs.lemmas.List.{get_or-set_other}
use Rattle.frame_region.specs.Blocks.{after, block, place}
use Rattle.frame_region.specs.Sizes.{needed}

-- the chain goes on from each of its blocks
pub block_add : (next : List ℕ) (first n k : ℕ) → block next (block next first n) k ≡ block next first (n + k)
block_add next first zero k = ap (block next first) {x = k} {y = zero + k} (omega arith)
block_add next first (suc n) k = block_add next (after next first) n k ∙ ap (block next first) {x = suc (n + k)} {y = suc n + k} (omega arith)

-- the block after block number n
pub block_next : (next : List ℕ) (first n : ℕ) → after next (block next first n) ≡ block next first (n + 1)
block_next next first n = block_add next first n 1

-- a chain that does not reach a block goes on as before where another one is to follow that block
pub block_kept : (next : List ℕ) (x v k first : ℕ) → ((j : ℕ) → j < k → block next first j ≡ x → ⊥) → block (slice_set next x v) first k ≡ block next first k
block_kept next x v zero first apart = refl
block_kept next x v (suc k) first apart =
    let here : first ≢ x = apart 0 (omega arith) in
    ap (λ b. block (slice_set next x v) b k) (get_or-set_other next x first v (first + 1) here)
    ∙ block_kept next x v k (after next first) (λ j below. apart (suc j) (omega (arith, below)))

-- chains are the same where the same follows each block
pub block_same : (next follow : List ℕ) → ((b : ℕ) → after follow b ≡ after next b) → (first k : ℕ) → block follow first k ≡ block next first k
block_same next follow same first zero = refl
block_same next follow same first (suc k) = ap (λ b. block follow b k) (same first) ∙ block_same next follow same (after next first) k

-- One turn of writing a frame: the bytes of block number k are there as well
pub there_more : (next : List ℕ) (first k old new : ℕ) → 64 * block next first k + 64 ≤ new → old ≤ new → ((j : ℕ) → j < k → 64 * block next first j + 64 ≤ old)
    → (j : ℕ) → j < k + 1 → 64 * block next first j + 64 ≤ new
there_more next first k old new here more so_far j below = by (cases_eq j k)
  where
    by : (j ≡ k) ⊎ (j ≡ k → ⊥) → 64 * block next first j + 64 ≤ new
    by (inl same) = subst (λ (q : ℕ). 64 * block next first q + 64 ≤ new) (sym same) here
    by (inr other) = omega (arith, so_far j (omega (arith, other, below)), more)

-- One turn of writing a frame: block number k is written with piece number k
pub bytes_more : (next : List ℕ) (first k : ℕ) (frame old new piece : List ℕ)
    → k < needed (length frame) → length piece ≡ min 64 (length frame - 64 * k)
    → ((i j : ℕ) → i < needed (length frame) → j < needed (length frame) → block next first i ≡ block next first j → i ≡ j)
    → ((m : ℕ) → m < length piece → slice_index_or piece m 0 ≡ slice_index_or frame (64 * k + m) 0)
    → ((m : ℕ) → m < length piece → slice_index_or new (64 * block next first k + m) 0 ≡ slice_index_or piece m 0)
    → ((b m : ℕ) → m < 64 → b ≢ block next first k → slice_index_or new (64 * b + m) 0 ≡ slice_index_or old (64 * b + m) 0)
    → ((i : ℕ) → i < length frame → i < 64 * k → slice_index_or old (place next first i) 0 ≡ slice_index_or frame i 0)
    → (i : ℕ) → i < length frame → i < 64 * (k + 1) → slice_index_or new (place next first i) 0 ≡ slice_index_or frame i 0
bytes_more next first k frame old new piece below long apart pieces written others so_far i inside here = by (cases_eq (i / 64) k)
  where
    by : (i / 64 ≡ k) ⊎ (i / 64 ≡ k → ⊥) → slice_index_or new (place next first i) 0 ≡ slice_index_or frame i 0
    by (inl same) =
        ap (λ q. slice_index_or new (64 * block next first q + i % 64) 0) same
        ∙ written (i % 64) (omega (arith, same, inside, long))
        ∙ pieces (i % 64) (omega (arith, same, inside, long))
        ∙ ap (λ q. slice_index_or frame q 0) {x = 64 * k + i % 64} {y = i} (omega (arith, same))
    by (inr other) =
        others (block next first (i / 64)) (i % 64) (omega arith) (λ e. other (apart (i / 64) k (omega (arith, inside)) below e))
        ∙ so_far i inside (omega (arith, other, here))
