use Rattle.std.proofs.Common.{◌≡◌, ◌≢◌, ◌∙◌, sym, ap, subst, ℕ, ◌+◌, ◌-◌, ◌*◌, ◌/◌, ◌%◌, ◌<◌, ◌≤◌, List, length, map, arith, slice_index_or, slice_set, Option, None, IsSome, ◌⊎◌, inl, inr}
use Rattle.std.specs.List.{range_with_len}
use Rattle.std.proofs.lemmas.Bool.{cases_lt}
use Rattle.std.proofs.lemmas.List.{get_or-set_other, get_or-set_same, length-set}
use Rattle.std.proofs.lemmas.List.Sums.{sum_by-set}
use Rattle.frame_region.specs.Blocks.{after, block}
use Rattle.frame_region.specs.Sizes.{needed, blocks_of}
use Rattle.frame_region.specs.Regions.{RegionOf, held_at, bytes_at, content, len_at, count_at, shown, without, IsKept}
use Rattle.frame_region.proofs.ChainLemmas.{block_add, block_next, block_kept, block_same}
use Rattle.frame_region.proofs.ShownLemmas.{set_made, content_same, IsUnder, under, same_kept, same_shown, names_same}
use Rattle.frame_region.proofs.PutLemmas.{set_len}

-- the chain of a slip before the free blocks, as they follow each other then
abbrev pub following : List ℕ → ℕ → ℕ → ℕ → List ℕ
following next slip count first_free = slice_set next (block next slip (count - 1)) first_free

-- the chains that do not begin at the slip stay
other_stays : (bytes next lens : List ℕ) (blocks slip first_free free a k : ℕ) → IsKept bytes next lens blocks first_free free → 1 ≤ len_at lens slip → a ≢ slip → k < count_at lens a
    → block (following next slip (count_at lens slip) first_free) a k ≡ block next a k
other_stays bytes next lens blocks slip first_free free a k kept some other below =
    block_kept next (block next slip (count_at lens slip - 1)) first_free k a (λ j small same.
    other (kept.apart a slip j (count_at lens slip - 1) (omega (arith, small, below)) (omega (arith, some)) same).0)

-- the chain of the slip stays
slip_stays : (bytes next lens : List ℕ) (blocks slip first_free free k : ℕ) → IsKept bytes next lens blocks first_free free → 1 ≤ len_at lens slip → k < count_at lens slip
    → block (following next slip (count_at lens slip) first_free) slip k ≡ block next slip k
slip_stays bytes next lens blocks slip first_free free k kept some below =
    block_kept next (block next slip (count_at lens slip - 1)) first_free k slip (λ j small same.
    let e = (kept.apart slip slip j (count_at lens slip - 1) (omega (arith, small, below)) (omega (arith, some)) same).1 in omega (arith, e, small, below))

-- and the free blocks follow
free_follow : (bytes next lens : List ℕ) (blocks slip first_free free j : ℕ) → IsKept bytes next lens blocks first_free free → block next slip (count_at lens slip - 1) < length next → 1 ≤ len_at lens slip → j < free
    → block (following next slip (count_at lens slip) first_free) slip (count_at lens slip + j) ≡ block next first_free j
free_follow bytes next lens blocks slip first_free free j kept there some below =
    sym (block_add next' slip count j)
    ∙ ap (λ b. block next' b j) after_last
    ∙ block_kept next last first_free j first_free (λ i small same. kept.taken slip (count - 1) i (omega (arith, some)) (omega (arith, small, below)) (sym same))
  where
    count : ℕ
    count = count_at lens slip

    last : ℕ
    last = block next slip (count - 1)

    next' : List ℕ
    next' = following next slip count first_free

    after_last : block next' slip count ≡ first_free
    after_last =
        ap (block next' slip) {x = count} {y = (count - 1) + 1} (omega (arith, some))
        ∙ sym (block_next next' slip (count - 1))
        ∙ ap (after next') (slip_stays bytes next lens blocks slip first_free free (count - 1) kept some (omega (arith, some)))
        ∙ get_or-set_same next last first_free (last + 1) there

-- block number k of the free ones then
record IsFreed (next next' : List ℕ) (slip count first_free free k : ℕ) : Type 0 where
  pub cases : ((k < count) × (block next' slip k ≡ block next slip k)) ⊎ ((k - count < free) × (count ≤ k) × (block next' slip k ≡ block next first_free (k - count)))

freed : (bytes next lens : List ℕ) (blocks slip first_free free k : ℕ) → IsKept bytes next lens blocks first_free free → block next slip (count_at lens slip - 1) < length next → 1 ≤ len_at lens slip → k < free + count_at lens slip
    → IsFreed next (following next slip (count_at lens slip) first_free) slip (count_at lens slip) first_free free k
freed bytes next lens blocks slip first_free free k kept there some below = by (cases_lt k (count_at lens slip))
  where
    next' : List ℕ
    next' = following next slip (count_at lens slip) first_free

    by : (k < count_at lens slip) ⊎ (count_at lens slip ≤ k) → IsFreed next next' slip (count_at lens slip) first_free free k
    by (inl small) = record { cases = inl (small, slip_stays bytes next lens blocks slip first_free free k kept some small) }
    by (inr large) =
        record {
          cases = inr (
            omega (arith, large, below),
            large,
            ap (block next' slip) {x = k} {y = count_at lens slip + (k - count_at lens slip)} (omega (arith, large))
                ∙ free_follow bytes next lens blocks slip first_free free (k - count_at lens slip) kept there some (omega (arith, large, below)),
          );
        }

-- the blocks after those of a slip were freed
pub free_kept : (bytes next lens : List ℕ) (blocks slip first_free free : ℕ) → IsKept bytes next lens blocks first_free free → block next slip (count_at lens slip - 1) < length next → slip < length lens → 1 ≤ len_at lens slip
    → IsKept bytes (following next slip (count_at lens slip) first_free) (slice_set lens slip 0) blocks slip (free + count_at lens slip)
free_kept bytes next lens blocks slip first_free free kept there here some =
    record {
      count = omega (arith, length-set lens slip 0, kept.count);
      most = kept.most;
      total = omega (arith, sum_by-set needed lens slip 0 0 here, kept.total);
      short = λ a. short_by a (set_len lens slip 0 a here);
      within = λ a k below. within_by a k below (set_len lens slip 0 a here);
      written = λ a k below. written_by a k below (set_len lens slip 0 a here);
      apart = λ a b i j below_i below_j same. apart_by a b i j below_i below_j same (set_len lens slip 0 a here) (set_len lens slip 0 b here);
      taken = λ a i j below_i below_j same. taken_by a i j below_i same (set_len lens slip 0 a here) (freed bytes next lens blocks slip first_free free j kept there some below_j).cases;
      free_apart = λ i j below_i below_j same. free_by i j same (freed bytes next lens blocks slip first_free free i kept there some below_i).cases (freed bytes next lens blocks slip first_free free j kept there some below_j).cases;
      free_within = λ i below. free_within_by i (freed bytes next lens blocks slip first_free free i kept there some below).cases;
    }
  where
    count : ℕ
    count = count_at lens slip

    next' : List ℕ
    next' = following next slip count first_free

    lens' : List ℕ
    lens' = slice_set lens slip 0

    short_by : (a : ℕ) → ((a ≡ slip) × (len_at lens' a ≡ 0)) ⊎ ((a ≢ slip) × (len_at lens' a ≡ len_at lens a)) → len_at lens' a ≤ 22591
    short_by a (inl at) = omega (arith, at.1)
    short_by a (inr at) = omega (arith, at.1, kept.short a)

    within_by : (a k : ℕ) → k < count_at lens' a → ((a ≡ slip) × (len_at lens' a ≡ 0)) ⊎ ((a ≢ slip) × (len_at lens' a ≡ len_at lens a)) → block next' a k < blocks
    within_by a k below (inl at) = absurd (omega (arith, below, ap needed at.1))
    within_by a k below (inr at) =
        let few : k < count_at lens a = omega (arith, below, ap needed at.1) in
        omega (arith, other_stays bytes next lens blocks slip first_free free a k kept some at.0 few, kept.within a k few)

    written_by : (a k : ℕ) → k < count_at lens' a → ((a ≡ slip) × (len_at lens' a ≡ 0)) ⊎ ((a ≢ slip) × (len_at lens' a ≡ len_at lens a)) → 64 * block next' a k + 64 ≤ length bytes
    written_by a k below (inl at) = absurd (omega (arith, below, ap needed at.1))
    written_by a k below (inr at) =
        let few : k < count_at lens a = omega (arith, below, ap needed at.1) in
        omega (arith, other_stays bytes next lens blocks slip first_free free a k kept some at.0 few, kept.written a k few)

    apart_by : (a b i j : ℕ) → i < count_at lens' a → j < count_at lens' b → block next' a i ≡ block next' b j
        → ((a ≡ slip) × (len_at lens' a ≡ 0)) ⊎ ((a ≢ slip) × (len_at lens' a ≡ len_at lens a))
        → ((b ≡ slip) × (len_at lens' b ≡ 0)) ⊎ ((b ≢ slip) × (len_at lens' b ≡ len_at lens b)) → (a ≡ b) × (i ≡ j)
    apart_by a b i j below_i below_j same (inl at_a) at_b = absurd (omega (arith, below_i, ap needed at_a.1))
    apart_by a b i j below_i below_j same (inr at_a) (inl at_b) = absurd (omega (arith, below_j, ap needed at_b.1))
    apart_by a b i j below_i below_j same (inr at_a) (inr at_b) =
        let few_i : i < count_at lens a = omega (arith, below_i, ap needed at_a.1) in
        let few_j : j < count_at lens b = omega (arith, below_j, ap needed at_b.1) in
        kept.apart a b i j few_i few_j (sym (other_stays bytes next lens blocks slip first_free free a i kept some at_a.0 few_i) ∙ same ∙ other_stays bytes next lens blocks slip first_free free b j kept some at_b.0 few_j)

    taken_by : (a i j : ℕ) → i < count_at lens' a → block next' a i ≡ block next' slip j
        → ((a ≡ slip) × (len_at lens' a ≡ 0)) ⊎ ((a ≢ slip) × (len_at lens' a ≡ len_at lens a))
        → ((j < count) × (block next' slip j ≡ block next slip j)) ⊎ ((j - count < free) × (count ≤ j) × (block next' slip j ≡ block next first_free (j - count))) → ⊥
    taken_by a i j below_i same (inl at) is = omega (arith, below_i, ap needed at.1)
    taken_by a i j below_i same (inr at) (inl is) =
        let few : i < count_at lens a = omega (arith, below_i, ap needed at.1) in
        at.0 (kept.apart a slip i j few is.0 (sym (other_stays bytes next lens blocks slip first_free free a i kept some at.0 few) ∙ same ∙ is.1)).0
    taken_by a i j below_i same (inr at) (inr is) =
        let few : i < count_at lens a = omega (arith, below_i, ap needed at.1) in
        kept.taken a i (j - count) few is.0 (sym (other_stays bytes next lens blocks slip first_free free a i kept some at.0 few) ∙ same ∙ is.2)

    free_by : (i j : ℕ) → block next' slip i ≡ block next' slip j
        → ((i < count) × (block next' slip i ≡ block next slip i)) ⊎ ((i - count < free) × (count ≤ i) × (block next' slip i ≡ block next first_free (i - count)))
        → ((j < count) × (block next' slip j ≡ block next slip j)) ⊎ ((j - count < free) × (count ≤ j) × (block next' slip j ≡ block next first_free (j - count))) → i ≡ j
    free_by i j same (inl is_i) (inl is_j) = (kept.apart slip slip i j is_i.0 is_j.0 (sym is_i.1 ∙ same ∙ is_j.1)).1
    free_by i j same (inl is_i) (inr is_j) = absurd (kept.taken slip i (j - count) is_i.0 is_j.0 (sym is_i.1 ∙ same ∙ is_j.2))
    free_by i j same (inr is_i) (inl is_j) = absurd (kept.taken slip j (i - count) is_j.0 is_i.0 (sym is_j.1 ∙ sym same ∙ is_i.2))
    free_by i j same (inr is_i) (inr is_j) =
        let e = kept.free_apart (i - count) (j - count) is_i.0 is_j.0 (sym is_i.2 ∙ same ∙ is_j.2) in omega (arith, e, is_i.1, is_j.1)

    free_within_by : (i : ℕ) → ((i < count) × (block next' slip i ≡ block next slip i)) ⊎ ((i - count < free) × (count ≤ i) × (block next' slip i ≡ block next first_free (i - count))) → block next' slip i < blocks
    free_within_by i (inl is) = omega (arith, is.1, kept.within slip i is.0)
    free_within_by i (inr is) = omega (arith, is.2, kept.free_within (i - count) is.0)

-- what the blocks show then: nothing under the slip
pub free_shown : (r : RegionOf) (bytes next lens : List ℕ) (blocks slip first first_free free : ℕ) → IsKept bytes next lens blocks first_free free → first ≡ slip → shown bytes next lens blocks free ≡ r → IsUnder r bytes next lens slip first
    → shown bytes (following next first (count_at lens first) first_free) (slice_set lens first 0) blocks (free + count_at lens first) ≡ without slip r
free_shown r bytes next lens blocks slip first first_free free kept is_slip view at =
    let made : slice_set (map before (range_with_len 0 blocks)) first None ≡ map after' (range_with_len 0 blocks)
    = set_made after' before blocks first None (omega (arith, at.below, kept.count)) at_first (λ b below other. at_other b other) in
    let held_is : map after' (range_with_len 0 blocks) ≡ slice_set r.held slip None
    = sym made ∙ ap (λ (h : List (Option (List ℕ))). slice_set h first None) (ap (λ (q : RegionOf). q.held) view) ∙ ap (λ q. slice_set r.held q None) is_slip in
    let free_is : free + count_at lens first ≡ r.free + blocks_of (bytes_at r slip) = omega (arith, ap (λ (q : RegionOf). q.free) view, ap needed at.len) in
    ap (λ (h : List (Option (List ℕ))). let r' : RegionOf = record { held = h; free = free + count_at lens first } in r') held_is
    ∙ ap (λ (n : ℕ). let r' : RegionOf = record { held = slice_set r.held slip None; free = n } in r') free_is
  where
    lens' : List ℕ
    lens' = slice_set lens first 0

    next' : List ℕ
    next' = following next first (count_at lens first) first_free

    before : ℕ → Option (List ℕ)
    before = λ a. content bytes next a (len_at lens a)

    after' : ℕ → Option (List ℕ)
    after' = λ a. content bytes next' a (len_at lens' a)

    at_first : after' first ≡ None
    at_first = ap (content bytes next' first) (get_or-set_same lens first 0 0 at.below)

    at_other : (b : ℕ) → b ≢ first → after' b ≡ before b
    at_other b other =
        ap (content bytes next' b) (get_or-set_other lens first b 0 0 other)
        ∙ content_same bytes bytes next next' b (len_at lens b) (λ i below.
        ap (λ q. slice_index_or bytes (64 * q + i % 64) 0) (other_stays bytes next lens blocks first first_free free b (i / 64) kept at.some other (omega (arith, below))))

-- the same with names for the number of its blocks, for the last one, and for the list in which that one is there
pub free_kept_by : (bytes next lens follow : List ℕ) (blocks slip first_free free count last : ℕ) → IsKept bytes next lens blocks first_free free → ((b : ℕ) → after follow b ≡ after next b) → last < length follow
    → slip < length lens → 1 ≤ len_at lens slip → count ≡ count_at lens slip → last ≡ block next slip (count - 1)
    → IsKept bytes (slice_set follow last first_free) (slice_set lens slip 0) blocks slip (free + count)
free_kept_by bytes next lens follow blocks slip first_free free count last kept same there here some count_is last_is =
    let last' : last ≡ block follow slip (count_at lens slip - 1) = last_is ∙ ap (λ n. block next slip (n - 1)) count_is ∙ sym (block_same next follow same slip (count_at lens slip - 1)) in
    let kept' = same_kept bytes next lens follow lens blocks first_free free kept (names_same next follow lens blocks kept.count same) in
    subst (λ (b : ℕ). IsKept bytes (slice_set follow b first_free) (slice_set lens slip 0) blocks slip (free + count)) (sym last')
    (subst (λ (n : ℕ). IsKept bytes (following follow slip (count_at lens slip) first_free) (slice_set lens slip 0) blocks slip (free + n)) (sym count_is) (free_kept bytes follow lens blocks slip first_free free kept' (omega (arith, last', there)) here some))

pub free_shown_by : (r : RegionOf) (bytes next lens follow : List ℕ) (blocks slip first first_free free count last : ℕ) → IsKept bytes next lens blocks first_free free → ((b : ℕ) → after follow b ≡ after next b) → first ≡ slip → shown bytes next lens blocks free ≡ r → IsSome (held_at r slip)
    → count ≡ count_at lens first → last ≡ block next first (count - 1)
    → shown bytes (slice_set follow last first_free) (slice_set lens first 0) blocks (free + count) ≡ without slip r
free_shown_by r bytes next lens follow blocks slip first first_free free count last kept same is_slip view has count_is last_is =
    let last' : last ≡ block follow first (count_at lens first - 1) = last_is ∙ ap (λ n. block next first (n - 1)) count_is ∙ sym (block_same next follow same first (count_at lens first - 1)) in
    let names = names_same next follow lens blocks kept.count same in
    let kept' = same_kept bytes next lens follow lens blocks first_free free kept names in
    let view' = same_shown bytes next lens follow lens blocks free names ∙ view in
    ap (λ (b : ℕ). shown bytes (slice_set follow b first_free) (slice_set lens first 0) blocks (free + count)) last'
    ∙ ap (λ (n : ℕ). shown bytes (following follow first (count_at lens first) first_free) (slice_set lens first 0) blocks (free + n)) count_is
    ∙ free_shown r bytes follow lens blocks slip first first_free free kept' is_slip view' (under r bytes follow lens blocks first_free free slip first kept' view' is_slip has)
