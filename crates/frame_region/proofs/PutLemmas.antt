use Rattle.std.proofs.Common.{◌≡◌, ◌≢◌, ◌∙◌, sym, ap, subst, refl, ℕ, ◌+◌, ◌-◌, ◌*◌, ◌/◌, ◌%◌, ◌<◌, ◌≤◌, List, ◌++◌, length, map, replicate, arith, slice_index_or, slice_set, Option, Some, None, ◌⊎◌, inl, inr}
use Rattle.std.specs.List.{range_with_len}
use Rattle.std.proofs.lemmas.Bool.{cases_eq, cases_lt}
use Rattle.std.proofs.lemmas.List.{get_or-set_other, get_or-set_same, length-set, length-append, length-replicate}
use Rattle.std.proofs.lemmas.List.Sums.{sum_by-set}
use Rattle.std.proofs.lemmas.List.FromFn.{fill_by_all, length-map-range_with_len}
use Rattle.frame_region.specs.Blocks.{block, place, chain_bytes}
use Rattle.frame_region.specs.Sizes.{needed}
use Rattle.frame_region.specs.Inside.{IsWritten}
use Rattle.frame_region.specs.Regions.{RegionOf, held_at, content, len_at, count_at, shown, with_put, IsKept}
use Rattle.frame_region.proofs.ChainLemmas.{block_add}
use Rattle.frame_region.proofs.ShownLemmas.{set_made, content_same, content_some, shown_at, IsSame, same_kept, same_shown, lens_same}

-- the lengths after one of them is set
pub set_len : (lens : List ℕ) (first n a : ℕ) → first < length lens → ((a ≡ first) × (len_at (slice_set lens first n) a ≡ n)) ⊎ ((a ≢ first) × (len_at (slice_set lens first n) a ≡ len_at lens a))
set_len lens first n a below = by (cases_eq a first)
  where
    by : (a ≡ first) ⊎ (a ≡ first → ⊥) → ((a ≡ first) × (len_at (slice_set lens first n) a ≡ n)) ⊎ ((a ≢ first) × (len_at (slice_set lens first n) a ≡ len_at lens a))
    by (inl same) = inl (same, ap (len_at (slice_set lens first n)) same ∙ get_or-set_same lens first n 0 below)
    by (inr other) = inr (other, get_or-set_other lens first a n 0 other)

-- nothing begins with the first free block
pub free_is_new : (bytes next lens : List ℕ) (blocks first_free free : ℕ) → IsKept bytes next lens blocks first_free free → 1 ≤ free → len_at lens first_free ≡ 0
free_is_new bytes next lens blocks first_free free kept some = by (cases_lt 0 (len_at lens first_free))
  where
    by : (0 < len_at lens first_free) ⊎ (len_at lens first_free ≤ 0) → len_at lens first_free ≡ 0
    by (inl some_bytes) = absurd (kept.taken first_free 0 0 (omega (arith, some_bytes)) some refl)
    by (inr none) = omega (arith, none)

-- the blocks after a frame was written into the first free ones
pub put_kept : (bytes next lens new frame : List ℕ) (blocks first_free free : ℕ) → first_free < length lens → IsKept bytes next lens blocks first_free free → IsWritten next first_free frame bytes new
    → 1 ≤ length frame → length frame ≤ 22591 → needed (length frame) ≤ free
    → IsKept new next (slice_set lens first_free (length frame)) blocks (block next first_free (needed (length frame))) (free - needed (length frame))
put_kept bytes next lens new frame blocks first_free free here kept written least most enough =
    record {
      count = omega (arith, length-set lens first_free (length frame), kept.count);
      most = kept.most;
      total = omega (arith, sum_by-set needed lens first_free (length frame) 0 here, ap needed new_is, kept.total, enough);
      short = λ a. short_by a (set_len lens first_free (length frame) a here);
      within = λ a k below. within_by a k below (set_len lens first_free (length frame) a here);
      written = λ a k below. written_by a k below (set_len lens first_free (length frame) a here);
      apart = λ a b i j below_i below_j same. apart_by a b i j below_i below_j same (set_len lens first_free (length frame) a here) (set_len lens first_free (length frame) b here);
      taken = λ a i j below_i below_j same. taken_by a i j below_i below_j same (set_len lens first_free (length frame) a here);
      free_apart = λ i j below_i below_j same.
          let e = kept.free_apart (need + i) (need + j) (omega (arith, below_i)) (omega (arith, below_j)) (sym (block_add next first_free need i) ∙ same ∙ block_add next first_free need j) in omega (arith, e);
      free_within = λ i below. subst (λ (b : ℕ). b < blocks) (sym (block_add next first_free need i)) (kept.free_within (need + i) (omega (arith, below)));
    }
  where
    need : ℕ
    need = needed (length frame)

    lens' : List ℕ
    lens' = slice_set lens first_free (length frame)

    new_is : len_at lens first_free ≡ 0
    new_is = free_is_new bytes next lens blocks first_free free kept (omega (arith, least, enough))

    short_by : (a : ℕ) → ((a ≡ first_free) × (len_at lens' a ≡ length frame)) ⊎ ((a ≢ first_free) × (len_at lens' a ≡ len_at lens a)) → len_at lens' a ≤ 22591
    short_by a (inl at) = omega (arith, at.1, most)
    short_by a (inr at) = omega (arith, at.1, kept.short a)

    within_by : (a k : ℕ) → k < count_at lens' a → ((a ≡ first_free) × (len_at lens' a ≡ length frame)) ⊎ ((a ≢ first_free) × (len_at lens' a ≡ len_at lens a)) → block next a k < blocks
    within_by a k below (inl at) = subst (λ (q : ℕ). block next q k < blocks) (sym at.0) (kept.free_within k (omega (arith, below, ap needed at.1, enough)))
    within_by a k below (inr at) = kept.within a k (omega (arith, below, ap needed at.1))

    written_by : (a k : ℕ) → k < count_at lens' a → ((a ≡ first_free) × (len_at lens' a ≡ length frame)) ⊎ ((a ≢ first_free) × (len_at lens' a ≡ len_at lens a)) → 64 * block next a k + 64 ≤ length new
    written_by a k below (inl at) = subst (λ (q : ℕ). 64 * block next q k + 64 ≤ length new) (sym at.0) (written.there k (omega (arith, below, ap needed at.1)))
    written_by a k below (inr at) = omega (arith, kept.written a k (omega (arith, below, ap needed at.1)), written.more)

    taken_by : (a i j : ℕ) → i < count_at lens' a → j < free - need → block next a i ≡ block next (block next first_free need) j → ((a ≡ first_free) × (len_at lens' a ≡ length frame)) ⊎ ((a ≢ first_free) × (len_at lens' a ≡ len_at lens a)) → ⊥
    taken_by a i j below_i below_j same (inl at) =
        let few : i < need = omega (arith, below_i, ap needed at.1) in
        let e = kept.free_apart i (need + j) (omega (arith, few, enough)) (omega (arith, below_j)) (ap (λ q. block next q i) (sym at.0) ∙ same ∙ block_add next first_free need j) in
        omega (arith, e, few)
    taken_by a i j below_i below_j same (inr at) = kept.taken a i (need + j) (omega (arith, below_i, ap needed at.1)) (omega (arith, below_j)) (same ∙ block_add next first_free need j)

    apart_by : (a b i j : ℕ) → i < count_at lens' a → j < count_at lens' b → block next a i ≡ block next b j
        → ((a ≡ first_free) × (len_at lens' a ≡ length frame)) ⊎ ((a ≢ first_free) × (len_at lens' a ≡ len_at lens a))
        → ((b ≡ first_free) × (len_at lens' b ≡ length frame)) ⊎ ((b ≢ first_free) × (len_at lens' b ≡ len_at lens b)) → (a ≡ b) × (i ≡ j)
    apart_by a b i j below_i below_j same (inl at_a) (inl at_b) =
        (at_a.0 ∙ sym at_b.0, kept.free_apart i j (omega (arith, below_i, ap needed at_a.1, enough)) (omega (arith, below_j, ap needed at_b.1, enough)) (ap (λ q. block next q i) (sym at_a.0) ∙ same ∙ ap (λ q. block next q j) at_b.0))
    apart_by a b i j below_i below_j same (inl at_a) (inr at_b) =
        absurd (kept.taken b j i (omega (arith, below_j, ap needed at_b.1)) (omega (arith, below_i, ap needed at_a.1, enough)) (sym same ∙ ap (λ q. block next q i) at_a.0))
    apart_by a b i j below_i below_j same (inr at_a) (inl at_b) =
        absurd (kept.taken a i j (omega (arith, below_i, ap needed at_a.1)) (omega (arith, below_j, ap needed at_b.1, enough)) (same ∙ ap (λ q. block next q j) at_b.0))
    apart_by a b i j below_i below_j same (inr at_a) (inr at_b) =
        kept.apart a b i j (omega (arith, below_i, ap needed at_a.1)) (omega (arith, below_j, ap needed at_b.1)) same

-- what the blocks show then: the frame under the slip that was new
pub put_shown : (bytes next lens new frame : List ℕ) (blocks first_free free left : ℕ) → first_free < length lens → IsKept bytes next lens blocks first_free free → IsWritten next first_free frame bytes new
    → 1 ≤ length frame → needed (length frame) ≤ free → left + needed (length frame) ≡ free
    → shown new next (slice_set lens first_free (length frame)) blocks left ≡ with_put first_free frame (shown bytes next lens blocks free)
put_shown bytes next lens new frame blocks first_free free left here kept written least enough rest =
    let made : slice_set (map before (range_with_len 0 blocks)) first_free (Some frame) ≡ map after (range_with_len 0 blocks)
    = set_made after before blocks first_free (Some frame) (omega (arith, here, kept.count)) at_first (λ b below other. at_other b other) in
    let free_is : left ≡ free - needed (length frame) = omega (arith, rest) in
    ap (λ (h : List (Option (List ℕ))). let r : RegionOf = record { held = h; free = left } in r) (sym made)
    ∙ ap (λ (n : ℕ). let r : RegionOf = record { held = slice_set (map before (range_with_len 0 blocks)) first_free (Some frame); free = n } in r) free_is
  where
    lens' : List ℕ
    lens' = slice_set lens first_free (length frame)

    before : ℕ → Option (List ℕ)
    before = λ a. content bytes next a (len_at lens a)

    after : ℕ → Option (List ℕ)
    after = λ a. content new next a (len_at lens' a)

    all_there : chain_bytes new next first_free (length frame) ≡ frame
    all_there = sym (fill_by_all (λ i. slice_index_or new (place next first_free i) 0) frame (length frame) 0 refl (λ k below. sym (written.bytes k below)))

    at_first : after first_free ≡ Some frame
    at_first =
        ap (content new next first_free) (get_or-set_same lens first_free (length frame) 0 here)
        ∙ content_some new next first_free (length frame) least
        ∙ ap (λ (l : List ℕ). Some l) all_there

    at_other : (b : ℕ) → b ≢ first_free → after b ≡ before b
    at_other b other =
        ap (content new next b) (get_or-set_other lens first_free b (length frame) 0 other)
        ∙ content_same bytes new next next b (len_at lens b) (λ i below.
        written.others (block next b (i / 64)) (i % 64) (omega arith) (λ k small same. kept.taken b (i / 64) k (omega (arith, below)) (omega (arith, small, enough)) (sym same)))

-- the lengths up to the first free block are there
longer : (bytes next lens more : List ℕ) (blocks first_free free : ℕ) → IsKept bytes next lens blocks first_free free → 1 ≤ free → more ≡ lens ++ replicate (first_free + 1 - length lens) 0
    → (first_free < length more) × IsSame next lens next more blocks
longer bytes next lens more blocks first_free free kept some is =
    subst (λ (l : List ℕ). (first_free < length l) × IsSame next lens next l blocks) (sym is) (
      omega (arith, length-append lens (replicate count 0), length-replicate {A = ℕ} count 0),
      lens_same next lens blocks count (omega (arith, kept.count, kept.free_within 0 some)),
    )
  where
    count : ℕ
    count = first_free + 1 - length lens

-- the same with names for what was called: the chain that was followed, the bytes that it was written into, the lengths that are there then, how many blocks it needs, the block after it
pub put_kept_by : (bytes next lens new frame follow old all more : List ℕ) (blocks first_free free need end : ℕ) → IsKept bytes next lens blocks first_free free → follow ≡ next → old ≡ bytes → all ≡ new → more ≡ lens ++ replicate (first_free + 1 - length lens) 0
    → IsWritten follow first_free frame old new → need ≡ needed (length frame) → end ≡ block follow first_free (needed (length frame)) → 1 ≤ length frame → length frame ≤ 22591 → need ≤ free
    → IsKept all next (slice_set more first_free (length frame)) blocks end (free - need)
put_kept_by bytes next lens new frame follow old all more blocks first_free free need end kept follow_is old_is all_is more_is written need_is end_is least most enough =
    let written' : IsWritten next first_free frame bytes new = subst (λ (l : List ℕ). IsWritten l first_free frame bytes new) follow_is (subst (λ (l : List ℕ). IsWritten follow first_free frame l new) old_is written) in
    let end' : end ≡ block next first_free (needed (length frame)) = end_is ∙ ap (λ (l : List ℕ). block l first_free (needed (length frame))) follow_is in
    let there = longer bytes next lens more blocks first_free free kept (omega (arith, need_is, least, enough)) more_is in
    subst (λ (l : List ℕ). IsKept l next (slice_set more first_free (length frame)) blocks end (free - need)) (sym all_is)
    (subst (λ (b : ℕ). IsKept new next (slice_set more first_free (length frame)) blocks b (free - need)) (sym end')
    (subst (λ (n : ℕ). IsKept new next (slice_set more first_free (length frame)) blocks (block next first_free (needed (length frame))) (free - n)) (sym need_is)
    (put_kept bytes next more new frame blocks first_free free there.0 (same_kept bytes next lens next more blocks first_free free kept there.1) written' least most (omega (arith, need_is, enough)))))

pub put_shown_by : (r : RegionOf) (bytes next lens new frame follow old all more : List ℕ) (blocks first_free free need : ℕ) → IsKept bytes next lens blocks first_free free → shown bytes next lens blocks free ≡ r → follow ≡ next → old ≡ bytes → all ≡ new → more ≡ lens ++ replicate (first_free + 1 - length lens) 0
    → IsWritten follow first_free frame old new → need ≡ needed (length frame) → 1 ≤ length frame → need ≤ free
    → shown all next (slice_set more first_free (length frame)) blocks (free - need) ≡ with_put first_free frame r
put_shown_by r bytes next lens new frame follow old all more blocks first_free free need kept view follow_is old_is all_is more_is written need_is least enough =
    let written' : IsWritten next first_free frame bytes new = subst (λ (l : List ℕ). IsWritten l first_free frame bytes new) follow_is (subst (λ (l : List ℕ). IsWritten follow first_free frame l new) old_is written) in
    let there = longer bytes next lens more blocks first_free free kept (omega (arith, need_is, least, enough)) more_is in
    ap (λ (l : List ℕ). shown l next (slice_set more first_free (length frame)) blocks (free - need)) all_is
    ∙ put_shown bytes next more new frame blocks first_free free (free - need) there.0 (same_kept bytes next lens next more blocks first_free free kept there.1) written' least (omega (arith, need_is, enough)) (omega (arith, need_is, enough))
    ∙ ap (with_put first_free frame) (same_shown bytes next lens next more blocks free there.1 ∙ view)

-- the slip is new
pub put_new : (r : RegionOf) (bytes next lens : List ℕ) (blocks first_free free : ℕ) → IsKept bytes next lens blocks first_free free → shown bytes next lens blocks free ≡ r → 1 ≤ free → (first_free < length r.held) × (held_at r first_free ≡ None)
put_new r bytes next lens blocks first_free free kept view some =
    subst (λ (q : RegionOf). (first_free < length q.held) × (held_at q first_free ≡ None)) view (
      omega (arith, kept.free_within 0 some, length-map-range_with_len (λ a. content bytes next a (len_at lens a)) 0 blocks),
      shown_at bytes next lens blocks free first_free kept.count ∙ ap (content bytes next first_free) (free_is_new bytes next lens blocks first_free free kept some),
    )
