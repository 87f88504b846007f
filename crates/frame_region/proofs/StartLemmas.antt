use Rattle.std.proofs.Common.{◌≡◌, ◌∙◌, sym, ap, subst, refl, ℕ, zero, suc, ◌+◌, ◌≤◌, List, [], length, replicate, arith, Option, None}
use Rattle.std.proofs.lemmas.List.{get_or-replicate, length-replicate}
use Rattle.std.proofs.lemmas.List.FromFn.{length-map-range_with_len, fill_by_all}
use Rattle.frame_region.specs.Blocks.{block}
use Rattle.frame_region.specs.Regions.{RegionOf, content, len_at, shown, IsKept}
use Rattle.frame_region.proofs.ChainLemmas.{block_next}

-- the free blocks follow each other by their numbers
in_order : (k : ℕ) → block [] 0 k ≡ k
in_order zero = refl
in_order (suc k) =
    ap (block [] 0) {x = suc k} {y = k + 1} (omega arith)
    ∙ sym (block_next [] 0 k)
    ∙ ap (λ b. b + 1) (in_order k)
    ∙ omega arith

start_kept : (blocks : ℕ) → blocks ≤ 1048576 → IsKept [] [] [] blocks 0 blocks
start_kept blocks few = record {
  count = omega arith;
  most = few;
  total = omega arith;
  short = λ a. omega arith;
  within = λ a k below. absurd (omega (arith, below));
  written = λ a k below. absurd (omega (arith, below));
  apart = λ a b i j below_i below_j same. absurd (omega (arith, below_i));
  taken = λ a i j below_i below_j same. omega (arith, below_i);
  free_apart = λ i j below_i below_j same. omega (arith, same, in_order i, in_order j);
  free_within = λ i below. omega (arith, below, in_order i);
}

start_shown : (blocks : ℕ) → shown [] [] [] blocks blocks ≡ record { held = replicate blocks None; free = blocks }
start_shown blocks =
    ap (λ (h : List (Option (List ℕ))). let r : RegionOf = record { held = h; free = blocks } in r)
    (sym (fill_by_all (λ a. content [] [] a 0) (replicate blocks None) blocks None (length-replicate {A = Option (List ℕ)} blocks None) (λ k below. get_or-replicate blocks k None None below)))

-- the same with names for the lists, which are empty
abbrev IsStart : List ℕ → List ℕ → List ℕ → ℕ → Type 0
IsStart bytes next lens blocks = IsKept bytes next lens blocks 0 blocks × (shown bytes next lens blocks blocks ≡ record { held = replicate blocks None; free = blocks })

pub start_by : (bytes next lens : List ℕ) (blocks : ℕ) → blocks ≤ 1048576 → bytes ≡ [] → next ≡ [] → lens ≡ []
    → IsStart bytes next lens blocks
start_by bytes next lens blocks few no_bytes no_next no_lens =
    subst (λ (l : List ℕ). IsStart l next lens blocks) (sym no_bytes)
    (subst (λ (l : List ℕ). IsStart [] l lens blocks) (sym no_next)
    (subst (λ (l : List ℕ). IsStart [] [] l blocks) (sym no_lens) (start_kept blocks few, start_shown blocks)))

-- how many blocks are free, at most
pub free_most : (r : RegionOf) (bytes next lens : List ℕ) (blocks first_free free : ℕ) → IsKept bytes next lens blocks first_free free → shown bytes next lens blocks free ≡ r → r.free ≤ length r.held
free_most r bytes next lens blocks first_free free kept view =
    subst (λ (q : RegionOf). q.free ≤ length q.held) view
    (omega (arith, kept.total, length-map-range_with_len (λ a. content bytes next a (len_at lens a)) 0 blocks))
