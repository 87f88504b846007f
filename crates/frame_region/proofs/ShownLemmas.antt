use Rattle.std.proofs.Common.{◌≡◌, ◌≢◌, ◌∙◌, sym, ap, subst, refl, ℕ, zero, suc, ◌+◌, ◌-◌, ◌*◌, ◌/◌, ◌%◌, ◌<◌, ◌≤◌, List, [], ◌++◌, length, map, replicate, arith, slice_index_or, slice_set, Option, Some, None, unwrap_or, IsSome, ◌⊎◌, inl, inr}
use Rattle.std.specs.List.{range_with_len, sum_by}
use Rattle.std.proofs.lemmas.Bool.{cases_eq, cases_lt}
use Rattle.std.proofs.lemmas.List.{get_or-set_other, get_or-set_same, get_or_past, get_or_append_left, get_or-append_right, get_or-replicate, length-set, length-append, length-replicate}
use Rattle.std.proofs.lemmas.List.Folds.{sum_by-replicate}
use Rattle.std.proofs.lemmas.List.Sums.{sum_by-append}
use Rattle.std.proofs.lemmas.List.FromFn.{length-map-range_with_len, get_or-map-range_with_len, fill_by_all}
use Rattle.frame_region.specs.Blocks.{after, block, place, chain_bytes}
use Rattle.frame_region.specs.Sizes.{needed}
use Rattle.frame_region.specs.Regions.{RegionOf, held_at, bytes_at, content, len_at, count_at, shown, IsKept}
use Rattle.frame_region.proofs.ChainLemmas.{block_same}

-- a list made of a function, with one more value, is made of another function that differs there alone
pub set_made : {X : Type 0} (f g : ℕ → X) (n a : ℕ) (v : X) → a < n → f a ≡ v → ((b : ℕ) → b < n → b ≢ a → f b ≡ g b)
    → slice_set (map g (range_with_len 0 n)) a v ≡ map f (range_with_len 0 n)
set_made f g n a v below here others =
    fill_by_all f _ n v (length-set (map g (range_with_len 0 n)) a v ∙ length-map-range_with_len g 0 n) (λ k within. by k within (cases_eq k a))
  where
    by : (k : ℕ) → k < n → (k ≡ a) ⊎ (k ≡ a → ⊥) → slice_index_or (slice_set (map g (range_with_len 0 n)) a v) k v ≡ f k
    by k within (inl same) =
        ap (λ q. slice_index_or (slice_set (map g (range_with_len 0 n)) a v) q v) same
        ∙ get_or-set_same (map g (range_with_len 0 n)) a v v (omega (arith, below, length-map-range_with_len g 0 n))
        ∙ sym here ∙ ap f (sym same)
    by k within (inr other) =
        get_or-set_other (map g (range_with_len 0 n)) a k v v other
        ∙ get_or-map-range_with_len g 0 n k k v within (omega arith)
        ∙ sym (others k within other)

-- what lies in two chains of as many bytes is the same where each byte is
pub content_same : (old new next follow : List ℕ) (first n : ℕ) → ((i : ℕ) → i < n → slice_index_or new (place follow first i) 0 ≡ slice_index_or old (place next first i) 0)
    → content new follow first n ≡ content old next first n
content_same old new next follow first zero same = refl
content_same old new next follow first (suc n) same =
    ap (λ (l : List ℕ). Some l) (sym (fill_by_all (λ i. slice_index_or new (place follow first i) 0) (chain_bytes old next first (suc n)) (suc n) 0 (length-map-range_with_len (λ i. slice_index_or old (place next first i) 0) 0 (suc n))
    (λ k below. get_or-map-range_with_len (λ i. slice_index_or old (place next first i) 0) 0 (suc n) k k 0 below (omega arith) ∙ sym (same k below))))

-- some bytes lie in a chain
pub content_some : (bytes next : List ℕ) (first n : ℕ) → 1 ≤ n → content bytes next first n ≡ Some (chain_bytes bytes next first n)
content_some bytes next first zero some = absurd (omega (arith, some))
content_some bytes next first (suc n) some = refl

content_bytes : (bytes next : List ℕ) (first n : ℕ) → unwrap_or (content bytes next first n) [] ≡ chain_bytes bytes next first n
content_bytes bytes next first zero = refl
content_bytes bytes next first (suc n) = refl

content_is_some : (bytes next : List ℕ) (first n : ℕ) → IsSome (content bytes next first n) → 1 ≤ n
content_is_some bytes next first zero h = absurd (cc)
content_is_some bytes next first (suc n) h = omega arith

-- what is under a slip: what lies in its chain
pub shown_at : (bytes next lens : List ℕ) (blocks free a : ℕ) → length lens ≤ blocks → held_at (shown bytes next lens blocks free) a ≡ content bytes next a (len_at lens a)
shown_at bytes next lens blocks free a short = by (cases_lt a blocks)
  where
    f : ℕ → Option (List ℕ)
    f = λ b. content bytes next b (len_at lens b)

    by : (a < blocks) ⊎ (blocks ≤ a) → held_at (shown bytes next lens blocks free) a ≡ content bytes next a (len_at lens a)
    by (inl below) = get_or-map-range_with_len (λ b. content bytes next b (len_at lens b)) 0 blocks a a None below (omega arith)
    by (inr past) =
        get_or_past (map (λ b. content bytes next b (len_at lens b)) (range_with_len 0 blocks)) a None (omega (arith, past, length-map-range_with_len (λ b. content bytes next b (len_at lens b)) 0 blocks))
        ∙ ap (content bytes next a) {x = 0} {y = len_at lens a} (sym (get_or_past lens a 0 (omega (arith, past, short))))

-- a slip that a region has, in the blocks
pub record IsUnder (r : RegionOf) (bytes next lens : List ℕ) (slip first : ℕ) : Type 0 where
  pub some : 1 ≤ len_at lens first
  pub below : first < length lens
  pub all : bytes_at r slip ≡ chain_bytes bytes next first (len_at lens first)
  pub len : length (bytes_at r slip) ≡ len_at lens first

under_first : (r : RegionOf) (bytes next lens : List ℕ) (blocks free slip : ℕ) → length lens ≤ blocks → shown bytes next lens blocks free ≡ r → IsSome (held_at r slip) → IsUnder r bytes next lens slip slip
under_first r bytes next lens blocks free slip short view has =
    let here : held_at r slip ≡ content bytes next slip (len_at lens slip) = ap (λ (q : RegionOf). held_at q slip) (sym view) ∙ shown_at bytes next lens blocks free slip short in
    let some : 1 ≤ len_at lens slip = content_is_some bytes next slip (len_at lens slip) (rw here at has) in
    let all : bytes_at r slip ≡ chain_bytes bytes next slip (len_at lens slip) = ap (λ (o : Option (List ℕ)). unwrap_or o []) here ∙ content_bytes bytes next slip (len_at lens slip) in
    record {
      some = some;
      below = by (cases_lt slip (length lens)) some;
      all = all;
      len = ap length all ∙ length-map-range_with_len (λ i. slice_index_or bytes (place next slip i) 0) 0 (len_at lens slip);
    }
  where
    by : (slip < length lens) ⊎ (length lens ≤ slip) → 1 ≤ len_at lens slip → slip < length lens
    by (inl below) some = below
    by (inr past) some = absurd (omega (arith, some, get_or_past lens slip 0 past))

pub under : (r : RegionOf) (bytes next lens : List ℕ) (blocks first_free free slip first : ℕ) → IsKept bytes next lens blocks first_free free → shown bytes next lens blocks free ≡ r → first ≡ slip → IsSome (held_at r slip) → IsUnder r bytes next lens slip first
under r bytes next lens blocks first_free free slip first kept view same has =
    subst (λ (q : ℕ). IsUnder r bytes next lens slip q) (sym same) (under_first r bytes next lens blocks free slip kept.count view has)

-- Other lists that show the same: the same follows each block, and the same byte strings begin
pub record IsSame (next lens follow longer : List ℕ) (blocks : ℕ) : Type 0 where
  pub chains : (b : ℕ) → after follow b ≡ after next b
  pub begins : (a : ℕ) → len_at longer a ≡ len_at lens a
  pub count : length longer ≤ blocks
  pub total : sum_by needed longer ≡ sum_by needed lens

pub same_kept : (bytes next lens follow longer : List ℕ) (blocks first_free free : ℕ) → IsKept bytes next lens blocks first_free free → IsSame next lens follow longer blocks → IsKept bytes follow longer blocks first_free free
same_kept bytes next lens follow longer blocks first_free free kept same =
    record {
      count = same.count;
      most = kept.most;
      total = omega (arith, same.total, kept.total);
      short = λ a. omega (arith, same.begins a, kept.short a);
      within = λ a k below. omega (arith, chain a k, kept.within a k (few a k below));
      written = λ a k below. omega (arith, chain a k, kept.written a k (few a k below));
      apart = λ a b i j below_i below_j is. kept.apart a b i j (few a i below_i) (few b j below_j) (sym (chain a i) ∙ is ∙ chain b j);
      taken = λ a i j below_i below_j is. kept.taken a i j (few a i below_i) below_j (sym (chain a i) ∙ is ∙ chain first_free j);
      free_apart = λ i j below_i below_j is. kept.free_apart i j below_i below_j (sym (chain first_free i) ∙ is ∙ chain first_free j);
      free_within = λ i below. omega (arith, chain first_free i, kept.free_within i below);
    }
  where
    chain : (a k : ℕ) → block follow a k ≡ block next a k
    chain = block_same next follow same.chains

    few : (a k : ℕ) → k < count_at longer a → k < count_at lens a
    few a k below = omega (arith, below, ap needed (same.begins a))

pub same_shown : (bytes next lens follow longer : List ℕ) (blocks free : ℕ) → IsSame next lens follow longer blocks → shown bytes follow longer blocks free ≡ shown bytes next lens blocks free
same_shown bytes next lens follow longer blocks free same =
    ap (λ (h : List (Option (List ℕ))). let r : RegionOf = record { held = h; free = free } in r)
    (fill_by_all before (map after' (range_with_len 0 blocks)) blocks None (length-map-range_with_len after' 0 blocks) (λ k below. get_or-map-range_with_len after' 0 blocks k k None below (omega arith) ∙ at k))
  where
    before : ℕ → Option (List ℕ)
    before = λ a. content bytes next a (len_at lens a)

    after' : ℕ → Option (List ℕ)
    after' = λ a. content bytes follow a (len_at longer a)

    at : (a : ℕ) → after' a ≡ before a
    at a =
        ap (content bytes follow a) (same.begins a)
        ∙ content_same bytes bytes next follow a (len_at lens a) (λ i below. ap (λ q. slice_index_or bytes (64 * q + i % 64) 0) (block_same next follow same.chains a (i / 64)))

-- the blocks name more of those that follow
pub names_same : (next follow lens : List ℕ) (blocks : ℕ) → length lens ≤ blocks → ((b : ℕ) → after follow b ≡ after next b) → IsSame next lens follow lens blocks
names_same next follow lens blocks short chains = record { chains = chains; begins = λ a. refl; count = short; total = refl }

-- zeros at the end are as good as nothing
pub zeros_more : (l : List ℕ) (n a : ℕ) → slice_index_or (l ++ replicate n 0) a 0 ≡ slice_index_or l a 0
zeros_more l n a = by (cases_lt a (length l)) (cases_lt a (length l + n))
  where
    by : (a < length l) ⊎ (length l ≤ a) → (a < length l + n) ⊎ (length l + n ≤ a) → slice_index_or (l ++ replicate n 0) a 0 ≡ slice_index_or l a 0
    by (inl old) _ = get_or_append_left l (replicate n 0) 0 a old
    by (inr new) (inl below) =
        get_or-append_right l (replicate n 0) (length l) a 0 refl new
        ∙ get_or-replicate n (a - length l) 0 0 (omega (arith, below, new))
        ∙ sym (get_or_past l a 0 new)
    by (inr new) (inr past) =
        get_or_past (l ++ replicate n 0) a 0 (omega (arith, past, length-append l (replicate n 0), length-replicate {A = ℕ} n 0))
        ∙ sym (get_or_past l a 0 new)

-- more lengths are there
pub lens_same : (next lens : List ℕ) (blocks n : ℕ) → length lens + n ≤ blocks → IsSame next lens next (lens ++ replicate n 0) blocks
lens_same next lens blocks n short = record {
  chains = λ b. refl;
  begins = λ a. zeros_more lens n a;
  count = omega (arith, short, length-append lens (replicate n 0), length-replicate {A = ℕ} n 0);
  total = omega (arith, sum_by-append needed lens (replicate n 0), sum_by-replicate needed n 0);
}
