use Rattle.std.proofs.Common.{◌≡◌, ◌∙◌, sym, ap, refl, ℕ, zero, suc, ◌+◌, ◌-◌, ◌*◌, ◌/◌, ◌%◌, min, ◌<◌, ◌≤◌, List, ◌++◌, length, take, drop, arith, slice_index_or, ◌⊎◌, inl, inr}
use Rattle.std.specs.List.{range_with_len, flat_map}
use Rattle.std.proofs.lemmas.Bool.{cases_lt}
use Rattle.std.proofs.lemmas.List.{ext_get_or, get_or-take, get_or-drop, get_or_append_left, get_or-append_right, length-take, length-drop, length-append, drop-drop, take_all}
use Rattle.std.proofs.lemmas.List.FromFn.{length-map-range_with_len, get_or-map-range_with_len, fill_by_all}
use Rattle.std.proofs.Math.Seq.{take-add}
use Rattle.frame_region.specs.Blocks.{block, place, chain_bytes}
use Rattle.frame_region.specs.Sizes.{needed, blocks_of}
use Rattle.frame_region.specs.Regions.{piece_of}

-- byte number j of a chain lies in block k, where that is the one
place_in : (bytes next : List ℕ) (first j k : ℕ) → 64 * k ≤ j → j < 64 * k + 64 → slice_index_or bytes (64 * block next first k + (j - 64 * k)) 0 ≡ slice_index_or bytes (place next first j) 0
place_in bytes next first j k low high =
    ap (λ q. slice_index_or bytes (64 * block next first q + (j - 64 * k)) 0) {x = k} {y = j / 64} (omega (arith, low, high))
    ∙ ap (λ q. slice_index_or bytes (64 * block next first (j / 64) + q) 0) {x = j - 64 * k} {y = j % 64} (omega (arith, low, high))

-- One turn of reading a chain: the front of block number k follows what was read before
pub gather_more : (bytes next front : List ℕ) (first k len : ℕ) → k < needed len → length front ≡ min 64 (len - 64 * k)
    → ((m : ℕ) → m < length front → slice_index_or front m 0 ≡ slice_index_or bytes (64 * block next first k + m) 0)
    → chain_bytes bytes next first (min (64 * k) len) ++ front ≡ chain_bytes bytes next first (min (64 * (k + 1)) len)
gather_more bytes next front first k len below long fronts =
    fill_by_all f (before ++ front) (min (64 * (k + 1)) len) 0 (omega (arith, length-append before front, length_before, long, below)) (λ j small. by j small (cases_lt j (64 * k)))
  where
    f : ℕ → ℕ
    f = λ i. slice_index_or bytes (place next first i) 0

    before : List ℕ
    before = chain_bytes bytes next first (min (64 * k) len)

    length_before : length before ≡ 64 * k
    length_before = length-map-range_with_len f 0 (min (64 * k) len) ∙ omega (arith, below)

    by : (j : ℕ) → j < min (64 * (k + 1)) len → (j < 64 * k) ⊎ (64 * k ≤ j) → slice_index_or (before ++ front) j 0 ≡ f j
    by j small (inl read) = get_or_append_left before front 0 j (omega (arith, read, length_before)) ∙ get_or-map-range_with_len f 0 (min (64 * k) len) j j 0 (omega (arith, read, below)) (omega arith)
    by j small (inr here) =
        get_or-append_right before front (64 * k) j 0 length_before here
        ∙ fronts (j - 64 * k) (omega (arith, small, here, long))
        ∙ place_in bytes next first j k here (omega (arith, small))

-- the front of block number i is piece number i
pub piece_made : (bytes next all piece : List ℕ) (first i len left : ℕ) → all ≡ chain_bytes bytes next first len → left ≡ len - 64 * i → length piece ≡ min 64 left
    → ((m : ℕ) → m < length piece → slice_index_or piece m 0 ≡ slice_index_or bytes (64 * block next first i + m) 0) → piece ≡ piece_of i all
piece_made bytes next all piece first i len left is rest long fronts =
    ext_get_or 0 piece (piece_of i all) (omega (arith, long, rest, length-take 64 (drop (64 * i) all), length-drop (64 * i) all, length_all)) by
  where
    f : ℕ → ℕ
    f = λ j. slice_index_or bytes (place next first j) 0

    length_all : length all ≡ len
    length_all = ap length is ∙ length-map-range_with_len f 0 len

    by : (m : ℕ) → m < length piece → slice_index_or piece m 0 ≡ slice_index_or (piece_of i all) m 0
    by m small =
        fronts m small
        ∙ ap (λ q. slice_index_or bytes (64 * block next first i + q) 0) {x = m} {y = 64 * i + m - 64 * i} (omega arith)
        ∙ place_in bytes next first (64 * i + m) i (omega arith) (omega (arith, small, long))
        ∙ sym (get_or-map-range_with_len f 0 len (64 * i + m) (64 * i + m) 0 (omega (arith, small, long, rest)) (omega arith))
        ∙ ap (λ (l : List ℕ). slice_index_or l (64 * i + m) 0) (sym is)
        ∙ sym (get_or-drop (64 * i) all m 0)
        ∙ sym (get_or-take 64 (drop (64 * i) all) m 0 (omega (arith, small, long)))

-- so many pieces from a place on
pieces_from : (bytes : List ℕ) (a n : ℕ) → flat_map (λ i. piece_of i bytes) (range_with_len a n) ≡ take (64 * n) (drop (64 * a) bytes)
pieces_from bytes a zero = refl
pieces_from bytes a (suc n) =
    ap (λ (l : List ℕ). piece_of a bytes ++ l) (pieces_from bytes (a + 1) n)
    ∙ ap (λ (l : List ℕ). piece_of a bytes ++ take (64 * n) l) (ap (λ q. drop q bytes) {x = 64 * (a + 1)} {y = 64 * a + 64} (omega arith) ∙ sym (drop-drop 64 (64 * a) bytes))
    ∙ sym (take-add 64 (64 * n) (drop (64 * a) bytes))
    ∙ ap (λ q. take q (drop (64 * a) bytes)) {x = 64 + 64 * n} {y = 64 * suc n} (omega arith)

pub pieces_join : (bytes : List ℕ) → flat_map (λ i. piece_of i bytes) (range_with_len 0 (blocks_of bytes)) ≡ bytes
pieces_join bytes = pieces_from bytes 0 (blocks_of bytes) ∙ take_all (64 * blocks_of bytes) bytes (omega arith)
