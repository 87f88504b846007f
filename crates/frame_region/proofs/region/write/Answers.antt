use Rattle.std.proofs.Common.{ℕ, ◌≡◌, ◌≢◌, ◌∙◌, sym, ap, ◌+◌, ◌-◌, ◌*◌, ◌<◌, ◌≤◌, ◌⊎◌, inl, inr, List, ◌++◌, length, take, drop, arith, slice_index_or}
use Rattle.std.proofs.lemmas.Bool.{cases_lt}
use Rattle.std.proofs.lemmas.List.{get_or-take, get_or-drop, get_or_append_left, get_or-append_right, get_or_past, length-take, length-drop, length-append}
use borrow.Rule.Slice.PartMut.{put_mid, post_of}
use Rattle.frame_region.proofs.ShownLemmas.{zeros_more}
use Rattle.frame_region.proofs.region.write.Goals as goal

-- what stands where a piece was written into the bytes, and where it was not
reads : (a k n i : ℕ) (old piece rest : List ℕ) → length piece ≡ k → a + k ≤ n → length old ≡ n → i < n
    → slice_index_or (take n (put_mid a k old piece ++ rest)) i 0 ≡ slice_index_or (put_mid a k old piece) i 0
reads a k n i old piece rest long within count below =
    get_or-take n (put_mid a k old piece ++ rest) i 0 below
    ∙ get_or_append_left (put_mid a k old piece) rest 0 i (omega (arith, length-append (take a old) (piece ++ post_of a k old), length-append piece (post_of a k old), length-take a old, length-drop k (drop a old), length-drop a old, long, within, count, below))

at_piece : (a k m : ℕ) (old piece : List ℕ) → length piece ≡ k → a + k ≤ length old → m < k
    → slice_index_or (put_mid a k old piece) (a + m) 0 ≡ slice_index_or piece m 0
at_piece a k m old piece long within below =
    get_or-append_right (take a old) (piece ++ post_of a k old) a (a + m) 0 (omega (arith, length-take a old, within)) (omega arith)
    ∙ ap (λ i. slice_index_or (piece ++ post_of a k old) i 0) {x = a + m - a} {y = m} (omega arith)
    ∙ get_or_append_left piece (post_of a k old) 0 m (omega (arith, long, below))

before_piece : (a k i : ℕ) (old piece : List ℕ) → a + k ≤ length old → i < a → slice_index_or (put_mid a k old piece) i 0 ≡ slice_index_or old i 0
before_piece a k i old piece within below =
    get_or_append_left (take a old) (piece ++ post_of a k old) 0 i (omega (arith, length-take a old, within, below))
    ∙ get_or-take a old i 0 below

after_piece : (a k i : ℕ) (old piece : List ℕ) → length piece ≡ k → a + k ≤ length old → a + k ≤ i → slice_index_or (put_mid a k old piece) i 0 ≡ slice_index_or old i 0
after_piece a k i old piece long within above =
    get_or-append_right (take a old) (piece ++ post_of a k old) a i 0 (omega (arith, length-take a old, within)) (omega (arith, above))
    ∙ get_or-append_right piece (post_of a k old) k (i - a) 0 long (omega (arith, above))
    ∙ get_or-drop k (drop a old) (i - a - k) 0
    ∙ get_or-drop a old (k + (i - a - k)) 0
    ∙ ap (λ j. slice_index_or old j 0) {x = a + (k + (i - a - k))} {y = i} (omega (arith, above))

-- a byte of another block is as before
elsewhere : (block k n b m : ℕ) (old piece rest : List ℕ) → length piece ≡ k → k ≤ 64 → 64 * block + 64 ≤ n → length old ≡ n → m < 64 → b ≢ block
    → slice_index_or (take n (put_mid (64 * block) k old piece ++ rest)) (64 * b + m) 0 ≡ slice_index_or old (64 * b + m) 0
elsewhere block k n b m old piece rest long most within count small other = by (cases_lt (64 * b + m) n) (cases_lt b block)
  where
    by : (64 * b + m < n) ⊎ (n ≤ 64 * b + m) → (b < block) ⊎ (block ≤ b)
        → slice_index_or (take n (put_mid (64 * block) k old piece ++ rest)) (64 * b + m) 0 ≡ slice_index_or old (64 * b + m) 0
    by (inr past) _ =
        get_or_past (take n (put_mid (64 * block) k old piece ++ rest)) (64 * b + m) 0 (omega (arith, length-take n (put_mid (64 * block) k old piece ++ rest), past))
        ∙ sym (get_or_past old (64 * b + m) 0 (omega (arith, count, past)))
    by (inl below) (inl before) =
        reads (64 * block) k n (64 * b + m) old piece rest long (omega (arith, most, within)) count below
        ∙ before_piece (64 * block) k (64 * b + m) old piece (omega (arith, most, within, count)) (omega (arith, before, small))
    by (inl below) (inr from) =
        reads (64 * block) k n (64 * b + m) old piece rest long (omega (arith, most, within)) count below
        ∙ after_piece (64 * block) k (64 * b + m) old piece long (omega (arith, most, within, count)) (omega (arith, from, other, most))

pub returns-clause-piece : goal.returns-clause-piece
returns-clause-piece c = λ m below.
    let a = 64 * c.args.block in
    let k = a + length c.args.piece.now - a in
    let old = c.deref_mut.result.now in
    let new = c.copy_from_slice.new.self in
    let many : length new ≡ k = ap length c.copy_from_slice.ensures.after ∙ omega arith in
    let count : length old ≡ c.reach.new.list.len = c.deref_mut.ensures.len in
    let within : a + 64 ≤ length old = omega (arith, c.reach.ensures.end, ap length c.deref_mut.ensures.value) in
    let most : k ≤ 64 = omega (arith, c.requires.most) in
    reads a k c.reach.new.list.len (a + m) old new (drop (length (put_mid a k old new)) c.reach.new.list.items) many (omega (arith, within, most, count)) count (omega (arith, within, most, count, below))
    ∙ at_piece a k m old new many (omega (arith, within, most)) (omega (arith, below))
    ∙ ap (λ (l : List ℕ). slice_index_or l m 0) c.copy_from_slice.ensures.after

pub returns-clause-others : goal.returns-clause-others
returns-clause-others c = λ b m small other.
    let a = 64 * c.args.block in
    let k = a + length c.args.piece.now - a in
    let old = c.deref_mut.result.now in
    let new = c.copy_from_slice.new.self in
    let many : length new ≡ k = ap length c.copy_from_slice.ensures.after ∙ omega arith in
    let within : a + 64 ≤ c.reach.new.list.len = omega (arith, c.reach.ensures.end, ap length c.deref_mut.ensures.value, c.deref_mut.ensures.len) in
    elsewhere c.args.block k c.reach.new.list.len b m old new (drop (length (put_mid a k old new)) c.reach.new.list.items) many (omega (arith, c.requires.most)) within c.deref_mut.ensures.len small other
    ∙ ap (λ (l : List ℕ). slice_index_or l (64 * b + m) 0) c.deref_mut.ensures.value
    ∙ ap (λ (l : List ℕ). slice_index_or l (64 * b + m) 0) c.reach.ensures.items
    ∙ zeros_more _ _ (64 * b + m)
