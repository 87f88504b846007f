use Rattle.std.proofs.Common.{◌≡◌, ◌∙◌, sym, ap, refl, ℕ, ◌+◌, ◌-◌, ◌<◌, List, [], ◌∷◌, arith, length, length-take, take, drop, Some, None, not, eqb, true}
use Rattle.std.specs.Prelude.{filter}
use Rattle.std.proofs.lemmas.Bool.Decides.{nat_tests}
use Rattle.std.specs.List.{position, position_or_len, slice_split}
use Rattle.common_lines.specs.Lines.{is_blank, parts_of}
use Rattle.table_script.proofs.PartLemmas.{first_place, split_at, split_none}

-- the parts that are not empty
abbrev pub are_some : List (List ℕ) → List (List ℕ)
are_some = filter (λ w. not (eqb (length w) 0))

some_first : (w : List ℕ) (ws : List (List ℕ)) → 0 < length w → are_some (w ∷ ws) ≡ w ∷ are_some ws
some_first w ws some =
    let kept : not (eqb (length w) 0) ≡ true = grind (arith, nat_tests) in
    rw kept refl

none_first : (w : List ℕ) (ws : List (List ℕ)) → length w ≡ 0 → are_some (w ∷ ws) ≡ are_some ws
none_first [] ws none = refl
none_first (x ∷ w) ws none = absurd (omega (arith, none))

-- the words of a text that begins with a blank
pub blank_first : (xs : List ℕ) → position is_blank xs ≡ Some 0 → parts_of xs ≡ parts_of (take (length xs - 1) (drop 1 xs))
blank_first xs at =
    ap are_some (split_at is_blank xs 0 at) ∙ none_first (take 0 xs) (slice_split is_blank (take (length xs - 1) (drop 1 xs))) (let e = length-take 0 xs in omega (arith, e))

-- of one whose first blank is behind a word
pub word_first : (xs : List ℕ) (i : ℕ) → position is_blank xs ≡ Some i → 0 < i → parts_of xs ≡ take i xs ∷ parts_of (take (length xs - (i + 1)) (drop (i + 1) xs))
word_first xs i at some =
    let h = first_place (position_or_len is_blank xs) (length xs) i at in
    let is = h.0 in
    let low = h.1 in
    let e = length-take i xs in
    ap are_some (split_at is_blank xs i at) ∙ some_first (take i xs) (slice_split is_blank (take (length xs - (i + 1)) (drop (i + 1) xs))) (omega (arith, e, is, low, some))

-- and of one without a blank
no_words : (xs : List ℕ) → length xs ≡ 0 → parts_of xs ≡ []
no_words [] none = refl
no_words (x ∷ xs) none = absurd (omega (arith, none))

pub word_last : (xs : List ℕ) → position is_blank xs ≡ None → 0 < length xs → parts_of xs ≡ xs ∷ parts_of (take (length xs - length xs) (drop (length xs) xs))
word_last xs none some =
    let e = length-take (length xs - length xs) (drop (length xs) xs) in
    ap are_some (split_none is_blank xs none) ∙ some_first xs [] some ∙ ap (λ (ws : List (List ℕ)). xs ∷ ws) (sym (no_words (take (length xs - length xs) (drop (length xs) xs)) (omega (arith, e))))

pub word_none : (xs : List ℕ) → position is_blank xs ≡ None → length xs ≡ 0 → parts_of xs ≡ []
word_none xs none empty = ap are_some (split_none is_blank xs none) ∙ none_first xs [] empty
