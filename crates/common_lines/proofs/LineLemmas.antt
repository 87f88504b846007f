use Rattle.std.proofs.Common.{◌≡◌, ◌∙◌, sym, ap, refl, ℕ, ◌+◌, ◌-◌, ◌<◌, ◌≤◌, List, [], ◌∷◌, ◌++◌, arith, length, length-take, get_or, take, drop, drop-cons, add-one, Option, Some, None, Bool, true, false, ◌&&◌, eqb, ltb, All, cond}
use Rattle.std.specs.List.{slice_split, position, before_first, position_or_len, list_all}
use Rattle.std.specs.Str.Lines.{lines_of_parts, strip_carriage_return}
use Rattle.std.proofs.lemmas.Bool.{false_from_ne_true}
use Rattle.std.proofs.lemmas.List.{nil_from_length, get_or-take, take_all, take_more, take_rest, drop_all, take-append-drop}
use Rattle.std.proofs.lemmas.List.Elements.{All-from_get_or}
use Rattle.std.proofs.lemmas.List.Quantifiers.{position-Some}
use Rattle.std.proofs.lemmas.List.Splits.{slice_split_none, slice_split_at, length-slice_split}
use Rattle.std.proofs.lemmas.List.Folds.{list_all-append}
use Rattle.std.proofs.lemmas.List.Sums.{fails_before_first, position_or_len_is}
use Rattle.std.proofs.lemmas.Bool.Decides.{nat_tests, Decides-eqb}
use Rattle.memchr.specs.Find.{IsFirstByte, is_byte}
use Rattle.common_lines.specs.Lines.{lines_of}

-- a test of one byte more
last_and : (a b : Bool) → (a && (b && true)) ≡ (a && b)
last_and true true = refl
last_and true false = refl
last_and false b = refl

pub fit_more : (p : ℕ → Bool) (xs : List ℕ) (i : ℕ) (fit b : Bool) → i < length xs → fit ≡ list_all p (take i xs) → b ≡ p (get_or xs i 0) → (fit && b) ≡ list_all p (take (i + 1) xs)
fit_more p xs i fit b low was is = rw (was, is) (sym (ap (list_all p) (take_more xs i 0 low) ∙ list_all-append p (take i xs) (get_or xs i 0 ∷ []) ∙ last_and (list_all p (take i xs)) (p (get_or xs i 0))))

-- the first place that a search finds
pub first_position : (byte : ℕ) (xs : List ℕ) (r : Option ℕ) → IsFirstByte (is_byte byte) xs r → r ≡ position (λ c. eqb c byte) xs
first_position byte xs None none =
    let past = position_or_len_is (λ c. eqb c byte) xs (length xs) 0 (omega arith) (λ k low. false_from_ne_true (eqb (get_or xs k 0) byte) (none k (omega arith) low)) (λ low. absurd (omega arith)) in
    rw past (grind (arith, nat_tests))
first_position byte xs (Some k) (first, is) =
    let high = first.high in
    let at = position_or_len_is (λ c. eqb c byte) xs k 0 (omega arith) (λ j low. false_from_ne_true (eqb (get_or xs j 0) byte) (first.before j (omega arith) low)) (λ low. is) in
    rw at (grind (arith, nat_tests))

-- a line feed
abbrev pub is_feed : ℕ → Bool
is_feed c = eqb c 10

-- there is a part after the last line feed
pub parts_some : (xs : List ℕ) → 0 < length (slice_split is_feed xs)
parts_some xs = omega (arith, length-slice_split is_feed xs)

-- the first line of parts of which there are two or more
pub first_of_parts : (x : List ℕ) (parts : List (List ℕ)) → 0 < length parts → lines_of_parts (x ∷ parts) ≡ strip_carriage_return x ∷ lines_of_parts parts
first_of_parts x [] some = absurd (omega arith)
first_of_parts x (y ∷ more) some = refl

-- a place that a test tells
past_place : (k n len : ℕ) → cond (ltb n len) (Some n) None ≡ None → k < len → k < n
past_place k n len e low = grind (arith, nat_tests)

-- where no element passes there is no place
pub position_none : {X : Type 0} (p : X → Bool) (xs : List X) (d : X) → position p xs ≡ None → (k : ℕ) → k < length xs → p (get_or xs k d) ≡ false
position_none p xs d none k within = fails_before_first p xs k d (past_place k (position_or_len p xs) (length xs) none within)

-- the first line, where a line feed ends it
pub line_at_feed : (bytes : List ℕ) (i : ℕ) → position is_feed bytes ≡ Some i → lines_of bytes ≡ strip_carriage_return (take i bytes) ∷ lines_of (drop (i + 1) bytes)
unfolding lines_of
line_at_feed bytes i at =
    let here = position-Some is_feed bytes i 0 at in
    let within : i < length bytes = here.0 in
    let feed : get_or bytes i 0 ≡ 10 = (Decides-eqb (get_or bytes i 0) 10).0 here.1 in
    let rest : drop i bytes ≡ 10 ∷ drop (i + 1) bytes = rw (add-one, drop-cons bytes i 0 within, feed) refl in
    let parts : bytes ≡ take i bytes ++ 10 ∷ drop (i + 1) bytes = sym (take-append-drop i bytes) ∙ ap (λ (xs : List ℕ). take i bytes ++ xs) rest in
    let free : All (λ c. is_feed c ≡ false) (take i bytes) = All-from_get_or (λ c. is_feed c ≡ false) (take i bytes) 0 (λ k low. let below : k < i = omega (arith, length-take i bytes) in ap is_feed (get_or-take i bytes k 0 below) ∙ here.2 k below) in
    ap (λ (xs : List ℕ). lines_of_parts (slice_split is_feed xs)) parts
    ∙ ap lines_of_parts (slice_split_at is_feed (take i bytes) 10 (drop (i + 1) bytes) free refl)
    ∙ first_of_parts (take i bytes) (slice_split is_feed (drop (i + 1) bytes)) (parts_some (drop (i + 1) bytes))

-- where some bytes have no line feed they are the one line
only_line : (x : List ℕ) → 0 < length x → lines_of_parts (x ∷ []) ≡ x ∷ []
only_line x some = grind (arith, nat_tests)

pub line_without_feed : (bytes after : List ℕ) → position is_feed bytes ≡ None → 0 < length bytes → after ≡ [] → lines_of bytes ≡ bytes ∷ lines_of after
unfolding lines_of
line_without_feed bytes after none some past =
    ap lines_of_parts (slice_split_none is_feed bytes (All-from_get_or (λ c. is_feed c ≡ false) bytes 0 (position_none is_feed bytes 0 none)))
    ∙ only_line bytes some
    ∙ rw past refl

-- without bytes there are no lines
pub no_lines : (bytes : List ℕ) → length bytes ≡ 0 → lines_of bytes ≡ []
unfolding lines_of
no_lines bytes none = rw (nil_from_length bytes none) refl

-- nothing stands after the last byte
pub nothing_after : (bytes : List ℕ) → take (length bytes - length bytes) (drop (length bytes) bytes) ≡ []
nothing_after bytes = take_rest bytes (length bytes) ∙ drop_all (length bytes) bytes (omega arith)

-- what stands before the first element that passes
place_is : (n len i : ℕ) → cond (ltb n len) (Some n) None ≡ Some i → n ≡ i
place_is n len i e = grind (arith, nat_tests)

place_past : (n len : ℕ) → cond (ltb n len) (Some n) None ≡ None → len ≤ n
place_past n len e = grind (arith, nat_tests)

pub before_some : (p : ℕ → Bool) (xs : List ℕ) (i : ℕ) → position p xs ≡ Some i → take i xs ≡ before_first p xs
before_some p xs i at = ap (λ (n : ℕ). take n xs) (sym (place_is (position_or_len p xs) (length xs) i at))

pub before_none : (p : ℕ → Bool) (xs : List ℕ) → position p xs ≡ None → xs ≡ before_first p xs
before_none p xs none = sym (take_all (position_or_len p xs) xs (place_past (position_or_len p xs) (length xs) none))

-- the first line and what stands after it, as slices
pub first_at_feed : (bytes line : List ℕ) (i : ℕ) → position is_feed bytes ≡ Some i → line ≡ strip_carriage_return (take i bytes) → lines_of bytes ≡ line ∷ lines_of (take (length bytes - (i + 1)) (drop (i + 1) bytes))
first_at_feed bytes line i at is = rw (take_rest bytes (i + 1), is) (line_at_feed bytes i at)

pub first_is_all : (bytes : List ℕ) → position is_feed bytes ≡ None → 0 < length bytes → lines_of bytes ≡ bytes ∷ lines_of (take (length bytes - length bytes) (drop (length bytes) bytes))
first_is_all bytes none some = line_without_feed bytes (take (length bytes - length bytes) (drop (length bytes) bytes)) none some (nothing_after bytes)
