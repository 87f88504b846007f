-- An input has one division.
use Rattle.std.proofs.Common.{◌≡◌, ◌⊎◌, ◌∙◌, inl, inr, sym, ap, refl, subst, ℕ, ◌+◌, ◌-◌, ◌<◌, ◌≤◌, List, [], ◌∷◌, ◌++◌, arith, suc, length, length-take, append-nil, Bool, true, false, cond, take, slice_index, ◌==◌, if◌then◌else◌}
use Rattle.std.specs.List.{onto_first, slice_split}
use Rattle.std.specs.Str.Lines.{lines_of_parts, strip_carriage_return}
use Rattle.std.proofs.lemmas.Bool.Decides.{nat_tests}
use Rattle.std.proofs.lemmas.List.Splits.{length-slice_split}
use Rattle.common_lines.specs.Lines.{lines_of, words_of}
use Rattle.common_lines.proofs.LineLemmas.{is_feed}
use Rattle.replay.specs.Division.{IsDivision, after_end, from_words, has_words, is_end_line}

-- BYTES BEFORE OTHERS MAKE THE LINES LONGER

-- how long lines are, each with its end
abbrev size : List (List ℕ) → ℕ
size [] = 0
size (line ∷ lines) = length line + 1 + size lines

-- a line without a carriage return at its end
one_or_none : (has : Bool) → cond has 1 0 ≤ 1
one_or_none true = omega arith
one_or_none false = omega arith

size_by : (has : Bool) (line : List ℕ) → length (if has then take (length line - 1) line else line) ≡ length line - cond has 1 0
size_by true line = omega (arith, length-take (length line - 1) line)
size_by false line = omega arith

strip_size : (line : List ℕ) → length (strip_carriage_return line) ≡ length line - cond (slice_index line (length line - 1) == 13) 1 0
strip_size line = size_by (slice_index line (length line - 1) == 13) line

same_end : (x y : ℕ) (line : List ℕ) → slice_index (x ∷ y ∷ line) (length (x ∷ y ∷ line) - 1) ≡ slice_index (y ∷ line) (length (y ∷ line) - 1)
same_end x y line =
    let one : suc (suc (length line)) - 1 ≡ suc (length line) = omega arith in
    let other : suc (length line) - 1 ≡ length line = omega arith in
    rw (one, other) refl

stripped_longer : (x y : ℕ) (line : List ℕ) → length (strip_carriage_return (y ∷ line)) < length (strip_carriage_return (x ∷ y ∷ line))
stripped_longer x y line =
    let same = ap {B = ℕ} (λ (end : ℕ). cond (end == 13) 1 0) (same_end x y line) in
    omega (arith, same, one_or_none (slice_index (y ∷ line) (length (y ∷ line) - 1) == 13), strip_size (y ∷ line), strip_size (x ∷ y ∷ line))

stripped_grows : (x : ℕ) (line : List ℕ) → length (strip_carriage_return line) ≤ length (strip_carriage_return (x ∷ line))
stripped_grows x [] = omega arith
stripped_grows x (y ∷ line) = omega (arith, stripped_longer x y line)

-- the last part, where it has bytes, is a line
one_part : (x : ℕ) (part : List ℕ) → lines_of_parts ((x ∷ part) ∷ []) ≡ (x ∷ part) ∷ []
one_part x part = grind (arith, nat_tests)

-- a byte before parts of which it joins the first
parts_grow : (x : ℕ) (parts : List (List ℕ)) → size (lines_of_parts parts) ≤ size (lines_of_parts (onto_first x parts))
parts_grow x [] = omega arith
parts_grow x ([] ∷ []) = omega arith
parts_grow x ((y ∷ part) ∷ []) = omega (arith, ap size (one_part y part), ap size (one_part x (y ∷ part)))
parts_grow x (part ∷ next ∷ parts) = omega (arith, stripped_grows x part)

parts_longer : (x : ℕ) (parts : List (List ℕ)) (line : List ℕ) (lines : List (List ℕ)) → lines_of_parts parts ≡ line ∷ lines → 0 < length line → size (lines_of_parts parts) < size (lines_of_parts (onto_first x parts))
parts_longer x [] line lines is some = absurd (cc)
parts_longer x ([] ∷ []) line lines is some = absurd (cc)
parts_longer x ((y ∷ part) ∷ []) line lines is some = omega (arith, ap size (one_part y part), ap size (one_part x (y ∷ part)))
parts_longer x ([] ∷ next ∷ parts) line lines is some =
    let first : [] ≡ line = cc in
    absurd (omega (arith, ap length first))
parts_longer x ((y ∷ part) ∷ next ∷ parts) line lines is some = omega (arith, stripped_longer x y part)

parts_some : (x : ℕ) (parts : List (List ℕ)) → 0 < size (lines_of_parts (onto_first x parts))
parts_some x [] = omega arith
parts_some x (part ∷ []) = omega (arith, ap size (one_part x part))
parts_some x (part ∷ next ∷ parts) = omega arith

-- a line feed before parts
feed_size : (parts : List (List ℕ)) → 0 < length parts → size (lines_of_parts ([] ∷ parts)) ≡ 1 + size (lines_of_parts parts)
feed_size [] some = absurd (omega arith)
feed_size (part ∷ parts) some = omega arith

-- any byte
byte_grows : (x : ℕ) (feed : Bool) (parts : List (List ℕ)) → 0 < length parts → size (lines_of_parts parts) ≤ size (lines_of_parts (cond feed ([] ∷ parts) (onto_first x parts)))
byte_grows x true parts some = omega (arith, feed_size parts some)
byte_grows x false parts some = parts_grow x parts

byte_longer : (x : ℕ) (feed : Bool) (parts : List (List ℕ)) (line : List ℕ) (lines : List (List ℕ)) → 0 < length parts → lines_of_parts parts ≡ line ∷ lines → 0 < length line → size (lines_of_parts parts) < size (lines_of_parts (cond feed ([] ∷ parts) (onto_first x parts)))
byte_longer x true parts line lines some is long = omega (arith, feed_size parts some)
byte_longer x false parts line lines some is long = parts_longer x parts line lines is long

byte_some : (x : ℕ) (feed : Bool) (parts : List (List ℕ)) → 0 < length parts → 0 < size (lines_of_parts (cond feed ([] ∷ parts) (onto_first x parts)))
byte_some x true parts some = omega (arith, feed_size parts some)
byte_some x false parts some = parts_some x parts

-- before bytes
grows : (x : ℕ) (bytes : List ℕ) → size (lines_of bytes) ≤ size (lines_of (x ∷ bytes))
unfolding lines_of
grows x bytes = byte_grows x (is_feed x) (slice_split is_feed bytes) (omega (arith, length-slice_split is_feed bytes))

longer : (x : ℕ) (bytes line : List ℕ) (lines : List (List ℕ)) → lines_of bytes ≡ line ∷ lines → 0 < length line → size (lines_of bytes) < size (lines_of (x ∷ bytes))
unfolding lines_of
longer x bytes line lines is long = byte_longer x (is_feed x) (slice_split is_feed bytes) line lines (omega (arith, length-slice_split is_feed bytes)) is long

some_lines : (x : ℕ) (bytes : List ℕ) → 0 < size (lines_of (x ∷ bytes))
unfolding lines_of
some_lines x bytes = byte_some x (is_feed x) (slice_split is_feed bytes) (omega (arith, length-slice_split is_feed bytes))

all_longer : (x : ℕ) (front bytes line : List ℕ) (lines : List (List ℕ)) → lines_of bytes ≡ line ∷ lines → 0 < length line → size (lines_of bytes) < size (lines_of (x ∷ front ++ bytes))
all_longer x [] bytes line lines is long = longer x bytes line lines is long
all_longer x (y ∷ front) bytes line lines is long = omega (arith, all_longer y front bytes line lines is long, grows x (y ∷ front ++ bytes))

-- A JOURNAL BEGINS WITH WORDS

-- no lines, or a first one that is not empty
abbrev Begins : List (List ℕ) → Type 0
Begins lines = (lines ≡ []) ⊎ ((line : List ℕ) × (more : List (List ℕ)) × (lines ≡ line ∷ more) × (0 < length line))

has_bytes : (line : List ℕ) → has_words line ≡ true → 0 < length line
unfolding words_of
has_bytes [] has = absurd (cc)
has_bytes (x ∷ line) has = omega arith

if_begins : (b : Bool) (one other : List (List ℕ)) → (b ≡ true → Begins one) → Begins other → Begins (if b then one else other)
if_begins true one other has lacks = has refl
if_begins false one other has lacks = lacks

from_begins : (lines : List (List ℕ)) → Begins (from_words lines)
from_begins [] = inl refl
from_begins (line ∷ lines) = if_begins (has_words line) (line ∷ lines) (from_words lines) (λ has. inr (line, lines, refl, has_bytes line has)) (from_begins lines)

behind_begins : (lines : List (List ℕ)) → Begins (after_end lines)
behind_begins [] = inl refl
behind_begins (line ∷ lines) = if_begins (is_end_line line) (from_words lines) (after_end lines) (λ end. from_begins lines) (behind_begins lines)

-- ONE DIVISION

-- bytes before others with the same lines are none, where the lines begin so
none_between : (front bytes : List ℕ) → Begins (lines_of bytes) → lines_of (front ++ bytes) ≡ lines_of bytes → front ≡ []
none_between [] bytes begins same = refl
none_between (x ∷ front) bytes begins same = absurd (elim begins [
  | inl none ↦ omega (arith, some_lines x (front ++ bytes), ap size same, ap size none)
  | inr (line, more, is, long) ↦ omega (arith, all_longer x front bytes line more is long, ap size same)
])

-- of two parts of the same bytes one begins with the other
abbrev GoesOn : List ℕ → List ℕ → List ℕ → List ℕ → Type 0
GoesOn one back other rest = (more : List ℕ) × (other ≡ one ++ more) × (back ≡ more ++ rest)

two_fronts : (one back other rest : List ℕ) → one ++ back ≡ other ++ rest → GoesOn one back other rest ⊎ GoesOn other rest one back
two_fronts [] back other rest same = inl (other, refl, same)
two_fronts (x ∷ one) back [] rest same = inr (x ∷ one, refl, sym same)
two_fronts (x ∷ one) back (y ∷ other) rest same =
    let first : x ≡ y = cc in
    let later : one ++ back ≡ other ++ rest = cc in
    elim (two_fronts one back other rest later) [
      | inl (more, is, behind) ↦ inl (more, cc (first, is), behind)
      | inr (more, is, behind) ↦ inr (more, cc (first, is), behind)
    ]

one_of : (bytes one two three four : List ℕ) → IsDivision bytes one two → IsDivision bytes three four → GoesOn one two three four → (one ≡ three) × (two ≡ four)
one_of bytes one two three four first second (more, is, behind) =
    let none = none_between more four (subst Begins (sym second.after) (behind_begins (lines_of bytes))) (ap lines_of (sym behind) ∙ first.after ∙ sym second.after) in
    (sym (append-nil one) ∙ ap (λ (m : List ℕ). one ++ m) (sym none) ∙ sym is, behind ∙ ap (λ (m : List ℕ). m ++ four) none)

-- an input has one division
pub one_division : (bytes one two three four : List ℕ) → IsDivision bytes one two → IsDivision bytes three four → (one ≡ three) × (two ≡ four)
one_division bytes one two three four first second =
    elim (two_fronts one two three four (sym first.parts ∙ second.parts)) [
      | inl on ↦ one_of bytes one two three four first second on
      | inr on ↦ let same = one_of bytes three four one two second first on in (sym same.0, sym same.1)
    ]
