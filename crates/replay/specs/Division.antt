-- An input with a script and a journal: where the one ends and the other begins.

use Rattle.std.specs.Prelude.{◌≡◌, ◌==◌, ◌&&◌, ℕ, Bool, List, [], ◌∷◌, ◌++◌, length, nat_lt, slice_index_or, codes, bytes_eq, if◌then◌else◌}
use Rattle.common_lines.specs.Lines.{lines_of, words_of}

-- a line has words
abbrev pub has_words : List ℕ → Bool
has_words line = nat_lt 0 (length (words_of line))

-- the only word of a line is `end`
abbrev pub is_end_line : List ℕ → Bool
is_end_line line =
    (length (words_of line) == 1) && bytes_eq (slice_index_or (words_of line) 0 []) (codes "end")

-- the lines, starting at the first that has words
abbrev pub from_words : List (List ℕ) → List (List ℕ)
from_words [] = []
from_words (line ∷ lines) = if has_words line then line ∷ lines else from_words lines

-- the lines after the first `end`, without those directly after it that have no words
abbrev pub after_end : List (List ℕ) → List (List ℕ)
after_end [] = []
after_end (line ∷ lines) = if is_end_line line then from_words lines else after_end lines

-- the bytes end with these bytes
abbrev pub IsBack : List ℕ → List ℕ → Type 0
IsBack bytes back = (front : List ℕ) × (bytes ≡ front ++ back)

-- `bytes` is a script, including the lines without words after its `end`, and then a journal. If no line is `end`,
-- the journal is empty.
pub record IsDivision (bytes script journal : List ℕ) : Type 0 where
  pub parts : bytes ≡ script ++ journal
  pub after : lines_of journal ≡ after_end (lines_of bytes)
