use Rattle.std.specs.Prelude.{◌==◌, ◌&&◌, ◌||◌, not, ℕ, Bool, List, [], ◌∷◌, ◌++◌, length, map, nat_le}
use Rattle.std.specs.Prelude.{filter}
use Rattle.std.specs.List.{flat_map, join_with_byte, slice_split, before_first}
use Rattle.std.specs.Str.Lines.{lines}

-- The lines of a text, and the words of a line.

-- the lines of a text: each ends with a line feed (10), before which one carriage return (13) is dropped; bytes after
-- the last line feed are a line
unfoldable pub lines_of : List ℕ → List (List ℕ)
lines_of bytes = lines bytes

-- whether a byte is allowed in a line: a tab (9), or 32 to 126
abbrev pub is_line_byte : ℕ → Bool
is_line_byte byte = (byte == 9) || (nat_le 32 byte && nat_le byte 126)

-- whether a byte is a space (32) or a tab (9)
abbrev pub is_blank : ℕ → Bool
is_blank byte = (byte == 32) || (byte == 9)

-- the part of a line before the first `#` (35)
abbrev pub without_comment : List ℕ → List ℕ
without_comment line = before_first (λ byte. byte == 35) line

-- the parts of a line between its blanks that are not empty
abbrev pub parts_of : List ℕ → List (List ℕ)
parts_of line = filter (λ word. not (length word == 0)) (slice_split is_blank line)

-- the words of a line: the parts between its blanks, up to a `#`, that are not empty
unfoldable pub words_of : List ℕ → List (List ℕ)
words_of line = parts_of (without_comment line)

-- the words of each line that has words
abbrev pub with_words : List (List ℕ) → List (List (List ℕ))
with_words lines = filter (λ words. not (length words == 0)) (map words_of lines)

-- the text of a line of `words`: joined by single spaces and followed by a line feed
abbrev pub line_text : List (List ℕ) → List ℕ
line_text words = join_with_byte 32 words ++ 10 ∷ []

-- the text of a list of lines, one after another
abbrev pub lines_text : List (List (List ℕ)) → List ℕ
lines_text = flat_map line_text

-- the text of the lines of `forms`, one after another
abbrev pub forms_text_by : {Form : Type 0} → (Form → List (List ℕ)) → List Form → List ℕ
forms_text_by words_of_form forms = lines_text (map words_of_form forms)
