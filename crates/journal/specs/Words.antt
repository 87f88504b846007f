use Rattle.std.specs.Prelude.{◌==◌, ◌&&◌, not, ℕ, Bool, List, length, nat_le}
use Rattle.std.specs.List.{list_all, slice_split}

-- The words of a line of a journal.

-- the words of a line: the parts between its spaces (32), which can be empty
unfoldable pub words_of : List ℕ → List (List ℕ)
words_of line = slice_split (λ byte. byte == 32) line

-- whether a byte is allowed in a line: 32 to 126
abbrev pub is_line_byte : ℕ → Bool
is_line_byte byte = nat_le 32 byte && nat_le byte 126

-- whether no word is empty
abbrev pub has_words : List (List ℕ) → Bool
has_words words = list_all (λ word. not (length word == 0)) words

-- whether a line has at most 200 bytes, all of them allowed in a line, and no empty word
abbrev pub is_shaped : List ℕ → Bool
is_shaped line = nat_le (length line) 200 && (list_all is_line_byte line && has_words (words_of line))
