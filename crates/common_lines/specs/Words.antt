use Rattle.std.specs.Prelude.{◌≡◌, ℕ, zero, suc, ◌+◌, ◌/◌, ◌%◌, ◌==◌, ◌&&◌, ◌||◌, not, true, Bool, List, []}
use Rattle.std.specs.Prelude.{◌∷◌, ◌++◌, length, nat_lt, nat_le, slice_index, if◌then◌else◌}
use Rattle.std.specs.List.{list_all}
use Rattle.std.specs.Char.{is_ascii_alphabetic, is_ascii_alphanumeric, is_ascii_digit, is_digit}
use Rattle.std.specs.Str.Parse.{digits_value}

-- Words that are numbers, in decimal and hexadecimal digits.

-- whether a word is a number: digits without a leading 0 (48), or 0 itself
abbrev pub is_number : List ℕ → Bool
is_number word =
    list_all is_ascii_digit word
    && (nat_lt 0 (length word) && (not (slice_index word 0 == 48) || (length word == 1)))

-- the value of a word of decimal digits
unfoldable pub number_value : List ℕ → ℕ
number_value word = digits_value 10 word

-- whether a word is a number from `least` to `most`
abbrev pub is_number_in : (least most : ℕ) → List ℕ → Bool
is_number_in least most word =
    is_number word && (nat_le least (number_value word) && nat_le (number_value word) most)

-- the lower-case glyph of a digit below sixteen
abbrev pub hex_glyph : ℕ → ℕ
hex_glyph digit = if nat_lt digit 10 then 48 + digit else 87 + digit

-- the last n hexadecimal digits of `number`
unfoldable pub hex_text : (zero number : ℕ) → List ℕ
hex_text zero number = []
hex_text (suc digits) number = hex_text digits (number / 16) ++ hex_glyph (number % 16) ∷ []
