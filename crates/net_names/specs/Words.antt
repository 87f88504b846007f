use Rattle.std.specs.Prelude.{◌≡◌, ℕ, ◌==◌, ◌&&◌, ◌||◌, true, Bool, List, length, nat_le, slice_index}
use Rattle.std.specs.List.{list_all}
use Rattle.std.specs.Char.{is_ascii_alphabetic, is_ascii_alphanumeric, is_digit}
use Rattle.std.specs.Str.Parse.{digits_value}

-- Words that are names and identifiers.

-- whether a byte is allowed in a name: a letter, a digit or `_` (95)
abbrev pub is_name_byte : ℕ → Bool
is_name_byte byte = is_ascii_alphanumeric byte || (byte == 95)

-- whether a word is a name: a letter, then up to 15 letters, digits and `_`
abbrev pub is_name : List ℕ → Bool
is_name word =
    is_ascii_alphabetic (slice_index word 0) && (nat_le (length word) 16 && list_all is_name_byte word)

-- `word` is a name
abbrev pub IsName : List ℕ → Type 0
IsName word = is_name word ≡ true

-- whether a word is an identifier: twelve hexadecimal digits in upper or lower case
abbrev pub is_uid : List ℕ → Bool
is_uid word = (length word == 12) && list_all (λ byte. is_digit byte 16) word

-- the value of an identifier
unfoldable pub uid_value : List ℕ → ℕ
uid_value word = digits_value 16 word
