use Rattle.std.specs.Prelude.{◌==◌, ◌&&◌, ◌-◌, ◌^◌, ℕ, Bool, List, length, Option, Some, None}
use Rattle.std.specs.Prelude.{codes, if◌then◌else◌, nat_lt, nat_le, option_and_then}
use Rattle.std.specs.List.{list_all}
use Rattle.std.specs.Char.{is_digit, digit_value}
use Rattle.std.specs.Str.Parse.{digits_value}
use Rattle.common_lines.specs.Words.{is_number_in, number_value}
use Rattle.fabric_words.specs.Cuts.{after}

-- Numbers in hexadecimal and decimal digits.

-- the value of a hexadecimal digit, in either case, and 2^16 for any other byte
abbrev pub digit_or_more : ℕ → ℕ
digit_or_more c = if is_digit c 16 then digit_value c else 2 ^ 16

-- whether `word` has 1 to 16 hexadecimal digits, in either case, and nothing else
abbrev pub is_hex : List ℕ → Bool
is_hex word = list_all (λ byte. is_digit byte 16) word && (nat_lt 0 (length word) && nat_le (length word) 16)

-- the value of 1 to 16 hexadecimal digits
unfoldable pub hex : List ℕ → Option ℕ
hex word = if is_hex word then Some (digits_value 16 word) else None

-- the value of exactly 16 hexadecimal digits
unfoldable pub guid : List ℕ → Option ℕ
guid word = if length word == 16 then hex word else None

-- the value of 1 to 16 hexadecimal digits after `0x`
abbrev pub hex_after : List ℕ → Option ℕ
hex_after word = option_and_then hex (after (codes "0x") word)

-- the value of a decimal number of at most `most`
abbrev pub number_to : (most : ℕ) → List ℕ → Option ℕ
number_to most word = if is_number_in 0 most word then Some (number_value word) else None

-- the value of a decimal number below 2^64
unfoldable pub decimal : List ℕ → Option ℕ
decimal word = if is_number_in 0 (2 ^ 64 - 1) word then Some (number_value word) else None
