use Rattle.std.specs.Prelude.{◌==◌, ◌&&◌, ◌||◌, ◌+◌, ◌-◌, ◌*◌, ℕ, Bool, List, length, slice_index}
use Rattle.std.specs.Prelude.{Option, Some, None, if◌then◌else◌, nat_le}
use Rattle.std.specs.Char.{is_digit, is_ascii_digit, digit_value}
use Rattle.fabric_words.specs.Cuts.{◌>>=◌}

-- The rows of forwarding tables.

-- the value of four hexadecimal digits
unfoldable pub four_hex : (a b c d : ℕ) → Option ℕ
four_hex a b c d =
    if (is_digit a 16 && is_digit b 16) && (is_digit c 16 && is_digit d 16)
    then Some (digit_value a * 4096 + digit_value b * 256 + digit_value c * 16 + digit_value d) else None

-- the value of three decimal digits, at most 255
unfoldable pub three_decimal : (a b c : ℕ) → Option ℕ
three_decimal a b c =
    let number = (a - 48) * 100 + (b - 48) * 10 + (c - 48) in
    if (is_ascii_digit a && (is_ascii_digit b && is_ascii_digit c)) && nat_le number 255
    then Some number else None

-- whether `line` begins as a row: `0x`, four bytes, a space, three bytes, and then nothing, or a space
abbrev pub is_row : List ℕ → Bool
is_row line =
    nat_le 10 (length line)
    && (slice_index line 0 == 48 && (slice_index line 1 == 120
    && (slice_index line 6 == 32 && (length line == 10 || slice_index line 10 == 32))))

-- the LID, in the four hexadecimal digits of a row, and the port, in its three decimal digits
unfoldable pub row : List ℕ → Option (ℕ × ℕ)
row line =
    if is_row line then (do
      lid ← four_hex (slice_index line 2) (slice_index line 3) (slice_index line 4) (slice_index line 5)
      port ← three_decimal (slice_index line 7) (slice_index line 8) (slice_index line 9)
      Some (lid, port))
    else None
