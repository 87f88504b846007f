use Rattle.std.specs.Prelude.{◌==◌, ◌+◌, ℕ, zero, suc, Bool, List, length, take, drop, position}
use Rattle.std.specs.Prelude.{Option, Some, None, is_some, option_map, option_and_then, if◌then◌else◌, find}
use Rattle.std.specs.List.{range_with_len}
use Rattle.std.specs.Str.{bytes_eq}
use Rattle.memchr.specs.Find.{occurs_at}

-- Cuts of a text at given bytes.

-- a step, and then another step with its result; none if either gives none
infixl 10 ◌>>=◌
abbrev pub ◌>>=◌ : {A B : Type 0} → Option A → (A → Option B) → Option B
found >>= next = option_and_then next found

-- what follows `front` in `text`, if `text` begins with it
unfoldable pub after : (front text : List ℕ) → Option (List ℕ)
after front text = if bytes_eq (take (length front) text) front then Some (drop (length front) text) else None

-- whether `text` begins with `front`
abbrev pub begins : (front text : List ℕ) → Bool
begins front text = is_some (after front text)

-- what precedes the first `byte` of the text, and what follows it
unfoldable pub cut : ℕ → List ℕ → Option (List ℕ × List ℕ)
cut byte text =
    option_map (λ place. (take place text, drop (place + 1) text)) (position (λ other. other == byte) text)

-- the highest number below the bound that passes `test`
abbrev pub greatest_below : (ℕ → Bool) → ℕ → Option ℕ
greatest_below test zero = None
greatest_below test (suc most) = if test most then Some most else greatest_below test most

-- the index of the first occurrence of `bytes` in `text`, and below, of the last one
abbrev pub first_place : (bytes text : List ℕ) → Option ℕ
first_place bytes text = find (occurs_at text bytes) (range_with_len 0 (length text + 1))

abbrev pub last_place : (bytes text : List ℕ) → Option ℕ
last_place bytes text = greatest_below (occurs_at text bytes) (length text + 1)

-- what precedes index `place`, and what follows the `many` bytes there
abbrev pub around : ℕ → List ℕ → ℕ → List ℕ × List ℕ
around many text place = (take place text, drop (place + many) text)

-- what precedes the first occurrence of `bytes`, and what follows it
unfoldable pub cut_first : (bytes text : List ℕ) → Option (List ℕ × List ℕ)
cut_first bytes text = option_map (around (length bytes) text) (first_place bytes text)

-- what precedes the last occurrence of `bytes`, and what follows it
unfoldable pub cut_last : (bytes text : List ℕ) → Option (List ℕ × List ℕ)
cut_last bytes text = option_map (around (length bytes) text) (last_place bytes text)
