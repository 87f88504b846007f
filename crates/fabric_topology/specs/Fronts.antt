use Rattle.std.specs.Prelude.{ℕ, Bool, List, length, take, Option, Some}
use Rattle.std.specs.Option.{option_map_or}
use Rattle.std.specs.Str.{bytes_eq}
use Rattle.fabric_words.specs.Cuts.{◌>>=◌, cut}
use Rattle.fabric_words.specs.Digits.{decimal}

-- Prefixes of a text.

-- whether `text` begins with `front`
abbrev pub begins : (front text : List ℕ) → Bool
begins front text = bytes_eq front (take (length front) text)

-- the number before the first space, and what follows that space
unfoldable pub number_then : List ℕ → Option (ℕ × List ℕ)
number_then text = do
  parts ← cut 32 text
  number ← decimal parts.0
  Some (number, parts.1)

-- the number before the first space, or the whole text as a number
unfoldable pub front_number : List ℕ → Option ℕ
front_number text = option_map_or (λ parts. decimal parts.0) (cut 32 text) (decimal text)
