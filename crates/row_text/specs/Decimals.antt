use Rattle.std.specs.Prelude.{◌≡◌, ℕ, ◌<◌, List, [], length, slice_index_or}
use Rattle.std.specs.Fmt.{decimal}

-- A list of decimals.

-- `texts` are the numbers below `end`, in decimal
pub record AreDecimals (end : ℕ) (texts : List (List ℕ)) : Type 0 where
  pub count : length texts ≡ end
  pub each : (number : ℕ) → number < end → slice_index_or texts number [] ≡ decimal number
