-- The numbers of the entries of a topology.
use Rattle.std.specs.Prelude.{◌≢◌, ℕ, ◌≤◌, List, length, All, AllPairs}
use Rattle.an_base.specs.declared.limits.TheConstants.{MOST_NUMBER, MOST_SWITCHES}

-- `numbers` are different, each from 1 to MOST_NUMBER, at least one and at most MOST_SWITCHES of them
pub record AreNumbers (numbers : List ℕ) : Type 0 where
  pub some : 1 ≤ length numbers
  pub most : length numbers ≤ MOST_SWITCHES
  pub within : All (λ number. (1 ≤ number) × (number ≤ MOST_NUMBER)) numbers
  pub apart : AllPairs (λ one other. one ≢ other) numbers
