-- How many things of a kind there are.
use Rattle.std.specs.Prelude.{◌≡◌, ◌≢◌, ℕ, List, length, AllPairs, Contains}

-- `count` is the number of things of a kind: a list of all of them and of no other thing, each once, has this
-- length.
pub record IsCountOf {A : Type 0} (Is : A → Type 0) (count : ℕ) : Type 0 where
  pub things : List A
  pub only : (thing : A) → Contains things thing → Is thing
  pub each : (thing : A) → Is thing → Contains things thing
  pub apart : AllPairs (λ one other. one ≢ other) things
  pub size : length things ≡ count
