-- Histories: lists of entries, each of one caller.
use Rattle.std.specs.Prelude.{◌≡◌, ℕ, List, [], ◌∷◌, ◌++◌, ◌⊎◌, ◌==◌, filter}

-- the second history extends the first
abbrev pub Extends : {E : Type 0} → List E → List E → Type 0
Extends {E} before after = (more : List E) × (after ≡ before ++ more)

module _ {E : Type 0} (owner : E → ℕ) where
  -- the entries of a caller in a history, in their order
  abbrev pub own_entries : List E → ℕ → List E
  own_entries history caller = filter (λ entry. owner entry == caller) history

  -- the history has no entry of the caller
  abbrev pub NoneOf : ℕ → List E → Type 0
  NoneOf caller history = own_entries history caller ≡ []

  -- the list is empty, or has one entry of the caller
  abbrev pub Adds : ℕ → List E → Type 0
  Adds caller added = (added ≡ []) ⊎ ((entry : E) × (added ≡ entry ∷ []) × (owner entry ≡ caller))

  -- nothing was appended, or one entry of the caller
  abbrev pub AppendsAtMostOne : ℕ → List E → List E → Type 0
  AppendsAtMostOne caller before after = (added : List E) × Adds caller added × (after ≡ before ++ added)
