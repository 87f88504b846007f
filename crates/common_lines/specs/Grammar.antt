use Rattle.std.specs.Prelude.{◌≡◌, ◌≢◌, ◌⊎◌, ℕ, List, [], ◌∷◌, length, Option, Some, None, nat_le}
use Rattle.std.specs.List.{list_all}
use Rattle.common_lines.specs.Lines.{words_of, is_line_byte}
use Rattle.common_lines.specs.Faults.{unless, first_of}

-- A grammar of lines. Form is the type of the forms that the words of a line can have, with the words in their fields;
-- State is what the lines so far say; Cause is what can be wrong with a line.

-- `words` have no form
abbrev pub HasNoFormBy : {Form : Type 0} → (Form → List (List ℕ)) → List (List ℕ) → Type 0
HasNoFormBy {Form} words_of_form words = (form : Form) → words ≢ words_of_form form

-- A grammar gives the words of a form, and the error, if there is one, of a line of a form in a state.
module _ {Form State Cause : Type 0} (words_of_form : Form → List (List ℕ))
    (cause_of : State → Form → Option Cause) where
  -- `words` have a form whose error in `state` is `cause`
  pub record IsWrongFormBy (state : State) (words : List (List ℕ)) (cause : Cause) : Type 0 where
    pub form : Form
    pub line : words ≡ words_of_form form
    pub wrong : cause_of state form ≡ Some cause

  -- `words` have no form and `cause` is `unknown`, or they have a form whose error in `state` is `cause`
  abbrev pub IsFaultyFormBy : Cause → State → List (List ℕ) → Cause → Type 0
  IsFaultyFormBy unknown state words cause =
      (HasNoFormBy words_of_form words × (cause ≡ unknown)) ⊎ IsWrongFormBy state words cause

  -- `words` have a form without an error in `state`, and `after` is `state` with what that form adds
  pub record AddsFormBy (with_form : State → Form → State) (state : State) (words : List (List ℕ))
      (after : State) : Type 0 where
    pub form : Form
    pub line : words ≡ words_of_form form
    pub good : cause_of state form ≡ None
    pub then : after ≡ with_form state form

-- The words of a line lead from one state to another, or have an error. A line without words is good and adds nothing.
module _ {State : Type 0} (adds : State → List (List ℕ) → State → Type 0) where
  -- the words of a line lead from `state` to `after`; if there are no words, both are the same
  abbrev pub AddsRowBy : State → List (List ℕ) → State → Type 0
  AddsRowBy state [] after = after ≡ state
  AddsRowBy state (word ∷ words) after = adds state (word ∷ words) after

  -- the bytes and the words of `line` are good, and it leads from `state` to `after`
  pub record AddsLineBy {Cause : Type 0} (bytes_cause : List ℕ → Option Cause) (state : State) (line : List ℕ)
      (after : State) : Type 0 where
    pub bytes : bytes_cause line ≡ None
    pub row : AddsRowBy state (words_of line) after

module _ {State Cause : Type 0} (faulty : State → List (List ℕ) → Cause → Type 0) where
  -- there are words, and they have the error `cause` in `state`
  abbrev pub IsFaultyRowBy : State → List (List ℕ) → Cause → Type 0
  IsFaultyRowBy state [] cause = ⊥
  IsFaultyRowBy state (word ∷ words) cause = faulty state (word ∷ words) cause

  -- the first error of `line` in `state` is `cause`; errors of its bytes come before those of its words
  abbrev pub IsFaultyLineBy : (List ℕ → Option Cause) → State → List ℕ → Cause → Type 0
  IsFaultyLineBy bytes_cause state line cause =
      (bytes_cause line ≡ Some cause)
      ⊎ ((bytes_cause line ≡ None) × IsFaultyRowBy state (words_of line) cause)

-- the error of the bytes of a line, if there is one: more than `most` of them, or a byte not allowed in a line
abbrev pub bytes_cause_by : {Cause : Type 0} → Cause → Cause → ℕ → List ℕ → Option Cause
bytes_cause_by too_long not_ascii most line =
    first_of (unless (nat_le (length line) most) too_long ∷ unless (list_all is_line_byte line) not_ascii
    ∷ [])
