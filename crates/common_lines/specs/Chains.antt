use Rattle.std.specs.Prelude.{◌≡◌, ◌⊎◌, ℕ, ◌+◌, List, [], ◌∷◌, ◌++◌, length}
use Rattle.common_lines.specs.Lines.{lines_of}

-- A text is read line by line. State is what the lines so far say; `adds before line after` says that `line` is good
-- if the lines before it say `before`, and that all of them then say `after`.

module _ {State : Type 0} (adds : State → List ℕ → State → Type 0) where
  -- every line is good after the lines before it, and the lines lead from `before` to `after`
  abbrev pub LeadsBy : State → List (List ℕ) → State → Type 0
  LeadsBy before [] after = before ≡ after
  LeadsBy before (line ∷ lines) after =
      (between : State) × adds before line between × LeadsBy between lines after

-- A kind of text also has the state `start` before its first line, the cause for which a line is wrong in a state, the
-- states in which its last line has been read, and the cause for a text without that line.
module _ {State Cause : Type 0} (start : State) (adds : State → List ℕ → State → Type 0)
    (faulty : State → List ℕ → Cause → Type 0) (IsEnded : State → Type 0) (no_end : Cause) where
  -- line number `line` of `bytes` is the first with an error, and `cause` is its first error
  pub record IsFaultyLineOf (bytes : List ℕ) (line : ℕ) (cause : Cause) : Type 0 where
    pub before : List (List ℕ)
    pub here : List ℕ
    pub after : List (List ℕ)
    pub parts : lines_of bytes ≡ before ++ here ∷ after
    pub said : State
    pub good : LeadsBy adds start before said
    pub number : line ≡ length before + 1
    pub faulty_here : faulty said here cause

  -- no line of `bytes` has an error, but the last line is missing
  pub record HasNoEndOf (bytes : List ℕ) (line : ℕ) (cause : Cause) : Type 0 where
    pub said : State
    pub good : LeadsBy adds start (lines_of bytes) said
    pub unended : ¬ IsEnded said
    pub number : line ≡ length (lines_of bytes) + 1
    pub cause_is : cause ≡ no_end

  -- the first error of `bytes` is in line number `line`, and is `cause`
  abbrev pub IsFaultOf : List ℕ → ℕ → Cause → Type 0
  IsFaultOf bytes line cause = IsFaultyLineOf bytes line cause ⊎ HasNoEndOf bytes line cause
