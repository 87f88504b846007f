use Rattle.std.specs.Prelude.{◌≡◌, ◌≢◌, ◌⊎◌, ℕ, ◌+◌, List, [], ◌∷◌, ◌++◌, length, All, true, false, codes}
use Rattle.an_base.specs.declared.event.Event.{Event}
use Rattle.common_lines.specs.Lines.{line_text}
use Rattle.common_lines.specs.Grammar.{IsFaultyFormBy}
use Rattle.net_script.specs.Scripts.{ScriptOf}
use Rattle.journal_cause.specs.declared.cause.JournalCause.{JournalCause}
use Rattle.journal_cause.specs.declared.cause.JournalCause.TheVariants.{BadHeader, UnknownWord, NoEnd}
use Rattle.journal.specs.Words.{words_of, is_shaped}
use Rattle.journal.specs.Lines.{line_words}
use Rattle.journal.specs.Events.{CanSpell, first_words, events_text, journal_text}
use Rattle.journal.specs.Rules.{line_cause}

-- The bytes that begin with the text of a journal, and the errors of those that do not.

-- `bytes` begin with the text of `events`, all of which can be written for the script
pub record IsJournal (script : ScriptOf) (bytes : List ℕ) (events : List Event) : Type 0 where
  pub spelled : All (CanSpell script) events
  pub after : List ℕ
  pub text : bytes ≡ journal_text script events ++ after

-- `bytes` are `line`, a line feed (10), and `after`; and `line` has no line feed
pub record IsFirstLine (bytes line after : List ℕ) : Type 0 where
  pub parts : bytes ≡ line ++ 10 ∷ after
  pub no_feed : All (λ byte. byte ≢ 10) line

-- the words are not those of an event: they have no form, or a form whose fields have this error
abbrev pub AreWrong : ScriptOf → List (List ℕ) → JournalCause → Type 0
AreWrong = IsFaultyFormBy line_words line_cause UnknownWord

-- `line` is not the line of an event, for the reason `cause`
abbrev pub IsWrongLine : ScriptOf → List ℕ → JournalCause → Type 0
IsWrongLine script line cause =
    ((is_shaped line ≡ false) × (cause ≡ UnknownWord))
    ⊎ ((is_shaped line ≡ true) × AreWrong script (words_of line) cause)

-- `rest` begins with a line that is not of an event and not the last, for the reason `cause`
pub record IsFaultyLine (script : ScriptOf) (rest : List ℕ) (cause : JournalCause) : Type 0 where
  pub line : List ℕ
  pub after : List ℕ
  pub first : IsFirstLine rest line after
  pub not_last : line ≢ codes "end"
  pub wrong : IsWrongLine script line cause

-- `rest` has bytes, but no line feed
pub record IsUnended (rest : List ℕ) (cause : JournalCause) : Type 0 where
  pub some : rest ≢ []
  pub no_feed : All (λ byte. byte ≢ 10) rest
  pub cause_is : cause ≡ UnknownWord

-- the error of `rest`, the bytes after the lines of events, is `cause`
abbrev pub IsFaultyRest : ScriptOf → List ℕ → JournalCause → Type 0
IsFaultyRest script rest cause =
    ((rest ≡ []) × (cause ≡ NoEnd)) ⊎ (IsUnended rest cause ⊎ IsFaultyLine script rest cause)

-- there are bytes, but the first line is not `journal 1`
pub record HasNoHeader (bytes : List ℕ) (line : ℕ) (cause : JournalCause) : Type 0 where
  pub some : bytes ≢ []
  pub none : (rest : List ℕ) → bytes ≢ line_text first_words ++ rest
  pub number : line ≡ 1
  pub cause_is : cause ≡ BadHeader

-- after the first line and the lines of some events, line number `line` has the error `cause`
pub record IsFaultAfter (script : ScriptOf) (bytes : List ℕ) (line : ℕ) (cause : JournalCause) : Type 0 where
  pub events : List Event
  pub spelled : All (CanSpell script) events
  pub rest : List ℕ
  pub parts : bytes ≡ line_text first_words ++ (events_text script events ++ rest)
  pub number : line ≡ length events + 2
  pub wrong : IsFaultyRest script rest cause

-- the first error of `bytes` is in line number `line`, and is `cause`
abbrev pub IsFault : ScriptOf → List ℕ → ℕ → JournalCause → Type 0
IsFault script bytes line cause =
    ((bytes ≡ []) × (line ≡ 1) × (cause ≡ NoEnd))
    ⊎ (HasNoHeader bytes line cause ⊎ IsFaultAfter script bytes line cause)
