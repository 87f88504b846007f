use Rattle.std.specs.Prelude.{◌≡◌, ℕ, List, Some, Result, Ok, Err, ⊤}
use Rattle.an_base.specs.declared.event.Event.{Event}
use Rattle.net_script.specs.Scripts.{ScriptOf}
use Rattle.std.specs.List.{join_with_byte}
use Rattle.common_lines.specs.declared.stop.Stop.{Stop}
use Rattle.common_lines.specs.declared.stop.Stop.TheVariants as stop
use Rattle.common_lines.specs.declared.stop.Refusal.{Refusal}
use Rattle.common_lines.specs.Stops.{IsRefusalBy}
use Rattle.journal_cause.specs.declared.cause.JournalCause.{JournalCause}
use Rattle.journal.specs.Events.{CanSpell, event_words}
use Rattle.journal.specs.Lines.{Line, line_words}
use Rattle.journal.specs.Rules.{line_cause}
use Rattle.journal.specs.Texts.{AreWrong, IsWrongLine, IsFault}

-- The steps of the reader.

-- the reasons why a line of a journal was not read (`JournalStop`), and why bytes were not read as a journal
-- (`JournalRefusal`)
abbrev pub JournalStop : Type 0
JournalStop = Stop JournalCause

abbrev pub JournalRefusal : Type 0
JournalRefusal = Refusal JournalCause

-- the result of reading a line of `form`: its event or its error
abbrev pub ReadsForm : ScriptOf → Line → Result Event JournalCause → Type 0
ReadsForm script form (Ok event) = CanSpell script event × (line_words form ≡ event_words script event)
ReadsForm script form (Err cause) = line_cause script form ≡ Some cause

-- the result of reading the words of a line: their event or their error
abbrev pub ReadsWords : ScriptOf → List (List ℕ) → Result Event JournalCause → Type 0
ReadsWords script words (Ok event) = CanSpell script event × (words ≡ event_words script event)
ReadsWords script words (Err cause) = AreWrong script words cause

-- the result of reading a line: its event or its error, or out of memory
abbrev pub ReadsLine : ScriptOf → List ℕ → Result Event JournalStop → Type 0
ReadsLine script line (Ok event) =
    CanSpell script event × (line ≡ join_with_byte 32 (event_words script event))
ReadsLine script line (Err (stop.Fault cause)) = IsWrongLine script line cause
ReadsLine script line (Err stop.OutOfMemory) = ⊤

-- the bytes were not read because of their first error, or because memory ran out
abbrev pub IsRefusal : ScriptOf → List ℕ → JournalRefusal → Type 0
IsRefusal script bytes = IsRefusalBy (IsFault script bytes)
