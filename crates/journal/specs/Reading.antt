-- A journal that is read event by event.

use Rattle.std.specs.Prelude.{◌≡◌, ℕ, ◌+◌, List, ◌∷◌, [], ◌++◌, length, All, Option, Some, None}
use Rattle.an_base.specs.declared.event.Event.{Event}
use Rattle.common_lines.specs.Lines.{line_text}
use Rattle.net_script.specs.Scripts.{ScriptOf}
use Rattle.journal.specs.Events.{CanSpell, first_words, events_text}
use Rattle.journal.specs.Texts.{IsJournal}

-- a reader: its script, the rest of its text, and the number of the next line
pub record ReaderOf : Type 0 where
  pub script : ScriptOf
  pub rest : List ℕ
  pub line : ℕ

-- `bytes` are the first line, the lines of `events`, and `rest`; and `line` is the number of the next line
pub record IsRead (script : ScriptOf) (bytes rest : List ℕ) (events : List Event) (line : ℕ) : Type 0 where
  pub spelled : All (CanSpell script) events
  pub text : bytes ≡ line_text first_words ++ (events_text script events ++ rest)
  pub number : line ≡ length events + 2

-- `reader` is a reader of `bytes` and has read `events`
pub record HasRead (script : ScriptOf) (bytes : List ℕ) (events : List Event) (reader : ReaderOf)
    : Type 0 where
  pub script_is : reader.script ≡ script
  pub read : IsRead script bytes reader.rest events reader.line

-- after `events` the reader has read one more, or `events` are the journal
abbrev pub IsNext : ScriptOf → List ℕ → List Event → ReaderOf → Option Event → Type 0
IsNext script bytes events reader (Some event) = HasRead script bytes (events ++ event ∷ []) reader
IsNext script bytes events reader None = IsJournal script bytes events

-- `bytes` begin with the text of a journal that begins with `events`
pub record BeginsJournal (script : ScriptOf) (bytes : List ℕ) (events : List Event) : Type 0 where
  pub more : List Event
  pub is_journal : IsJournal script bytes (events ++ more)
