-- What a journal came to when it was replayed.

use Rattle.std.specs.Prelude.{◌≡◌, ◌+◌, ℕ, List, length, None, false, ⊤}
use Rattle.an_base.specs.declared.event.Event.{Event}
use Rattle.net_script.specs.Scripts.{ScriptOf}
use Rattle.journal_cause.specs.declared.cause.JournalCause.{JournalCause}
use Rattle.journal_cause.specs.declared.cause.JournalCause.TheVariants as cause
use Rattle.journal.specs.Steps.{JournalRefusal}
use Rattle.journal.specs.Texts.{IsFault, IsJournal}
use Rattle.common_lines.specs.declared.stop.Refusal.TheVariants as stopped
use Rattle.net_state.specs.Lawful.{is_lawful}
use Rattle.net_world.specs.Histories.{HistoryOf, IsFirstFault, IsLawful, end_of, fabric_of}
use Rattle.fabric_book.specs.Nets.{NetOf}
use Rattle.replay.specs.declared.refusal.ReplayRefusal.{ReplayRefusal}
use Rattle.replay.specs.declared.refusal.ReplayRefusal.TheVariants as refusal

-- a network of `script` has made `events`, each of which was lawful, and no allocation failed
pub record HasMade (script : ScriptOf) (events : List Event) (net : NetOf) : Type 0 where
  pub net_is : net ≡ record { script = script; events = events; lost = false }
  pub lawful : IsLawful script events

-- The line of the event after `events` in the text of a journal, whose first line is `journal 1`; or of the `end`
-- after all events.
abbrev pub line_after : List Event → ℕ
line_after events = length events + 2

-- `Holds` holds of the line and the reason of a rejection, unless an allocation failed
abbrev pub IfIllegal : ReplayRefusal → (ℕ → JournalCause → Type 0) → Type 0
IfIllegal (refusal.Illegal line why) Holds = Holds line why
IfIllegal refusal.OutOfMemory Holds = ⊤

-- the next event is not lawful
pub record IsUnlawfulNext (history : HistoryOf) (event : Event) (line : ℕ) (why : JournalCause) : Type 0 where
  pub fault : is_lawful (fabric_of history) event ≡ false
  pub stands : line ≡ line_after history.events
  pub cause_is : why ≡ cause.NotLawful

-- `history` has come to no end
pub record HasNoEnd (history : HistoryOf) (line : ℕ) (why : JournalCause) : Type 0 where
  pub none : end_of history.script history.events ≡ None
  pub stands : line ≡ line_after history.events
  pub cause_is : why ≡ cause.Unfinished

-- Why a journal is rejected: an event is not lawful, it is the first such event, and `line` is its line; or all are
-- lawful, they come to no end, and `line` is the last one.
pub data IsIllegal (script : ScriptOf) (journal : List Event) (line : ℕ) (why : JournalCause) : Type 0 where
  unlawful : (before after : List Event) (event : Event) → IsFirstFault script journal before event after
      → line ≡ line_after before → why ≡ cause.NotLawful → IsIllegal script journal line why
  unended : IsLawful script journal → end_of script journal ≡ None
      → line ≡ line_after journal → why ≡ cause.Unfinished → IsIllegal script journal line why

abbrev pub IsRefusal : ScriptOf → List Event → ReplayRefusal → Type 0
IsRefusal script journal refused = IfIllegal refused (IsIllegal script journal)

-- The bytes do not begin with the text of a journal, or the journal is not legal.
pub data IsNoReplay (script : ScriptOf) (bytes : List ℕ) (line : ℕ) (why : JournalCause) : Type 0 where
  no_journal : IsFault script bytes line why → IsNoReplay script bytes line why
  not_legal : (journal : List Event) → IsJournal script bytes journal → IsIllegal script journal line why
      → IsNoReplay script bytes line why

-- a text that is not a journal is rejected for its error
abbrev pub as_replayed : JournalRefusal → ReplayRefusal
as_replayed (stopped.Fault line why) = refusal.Illegal line why
as_replayed stopped.OutOfMemory = refusal.OutOfMemory
