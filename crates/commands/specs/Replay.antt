-- The command `replay`: the report of a journal that follows its script.

use Rattle.std.specs.Prelude.{◌⊎◌, ℕ, List}
use Rattle.an_base.specs.declared.event.Event.{Event}
use Rattle.net_script.specs.Scripts.{ScriptOf}
use Rattle.net_script.specs.Texts.{IsText, IsFault}
use Rattle.journal_cause.specs.declared.cause.JournalCause.{JournalCause}
use Rattle.journal.specs.Texts.{IsJournal}
use Rattle.replay.specs.Division.{IsDivision}
use Rattle.replay.specs.Replays.{IsNoReplay}
use Rattle.replay.specs.declared.refusal.ReplayRefusal.{ReplayRefusal}
use Rattle.replay.specs.declared.refusal.ReplayRefusal.TheVariants as illegal
use Rattle.autonet_call.specs.declared.status.Status.{Status}
use Rattle.autonet_call.specs.declared.status.Status.TheVariants.{JournalRefused, OutOfMemory}
use Rattle.autonet_call.specs.Answer.{Gives, IfRefused, Refuses}
use Rattle.commands.specs.Reported.{IsReported}

-- `bytes` is the text of a script, followed by `after`
pub record IsScriptWith (bytes : List ℕ) (script : ScriptOf) (after : List ℕ) : Type 0 where
  pub first : List ℕ
  pub division : IsDivision bytes first after
  pub is_text : IsText first script

-- after the script, `bytes` continues with the text of `journal`
pub record IsJournaled (bytes : List ℕ) (script : ScriptOf) (journal : List Event) : Type 0 where
  pub after : List ℕ
  pub input : IsScriptWith bytes script after
  pub is_journal : IsJournal script after journal

-- a legal journal follows a script, and `text` is its report
pub record IsReplayedOf (status : Status) (text bytes : List ℕ) : Type 0 where
  pub script : ScriptOf
  pub journal : List Event
  pub read : IsJournaled bytes script journal
  pub reported : IsReported script journal status text

-- `replay` gives the report, with the status of the journal's end
abbrev pub gives_replayed : Gives
gives_replayed bytes status text = IsReplayedOf status text bytes

-- the first part of `bytes` is not a script
pub record IsNoScript (bytes : List ℕ) (status : Status) : Type 0 where
  pub first : List ℕ
  pub after : List ℕ
  pub division : IsDivision bytes first after
  pub fault : IfRefused status (IsFault first)

-- no legal journal follows the script
pub record IsUnreplayed (bytes : List ℕ) (line : ℕ) (why : JournalCause) : Type 0 where
  pub script : ScriptOf
  pub after : List ℕ
  pub input : IsScriptWith bytes script after
  pub refused : IsNoReplay script after line why

-- the line and the reason of a rejected journal satisfy the predicate
abbrev pub IfJournalRefused : Status → (ℕ → JournalCause → Type 0) → Type 0
IfJournalRefused (JournalRefused line why) Holds = Holds line why
IfJournalRefused status Holds = ⊥

-- bytes without a script are rejected, and a script without a legal journal after it
abbrev pub refuses_journal : Refuses
refuses_journal bytes status = IsNoScript bytes status ⊎ IfJournalRefused status (IsUnreplayed bytes)

-- the status of a text that is not a journal, or whose journal is not legal
abbrev pub replay_refused_as : ReplayRefusal → Status
replay_refused_as (illegal.Illegal line why) = JournalRefused line why
replay_refused_as illegal.OutOfMemory = OutOfMemory
