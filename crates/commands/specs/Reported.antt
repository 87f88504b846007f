-- A journal with its report, and the status of its end.

use Rattle.std.specs.Prelude.{◌≡◌, ℕ, List}
use Rattle.an_base.specs.declared.event.Event.{Event}
use Rattle.net_script.specs.Scripts.{ScriptOf}
use Rattle.journal.specs.Texts.{IsJournal}
use Rattle.net_state.specs.declared.ending.Ending.{Ending}
use Rattle.net_state.specs.declared.ending.Ending.TheVariants as ending
use Rattle.net_world.specs.World.{world_after}
use Rattle.row_text.specs.Names.{life_text}
use Rattle.report.specs.Events.{IsReport}
use Rattle.autonet_call.specs.declared.status.Status.{Status}
use Rattle.autonet_call.specs.declared.status.Status.TheVariants.{Ok, Unsettled, EpochsSpent, JournalFull}

-- the status of a journal with an end, at a tick
abbrev pub status_of_end : ScriptOf → ℕ → Ending → Status
status_of_end script tick ending.Settled = Ok
status_of_end script tick ending.Unsettled = Unsettled tick
status_of_end script tick ending.Full = JournalFull
status_of_end script tick (ending.Spent life) = EpochsSpent (life_text script life)

-- `journal` is legal and has an end, `report` is its report, and `status` is that of its end.
pub record IsReported (script : ScriptOf) (journal : List Event) (status : Status) (report : List ℕ)
    : Type 0 where
  pub end : Ending
  pub is_report : IsReport script journal end report
  pub status_is : status ≡ status_of_end script (world_after script journal).fabric.tick end

-- `bytes` begins with the text of a journal, for which `status` and `report` are as in `IsReported`
pub record IsReportedText (script : ScriptOf) (bytes : List ℕ) (status : Status) (report : List ℕ)
    : Type 0 where
  pub journal : List Event
  pub is_journal : IsJournal script bytes journal
  pub is_reported : IsReported script journal status report
