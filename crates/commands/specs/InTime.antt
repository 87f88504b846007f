-- What the result 1 says: the history of the journal had no time to settle.

use Rattle.std.specs.Prelude.{ℕ, List}
use Rattle.outside.specs.Told.{Gains}
use Rattle.net_settling.specs.Settling.{HasTime}
use Rattle.autonet_call.specs.declared.status.Status.{Status}
use Rattle.autonet_call.specs.declared.status.Status.TheVariants.{Unsettled}
use Rattle.autonet_call.specs.Status.{line_of}
use Rattle.autonet_call.specs.Answer.{Gives, IsGiven, Streams, input_limit}
use Rattle.commands.specs.Replay.{IsReplayedOf}
use Rattle.commands.specs.Run.{IsRunOf}

-- `text` is that of a run, whose journal had no time to settle
pub record IsLateRun (status : Status) (text bytes : List ℕ) : Type 0 where
  pub is_run : IsRunOf status text bytes
  pub late : ¬ HasTime is_run.script is_run.run.journal

abbrev pub gives_late_run : Gives
gives_late_run bytes status text = IsLateRun status text bytes

-- a legal journal, which had no time to settle, follows a script, and `text` is its report
pub record IsLateReplay (status : Status) (text bytes : List ℕ) : Type 0 where
  pub is_replay : IsReplayedOf status text bytes
  pub late : ¬ HasTime is_replay.script is_replay.journal

abbrev pub gives_late_replay : Gives
gives_late_replay bytes status text = IsLateReplay status text bytes

-- an input was read, the text that a command gives for it was written, and `err` gained the line of an unsettled
-- end
pub record IsUnsettledAnswer (gives : Gives) (old new : Streams) : Type 0 where
  pub tick : ℕ
  pub given : IsGiven input_limit gives old.source new.source old.out new.out (Unsettled tick)
  pub told : Gains old.err new.err (line_of (Unsettled tick))
