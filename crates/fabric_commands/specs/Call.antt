-- The answer to the words of a call.

use Rattle.std.specs.Prelude.{◌≡◌, ℕ, List, Some, slice_get, slice_index}
use Rattle.outside.specs.Told.{Seen}
use Rattle.fabric_model.specs.declared.traffic.Traffic.{Traffic}
use Rattle.fabric_call.specs.Answer.{Gives, IsAnswer, IsUsageAnswer, Streams}
use Rattle.fabric_print_lanes.specs.declared.answer.Asked.{Asked}
use Rattle.fabric_lane_commands.specs.Asked.{IsAskedBy}
use Rattle.fabric_lane_commands.specs.Inputs.{lane_sources}
use Rattle.fabric_lane_commands.specs.LaneCall.{IsLaneAnswer, LaneGives}
use Rattle.fabric_lane_commands.specs.LaneDrawn.{IsLaneDrawn}
use Rattle.fabric_lane_commands.specs.LaneJudged.{IsLaneJudged}
use Rattle.fabric_between_command.specs.Answer.{IsBetweenAnswer, sources}
use Rattle.fabric_judge_call.specs.declared.words.Call.{Call}
use Rattle.fabric_judge_call.specs.declared.words.Task.{Task}
use Rattle.fabric_judge_call.specs.declared.words.Task.TheVariants.{Answer, Route, Repair, Repaired, Lanes, LanesDot, Between}
use Rattle.fabric_judge_call.specs.Questions.{IsAnswerToQuestion}
use Rattle.fabric_judge_call.specs.Words.{AreNoCall, IsCall}
use Rattle.fabric_repair_commands.specs.Given.{gives_repair, gives_repaired}
use Rattle.fabric_route_command.specs.Routed.{IsRouteAnswer}

-- the sources of a call's third and fourth file
pub record More : Type 0 where
  pub third : Seen
  pub fourth : Seen

abbrev pub more : (third fourth : Seen) → More
more third fourth = record { third = third; fourth = fourth }

-- `route` leaves all but the topology alone
pub record IsRouteAnswerOf (traffic : Traffic) (has has' : More) (old new : Streams) (answer : ℕ) : Type 0 where
  pub more_kept : has' ≡ has
  pub tables_kept : new.read.tables ≡ old.read.tables
  pub answers :
      IsRouteAnswer traffic old.read.topology new.read.topology old.out new.out old.err new.err answer

-- a command over lanes asks for the levels that the word of its fourth file names
pub record IsLanesAnswerOf (gives : Asked → LaneGives) (words : List (List ℕ)) (call : Call) (has has' : More)
    (old new : Streams) (answer : ℕ)
    : Type 0 where
  pub asked : Asked
  pub names :
      (word : List ℕ) → slice_get words (slice_index call.files 3) ≡ Some word → IsAskedBy word asked.levels
  pub replies : asked.replies ≡ call.replies
  pub silent : asked.silent ≡ call.silent
  pub answers :
      IsLaneAnswer (gives asked) asked (lane_sources old.read.topology old.read.tables has.third has.fourth)
      (lane_sources new.read.topology new.read.tables has'.third has'.fourth) old.out new.out old.err new.err answer

-- `between` reads new tables from the source of the third file
pub record IsBetweenAnswerOf (has has' : More) (old new : Streams) (answer : ℕ) : Type 0 where
  pub fourth_kept : has'.fourth ≡ has.fourth
  pub answers :
      IsBetweenAnswer (sources old.read.topology old.read.tables has.third)
      (sources new.read.topology new.read.tables has'.third) old.out new.out old.err new.err answer

-- a command that reads a topology and tables leaves the other sources alone
abbrev pub IsPlainAnswer : Gives → (has has' : More) → (old new : Streams) → ℕ → Type 0
IsPlainAnswer gives has has' old new answer = (has' ≡ has) × IsAnswer gives old new answer

-- the answer of a task, by the words of a call and what they say
abbrev pub IsAnswerOf : Task → List (List ℕ) → Call → (has has' : More) → (old new : Streams) → ℕ → Type 0
IsAnswerOf (Answer question) words call has has' old new answer =
    (has'.fourth ≡ has.fourth) × IsAnswerToQuestion question call.traffic has.third has'.third old new answer
IsAnswerOf Route words call has has' old new answer = IsRouteAnswerOf call.traffic has has' old new answer
IsAnswerOf Repair words call has has' old new answer =
    IsPlainAnswer (gives_repair call.traffic) has has' old new answer
IsAnswerOf Repaired words call has has' old new answer =
    IsPlainAnswer (gives_repaired call.traffic) has has' old new answer
IsAnswerOf Lanes words call has has' old new answer =
    IsLanesAnswerOf (IsLaneJudged call.traffic) words call has has' old new answer
IsAnswerOf LanesDot words call has has' old new answer =
    IsLanesAnswerOf (IsLaneDrawn call.traffic) words call has has' old new answer
IsAnswerOf Between words call has has' old new answer = IsBetweenAnswerOf has has' old new answer

-- the answer to words: that of the call that they are, and the usage lines if they are none
pub record IsAnswerTo (words : List (List ℕ)) (has has' : More) (old new : Streams) (answer : ℕ) : Type 0 where
  pub call : (call : Call) → IsCall words call → IsAnswerOf call.task words call has has' old new answer
  pub usage : AreNoCall words → (has' ≡ has) × IsUsageAnswer old new answer
