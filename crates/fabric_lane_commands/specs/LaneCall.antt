-- The answer to a call of `lanes`, and to one of `dot` with lanes.

use Rattle.std.specs.Prelude.{ℕ, List}
use Rattle.outside.specs.Told.{Seen}
use Rattle.fabric_model.specs.declared.traffic.Traffic.{Traffic}
use Rattle.fabric_print_lanes.specs.declared.answer.Asked.{Asked}
use Rattle.fabric_call.specs.declared.status.Status.{Status}
use Rattle.fabric_call.specs.Answer.{IsAnswerBy}
use Rattle.fabric_lane_commands.specs.Inputs.{AreRead, IsStop, LaneSources, Told}
use Rattle.fabric_lane_commands.specs.LaneDrawn.{IsLaneDrawn}
use Rattle.fabric_lane_commands.specs.LaneJudged.{IsLaneJudged}

-- for what the sources tell: the status with which a command ends, and what it writes
abbrev pub LaneGives : Type 1
LaneGives = Told → Status → List ℕ → Type 0

-- the sources were read to their ends, and this is given for what they tell
pub record IsGiven (gives : LaneGives) (asked : Asked) (old new : LaneSources) (status : Status)
    (written : List ℕ)
    : Type 0 where
  pub told : Told
  pub read : AreRead asked old new told
  pub given : gives told status written

-- the answer of a command
abbrev pub IsLaneAnswer :
    LaneGives → Asked → (old new : LaneSources) (out out' err err' : Seen) (answer : ℕ) → Type 0
IsLaneAnswer gives asked old new = IsAnswerBy (IsGiven gives asked old new) (IsStop asked old new)

-- that of `lanes`, which gives the verdict, and that of `dot`, which gives a picture
abbrev pub IsLanesAnswer :
    Traffic → Asked → (old new : LaneSources) (out out' err err' : Seen) (answer : ℕ) → Type 0
IsLanesAnswer traffic asked old new out out' err err' answer =
    IsLaneAnswer (IsLaneJudged traffic asked) asked old new out out' err err' answer

abbrev pub IsLanesDrawn :
    Traffic → Asked → (old new : LaneSources) (out out' err err' : Seen) (answer : ℕ) → Type 0
IsLanesDrawn traffic asked old new out out' err err' answer =
    IsLaneAnswer (IsLaneDrawn traffic asked) asked old new out out' err err' answer
