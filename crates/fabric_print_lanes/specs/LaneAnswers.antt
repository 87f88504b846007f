-- The lines of an answer for tables with lanes.

use Rattle.std.specs.Prelude.{◌==◌, ℕ, Bool, true, false, Option, Some, None, List, [], ◌∷◌, ◌++◌, map, codes, if◌then◌else◌}
use Rattle.std.specs.Fmt.{decimal}
use Rattle.common_lines.specs.Lines.{lines_text}
use Rattle.fabric_print.specs.Answers.{Row, channels_row, cycle_rows_by, guid_word, name_row, read_row, routes_row, unset_rows}
use Rattle.fabric_print_lanes.specs.declared.answer.Asked.{Asked}
use Rattle.fabric_print_lanes.specs.declared.answer.LaneAnswer.{LaneAnswer}
use Rattle.fabric_print_lanes.specs.declared.answer.LaneLosses.{LaneLosses}
use Rattle.fabric_print_lanes.specs.declared.answer.LaneLost.{LaneLost}
use Rattle.fabric_print_lanes.specs.declared.answer.LaneStep.{LaneStep}
use Rattle.fabric_print_lanes.specs.declared.answer.LevelsAsked.{LevelsAsked}
use Rattle.fabric_print_lanes.specs.declared.answer.LevelsAsked.TheVariants.{File, Same, Any}
use Rattle.fabric_print_lanes.specs.declared.answer.LossCause.{LossCause}
use Rattle.fabric_print_lanes.specs.declared.answer.Mute.{Mute}
use Rattle.fabric_print_lanes.specs.declared.answer.LossCause.TheVariants.{Missing, Dead, Wrong, Discard, Loop}

-- with which levels it was judged: those of a file, one, or all sixteen
abbrev pub levels_word : LevelsAsked → List ℕ
levels_word File = codes "file"
levels_word (Same level) = decimal level
levels_word Any = codes "any"

-- that replies do not have the levels of their requests, and the level of pairs that have none
abbrev pub replies_words : Bool → Row
replies_words true = []
replies_words false = codes "replies no" ∷ []

abbrev pub silent_words : Option ℕ → Row
silent_words None = []
silent_words (Some level) = codes "silent" ∷ decimal level ∷ []

-- which routes were judged, on how many lanes, and with which levels
abbrev pub asked_words : (traffic : List ℕ) (lanes : ℕ) → Asked → Row
asked_words traffic lanes asked =
    traffic ∷ codes "lanes" ∷ decimal lanes ∷ codes "levels" ∷ levels_word asked.levels
    ∷ (replies_words asked.replies ++ silent_words asked.silent)

abbrev pub lane_judged_row : (traffic : List ℕ) (lanes : ℕ) → Asked → Row
lane_judged_row traffic lanes asked = codes "judged" ∷ codes "traffic" ∷ asked_words traffic lanes asked

-- the pairs without a level, if there are any
abbrev pub silent_rows : ℕ → List Row
silent_rows silent = if silent == 0 then [] else (codes "silent" ∷ decimal silent ∷ []) ∷ []

-- the first of them
abbrev pub mute_rows : Option Mute → List Row
mute_rows None = []
mute_rows (Some pair) =
    (codes "mute" ∷ codes "lid" ∷ decimal pair.lid ∷ codes "from" ∷ guid_word pair.source ∷ []) ∷ []

-- a channel of the cycle, with the route that takes it and the next one
abbrev pub lane_channel_row : LaneStep → Row
lane_channel_row one =
    codes "channel" ∷ guid_word one.step.guid ∷ decimal one.step.port ∷ codes "lane" ∷ decimal one.lane
    ∷ codes "lid" ∷ decimal one.step.lid ∷ codes "from" ∷ guid_word one.step.source
    ∷ codes "level" ∷ decimal one.level ∷ []

-- a cycle that was found with all sixteen levels
abbrev pub note_rows : LevelsAsked → List LaneStep → List Row
note_rows Any (one ∷ rest) = (codes "note" ∷ codes "the levels in use need not close it" ∷ []) ∷ []
note_rows levels cycle = []

abbrev pub lane_losses_row : LaneLosses → Row
lane_losses_row losses =
    codes "lost" ∷ decimal losses.all ∷ codes "missing" ∷ decimal losses.missing
    ∷ codes "dead" ∷ decimal losses.dead ∷ codes "wrong" ∷ decimal losses.wrong
    ∷ codes "discard" ∷ decimal losses.discard ∷ codes "loop" ∷ decimal losses.looping ∷ []

abbrev pub loss_word : LossCause → List ℕ
loss_word Missing = codes "missing"
loss_word Dead = codes "dead"
loss_word Wrong = codes "wrong"
loss_word Discard = codes "discard"
loss_word Loop = codes "loop"

abbrev pub lane_lost_row : LaneLost → Row
lane_lost_row lost =
    loss_word lost.cause ∷ codes "lid" ∷ decimal lost.lid ∷ codes "from" ∷ guid_word lost.source
    ∷ codes "level" ∷ decimal lost.level ∷ codes "at" ∷ guid_word lost.at ∷ []

-- the routes that are lost, if any are
abbrev pub lane_lost_rows : LaneLosses → List LaneLost → List Row
lane_lost_rows losses lost = if losses.all == 0 then [] else lane_losses_row losses ∷ map lane_lost_row lost

-- all of it
unfoldable pub lane_answer_rows : LaneAnswer → List Row
lane_answer_rows answer =
    (codes "fabric" ∷ codes "1" ∷ []) ∷ read_row answer.read
    ∷ lane_judged_row answer.traffic.now answer.lanes answer.asked
    ∷ routes_row answer.routes
    ∷ (silent_rows answer.silent ++ mute_rows answer.mute ++ (channels_row answer.channels answer.dependencies ∷ [])
    ++ cycle_rows_by lane_channel_row answer.cycle.items ++ note_rows answer.asked.levels answer.cycle.items
    ++ lane_lost_rows answer.losses answer.lost.items ++ unset_rows answer.unset ++ map name_row answer.names.items)

abbrev pub lane_answer_text : LaneAnswer → List ℕ
lane_answer_text answer = lines_text (lane_answer_rows answer)
