-- The lines of a picture of a credit loop over lanes.

use Rattle.std.specs.Prelude.{ℕ, List, [], ◌∷◌, ◌++◌, length}
use Rattle.fabric_print.specs.Answers.{Row}
use Rattle.fabric_print.specs.Pictures.{arrow_row_by, lane_label, loop_word, picture_text_by}
use Rattle.fabric_print_lanes.specs.declared.picture.LaneArrow.{LaneArrow}
use Rattle.fabric_print_lanes.specs.declared.picture.LanePicture.{LanePicture}
use Rattle.fabric_print_lanes.specs.LaneAnswers.{asked_words}

-- a channel: as one without lanes, but for its label, which tells the lane and the service level of the route
abbrev pub lane_arrow_row : LaneArrow → Row
lane_arrow_row one = arrow_row_by (lane_label one.lane one.level) one.arrow

-- which routes were judged, on how many lanes, with which levels, and what loop there is
abbrev pub lane_title : LanePicture → Row
lane_title picture =
    asked_words picture.traffic.now picture.lanes picture.asked ++ loop_word (length picture.arrows.items) ∷ []

abbrev pub lane_picture_text : LanePicture → List ℕ
lane_picture_text picture =
    picture_text_by lane_arrow_row (lane_title picture) picture.names.items picture.arrows.items
