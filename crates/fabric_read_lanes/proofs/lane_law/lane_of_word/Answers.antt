use Rattle.fabric_read_lanes.proofs.LaneLemmas.{lane_of_word}
use Rattle.fabric_read_lanes.proofs.lane_law.lane_of_word.Goals as goal

pub returns : goal.returns
returns c = lane_of_word
