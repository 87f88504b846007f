use Rattle.fabric_tables.specs.Cells.{tables_of}
use Rattle.fabric_lane_tables.specs.Lanes.{lanes_of}
use Rattle.fabric_lane_witness.specs.Search.{GoesOn}
use Rattle.fabric_lane_witness.specs.Witness.{lane_channel_of}
use Rattle.fabric_lane_witness.proofs.TakeLemmas.{AreBelow}
use Rattle.fabric_lane_witness.proofs.witness.levels_on.Given as goal

-- the levels so far
abbrev pub invariant-levels : goal.invariant-levels
invariant-levels l = AreBelow (λ level. GoesOn l.routing.fabric.now (tables_of l.routing.cells.now) (lanes_of l.routing.lanes.now) l.lid level (lane_channel_of l.fn.channel) (lane_channel_of l.next)) l.level l.word
