use Rattle.std.proofs.Common.{◌<◌, ℕ}
use Rattle.fabric_model.specs.declared.node.EndPort.{EndPort}
use Rattle.fabric_tables.specs.Cells.{tables_of}
use Rattle.fabric_lane_tables.specs.Lanes.{lanes_of}
use Rattle.fabric_lane_tables.specs.Levels.{levels_of}
use Rattle.fabric_lane_witness.specs.Search.{Takes}
use Rattle.fabric_lane_witness.specs.Witness.{lane_channel_of}
use Rattle.fabric_lane_witness.proofs.witness.find_lane_witness.Given as goal

-- no route to a LID so far takes the two
abbrev pub invariant-lids : goal.invariant-lids
invariant-lids l = (other : ℕ) → other < l.lid → (source : EndPort) → Takes l.routing.fabric.now (tables_of l.routing.cells.now) (lanes_of l.routing.lanes.now) l.routing.traffic (levels_of l.routing.levels.now) other (lane_channel_of l.channel) (lane_channel_of l.next) source → ⊥
