use Rattle.fabric_tables.specs.Cells.{tables_of}
use Rattle.fabric_lane_tables.specs.Lanes.{lanes_of}
use Rattle.fabric_lane_tables.specs.Levels.{levels_of}
use Rattle.fabric_lane_witness.specs.Witness.{lane_channel_of}
use Rattle.fabric_lane_witness.proofs.TakeLemmas.{first_takes}
use Rattle.fabric_lane_witness.proofs.witness.first_of_all.Goals as goal

pub returns-in_err-source : goal.returns-in_err-source
returns-in_err-source c = rw c.from_residual.ensures (rw c.in_err-source.was at (first_takes c.args.routing.now.fabric.now (tables_of c.args.routing.now.cells.now) (lanes_of c.args.routing.now.lanes.now) c.args.sought.lid c.args.routing.now.traffic (levels_of c.args.routing.now.levels.now) (lane_channel_of c.args.sought.channel) (lane_channel_of c.args.sought.next) c.requires.fabric c.first_of_kind-host.result c.first_of_kind-switch.result c.lesser.result c.first_of_kind-host.ensures.first c.first_of_kind-switch.ensures.first c.lesser.ensures))

pub returns-in_err-level : goal.returns-in_err-level
returns-in_err-level c =
    let first = rw c.in_ok-source.was at (first_takes c.args.routing.now.fabric.now (tables_of c.args.routing.now.cells.now) (lanes_of c.args.routing.now.lanes.now) c.args.sought.lid c.args.routing.now.traffic (levels_of c.args.routing.now.levels.now) (lane_channel_of c.args.sought.channel) (lane_channel_of c.args.sought.next) c.requires.fabric c.first_of_kind-host.result c.first_of_kind-switch.result c.lesser.result c.first_of_kind-host.ensures.first c.first_of_kind-switch.ensures.first c.lesser.ensures) in
    absurd ((rw c.in_err-level.was at c.least_level.ensures.level) first.is)

pub returns : goal.returns
returns c = record { first = rw c.in_ok-source.was at (first_takes c.args.routing.now.fabric.now (tables_of c.args.routing.now.cells.now) (lanes_of c.args.routing.now.lanes.now) c.args.sought.lid c.args.routing.now.traffic (levels_of c.args.routing.now.levels.now) (lane_channel_of c.args.sought.channel) (lane_channel_of c.args.sought.next) c.requires.fabric c.first_of_kind-host.result c.first_of_kind-switch.result c.lesser.result c.first_of_kind-host.ensures.first c.first_of_kind-switch.ensures.first c.lesser.ensures); lowest = rw c.in_ok-level.was at c.least_level.ensures.level }
