use Rattle.fabric_tables.specs.Cells.{tables_of}
use Rattle.fabric_lane_counts.proofs.GoneLemmas.{are_gone}
use Rattle.fabric_lane_tables.specs.Lanes.{lanes_of}
use Rattle.fabric_lane_counts.proofs.gone.put_gone.Goals as goal

pub returns : goal.returns
returns c = are_gone c.args.routing.now.fabric.now (tables_of c.args.routing.now.cells.now) (lanes_of c.args.routing.now.lanes.now) c.args.lid c.rounds.gone c.switches-switches.ensures.fabric (c.rounds.invariant.rest c.rounds-test.false) c.rounds.invariant.some
