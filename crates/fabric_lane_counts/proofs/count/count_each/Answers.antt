use Rattle.std.proofs.Common.{◌*◌, arith}
use Rattle.fabric_tables.specs.Cells.{tables_of}
use Rattle.fabric_lane_counts.proofs.StepLemmas.{all_counts, few_lost}
use Rattle.fabric_routes.proofs.StartLemmas.{sent_low}
use Rattle.fabric_lane_tables.specs.Lanes.{lanes_of}
use Rattle.fabric_lane_tables.specs.Levels.{levels_of}
use Rattle.fabric_lane_counts.proofs.count.count_each.Goals as goal

pub returns-clause-counts : goal.returns-clause-counts
returns-clause-counts c = all_counts c.args.routing.now.fabric.now (tables_of c.args.routing.now.cells.now) (lanes_of c.args.routing.now.lanes.now) c.args.routing.now.traffic (levels_of c.args.routing.now.levels.now) (64 * c.args.routing.now.cells.now.blocks) c.count_lids.result (sent_low c.args.routing.now.fabric.now (tables_of c.args.routing.now.cells.now) c.args.routing.now.traffic c.args.routing.now.cells.now.blocks c.args.routing.now.owners c.count_lids.ensures.past) c.count_lids.ensures.counts

pub returns-clause-few : goal.returns-clause-few
returns-clause-few c = few_lost c.args.routing.now.fabric.now (tables_of c.args.routing.now.cells.now) (lanes_of c.args.routing.now.lanes.now) c.args.routing.now.traffic (levels_of c.args.routing.now.levels.now) (64 * c.args.routing.now.cells.now.blocks) c.count_lids.result (let low = c.count_lids.ensures.low in omega arith) c.count_lids.ensures.counts
