use Rattle.std.proofs.Common.{arith}
use Rattle.fabric_tables.specs.Cells.{tables_of}
use Rattle.fabric_lane_counts.proofs.SumLemmas.{sums_next}
use Rattle.fabric_routes.proofs.StartLemmas.{sent_low}
use Rattle.fabric_lane_tables.specs.Levels.{levels_of}
use Rattle.fabric_lane_counts.proofs.sums.Sums.with_source.Goals as goal

pub returns : goal.returns
returns c = sums_next c.args.routing.now.fabric.now (tables_of c.args.routing.now.cells.now) c.args.routing.now.traffic (levels_of c.args.routing.now.levels.now) c.args.source c.requires.source c.lids.lid c.lids.sums c.lids.invariant
    (λ lid source sends. (let low = sent_low c.args.routing.now.fabric.now (tables_of c.args.routing.now.cells.now) c.args.routing.now.traffic c.args.routing.now.cells.now.blocks c.args.routing.now.owners c.blocks-lid-end.ensures.past lid source sends in omega arith)) (omega arith)
