use Rattle.std.proofs.lemmas.Bool.{OnTrue_at}
use Rattle.fabric_tables.specs.Cells.{tables_of}
use Rattle.fabric_lane_tables.specs.Lanes.{lanes_of}
use Rattle.fabric_lane_tables.specs.Levels.{levels_of}
use Rattle.fabric_lane_counts.proofs.count.count_told.Goals as goal

pub returns-in-Some-clause-counts : goal.returns-in-Some-clause-counts
returns-in-Some-clause-counts c = c.in-Some.ensures.counts c.args.routing.now.fabric.now (tables_of c.args.routing.now.cells.now) (lanes_of c.args.routing.now.lanes.now) c.args.routing.now.traffic (levels_of c.args.routing.now.levels.now) c.is_kept.ensures.fabric (OnTrue_at c.if-not-is_kept.false c.is_kept.ensures.kept) c.in_ok-counts.ensures.counts c.in_ok-sums.ensures.routes c.in_ok-sums.ensures.unowned c.in_ok-sums.ensures.silent
