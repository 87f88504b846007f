use Rattle.std.proofs.Common.{ℕ, arith, subst}
use Rattle.fabric_tables.specs.Cells.{tables_of}
use Rattle.fabric_lane_counts.specs.LaneCounts.{AreCountsOf}
use Rattle.fabric_lane_counts.specs.Steps.{IsBeforeLevel}
use Rattle.fabric_lane_tables.specs.Lanes.{lanes_of}
use Rattle.fabric_lane_counts.proofs.counts.LaneCounts.add_each.Goals as goal

pub returns-clause-counts : goal.returns-clause-counts
returns-clause-counts c = λ same sends are.
    subst (λ (n : ℕ). AreCountsOf c.args.routing.now.fabric.now (tables_of c.args.routing.now.cells.now) (lanes_of c.args.routing.now.lanes.now) (IsBeforeLevel c.args.routing.now c.args.sender.lid c.args.sender.source n) c.levels.self) (omega arith) (c.levels.invariant.counts same sends are)
