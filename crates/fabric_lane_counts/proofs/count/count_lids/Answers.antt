use Rattle.std.proofs.Common.{sym, subst, ℕ, arith}
use Rattle.fabric_tables.specs.Cells.{tables_of}
use Rattle.fabric_lane_counts.specs.Steps.{AreCountsUntil}
use Rattle.fabric_lane_counts.specs.declared.counts.LaneCounts.{LaneCounts}
use Rattle.fabric_lane_counts.proofs.StepLemmas.{first_counts}
use Rattle.fabric_lane_tables.specs.Lanes.{lanes_of}
use Rattle.fabric_lane_tables.specs.Levels.{levels_of}
use Rattle.fabric_lane_counts.proofs.count.count_lids.Goals as goal

pub lids-init : goal.lids-init
lids-init c = record {
  rooms = c.requires.rooms;
  counts = subst (λ (n : LaneCounts). AreCountsUntil c.args.routing.now.fabric.now (tables_of c.args.routing.now.cells.now) (lanes_of c.args.routing.now.lanes.now) c.args.routing.now.traffic (levels_of c.args.routing.now.levels.now) 0 0 0 n) (sym c.none-counts.ensures) (first_counts c.args.routing.now.fabric.now (tables_of c.args.routing.now.cells.now) (lanes_of c.args.routing.now.lanes.now) c.args.routing.now.traffic (levels_of c.args.routing.now.levels.now));
}

pub returns-clause-counts : goal.returns-clause-counts
returns-clause-counts c = subst (λ (n : ℕ). AreCountsUntil c.args.routing.now.fabric.now (tables_of c.args.routing.now.cells.now) (lanes_of c.args.routing.now.lanes.now) c.args.routing.now.traffic (levels_of c.args.routing.now.levels.now) n 0 0 c.lids.counts) (omega arith) c.lids.invariant.counts
