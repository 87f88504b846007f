use Rattle.std.proofs.Common.{ℕ, subst, sym}
use Rattle.std.proofs.lemmas.Bool.{OnTrue_at}
use Rattle.fabric_tables.specs.Cells.{tables_of}
use Rattle.fabric_lane_counts.specs.Keep.{IsKept}
use Rattle.fabric_lane_counts.specs.LaneCounts.{AreLaneCounts}
use Rattle.fabric_lane_tables.specs.declared.levels.Levels.{Levels}
use Rattle.fabric_lane_tables.specs.Lanes.{lanes_of}
use Rattle.fabric_lane_tables.specs.Levels.{levels_of}
use Rattle.fabric_lane_counts.proofs.count.count_alike.Goals as goal

pub returns-clause-counts : goal.returns-clause-counts
returns-clause-counts c =
    subst (λ (levels : Levels). AreLaneCounts c.args.routing.now.fabric.now (tables_of c.args.routing.now.cells.now) (lanes_of c.args.routing.now.lanes.now) c.args.routing.now.traffic (levels_of levels) c.alike_counts.result) (sym c.requires)
    (c.alike_counts.ensures.counts c.args.routing.now.fabric.now (tables_of c.args.routing.now.cells.now) (lanes_of c.args.routing.now.lanes.now) c.args.routing.now.traffic c.is_kept.ensures.fabric
    (subst (λ (n : ℕ). IsKept c.args.routing.now.fabric.now (lanes_of c.args.routing.now.lanes.now) n) c.from.ensures (OnTrue_at c.if-not-is_kept.false c.is_kept.ensures.kept)) c.in_ok-counts.ensures.counts)
