use Rattle.std.proofs.Common.{◌+◌, Some, refl, subst, sym}
use Rattle.fabric_tables.specs.Cells.{tables_of}
use Rattle.fabric_lane_counts.specs.declared.counts.LostLaneRoute.{LostLaneRoute}
use Rattle.fabric_lane_counts.specs.LaneCounts.{IsLoss}
use Rattle.fabric_lane_counts.specs.Steps.{IsUpTo}
use Rattle.fabric_lane_counts.proofs.StepLemmas.{told_before, told_now}
use Rattle.fabric_lane_tables.specs.Lanes.{lanes_of}
use Rattle.fabric_lane_tables.specs.Levels.{levels_of}
use Rattle.fabric_lane_counts.proofs.counts.LaneLoss.add.Goals as goal

pub returns-then-not-is_less-clause-loss : goal.returns-then-not-is_less-clause-loss
returns-then-not-is_less-clause-loss c = λ lost sends ends is. told_before c.args.routing.now.fabric.now (tables_of c.args.routing.now.cells.now) (lanes_of c.args.routing.now.lanes.now) c.args.routing.now.traffic (levels_of c.args.routing.now.levels.now) c.args.route.lid c.args.route.source c.args.route.level sends c.args.route.start c.requires.begins c.args.outcome ends (c.args.self.now.count + 1) c.args.self.now refl (λ lesser. absurd (let t = c.is_less.ensures.1 lesser in let f = c.if-not-is_less.true in cc)) is

pub returns-clause-loss : goal.returns-clause-loss
returns-clause-loss c = λ lost sends ends is.
    subst (λ (least : LostLaneRoute). IsLoss c.args.routing.now.fabric.now (tables_of c.args.routing.now.cells.now) (lanes_of c.args.routing.now.lanes.now) (IsUpTo c.args.routing.now c.args.route) c.args.outcome (record { count = c.args.self.now.count + 1; least = Some least })) (sym c.lost.ensures)
    (told_now c.args.routing.now.fabric.now (tables_of c.args.routing.now.cells.now) (lanes_of c.args.routing.now.lanes.now) c.args.routing.now.traffic (levels_of c.args.routing.now.levels.now) c.args.route.lid c.args.route.source c.args.route.level sends c.args.route.start c.requires.begins c.args.outcome ends (c.args.self.now.count + 1) c.args.self.now c.lane_lost_at-at.result refl (c.is_less.ensures.0 c.if-not-is_less.false) (c.lane_lost_at-at.ensures lost ends) is)
