use Rattle.std.proofs.Common.{◌∙◌, sym, arith}
use Rattle.fabric_tables.specs.Cells.{tables_of}
use Rattle.fabric_lane_counts.proofs.StepLemmas.{mute_counts, silent_counts, told_counts}
use Rattle.fabric_lane_tables.specs.Lanes.{lanes_of}
use Rattle.fabric_lane_tables.specs.Levels.{levels_of}
use Rattle.fabric_lane_counts.proofs.counts.LaneCounts.add_source.Goals as goal

pub returns-in_default-clause-counts : goal.returns-in_default-clause-counts
returns-in_default-clause-counts c = silent_counts c.args.routing.now.fabric.now (tables_of c.args.routing.now.cells.now) (lanes_of c.args.routing.now.lanes.now) c.args.routing.now.traffic (levels_of c.args.routing.now.levels.now) c.args.lid c.args.self.now c.args.source c.requires.source (λ sends. c.in_default.ensures.begin ((c.requires.audience c.args.source).0 sends)) c.requires.counts

pub returns-then-told-eq0-clause-counts : goal.returns-then-told-eq0-clause-counts
returns-then-told-eq0-clause-counts c = mute_counts c.args.routing.now.fabric.now (tables_of c.args.routing.now.cells.now) (lanes_of c.args.routing.now.lanes.now) c.args.routing.now.traffic (levels_of c.args.routing.now.levels.now) c.args.lid c.args.self.now c.args.source c.requires.source ((c.requires.audience c.args.source).1 c.in-Some.ensures.begin.0) (sym c.levels-told.ensures ∙ c.if-told-eq0.true) c.requires.counts

pub returns-clause-counts : goal.returns-clause-counts
returns-clause-counts c = told_counts c.args.routing.now.fabric.now (tables_of c.args.routing.now.cells.now) (lanes_of c.args.routing.now.lanes.now) c.args.routing.now.traffic (levels_of c.args.routing.now.levels.now) c.args.lid c.args.self.now c.args.source c.levels-told.result c.add_levels.new.self c.requires.source (sym c.levels-told.ensures) c.if-told-eq0.false (omega arith) c.add_levels.ensures.silent c.add_levels.ensures.routes c.add_levels.ensures.unowned
    (c.add_levels.ensures.counts (sym c.levels-told.ensures) ((c.requires.audience c.args.source).1 c.in-Some.ensures.begin.0) c.requires.counts.exact) c.requires.counts
