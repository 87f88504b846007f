use Rattle.std.proofs.Common.{ap, subst}
use Rattle.fabric_tables.specs.Cells.{tables_of}
use Rattle.fabric_lane_counts.specs.LaneCounts.{IsLaneLost}
use Rattle.fabric_lane_counts.proofs.StepLemmas.{dead_more, discard_more, looping_more, missing_more, wrong_more}
use Rattle.fabric_lane_routes.specs.declared.hop.LaneOutcome.TheVariants.{Stops}
use Rattle.fabric_lane_routes.specs.LaneRoutes.{LaneEndsAs}
use Rattle.fabric_lane_routes.specs.Routing.{hop_by}
use Rattle.fabric_routes.specs.declared.hop.Cause.{Cause}
use Rattle.fabric_lane_tables.specs.Lanes.{lanes_of}
use Rattle.fabric_lane_tables.specs.Levels.{levels_of}
use Rattle.fabric_lane_counts.proofs.counts.LaneLosses.add.Goals as goal

pub returns-in-Arrives-clause-sum : goal.returns-in-Arrives-clause-sum
returns-in-Arrives-clause-sum c = absurd (subst IsLaneLost c.in-Arrives.is c.requires.lost)

pub returns-in-Arrives-clause-losses : goal.returns-in-Arrives-clause-losses
returns-in-Arrives-clause-losses c = absurd (subst IsLaneLost c.in-Arrives.is c.requires.lost)

pub returns-in-Missing-clause-losses : goal.returns-in-Missing-clause-losses
returns-in-Missing-clause-losses c = λ sends ends are.
    let stops = subst (LaneEndsAs (hop_by c.args.routing.now c.args.route.level c.args.route.lid) c.args.route.start) c.in-Stops.is ends in
    missing_more c.args.routing.now.fabric.now (tables_of c.args.routing.now.cells.now) (lanes_of c.args.routing.now.lanes.now) c.args.routing.now.traffic (levels_of c.args.routing.now.levels.now) c.args.route.lid c.args.route.source c.args.route.level sends c.args.route.start c.requires.begins (Stops c.in-Stops.cause) stops c.args.self.now c.add.new.self are (ap (λ (k : Cause). Stops k) c.in-Missing.is) (c.add.ensures.loss tt sends stops)

pub returns-in-Dead-clause-losses : goal.returns-in-Dead-clause-losses
returns-in-Dead-clause-losses c = λ sends ends are.
    let stops = subst (LaneEndsAs (hop_by c.args.routing.now c.args.route.level c.args.route.lid) c.args.route.start) c.in-Stops.is ends in
    dead_more c.args.routing.now.fabric.now (tables_of c.args.routing.now.cells.now) (lanes_of c.args.routing.now.lanes.now) c.args.routing.now.traffic (levels_of c.args.routing.now.levels.now) c.args.route.lid c.args.route.source c.args.route.level sends c.args.route.start c.requires.begins (Stops c.in-Stops.cause) stops c.args.self.now c.add-in-Dead.new.self are (ap (λ (k : Cause). Stops k) c.in-Dead.is) (c.add-in-Dead.ensures.loss tt sends stops)

pub returns-in-Wrong-clause-losses : goal.returns-in-Wrong-clause-losses
returns-in-Wrong-clause-losses c = λ sends ends are.
    let stops = subst (LaneEndsAs (hop_by c.args.routing.now c.args.route.level c.args.route.lid) c.args.route.start) c.in-Stops.is ends in
    wrong_more c.args.routing.now.fabric.now (tables_of c.args.routing.now.cells.now) (lanes_of c.args.routing.now.lanes.now) c.args.routing.now.traffic (levels_of c.args.routing.now.levels.now) c.args.route.lid c.args.route.source c.args.route.level sends c.args.route.start c.requires.begins (Stops c.in-Stops.cause) stops c.args.self.now c.add-in-Wrong.new.self are (ap (λ (k : Cause). Stops k) c.in-Wrong.is) (c.add-in-Wrong.ensures.loss tt sends stops)

pub returns-in-Discards-clause-losses : goal.returns-in-Discards-clause-losses
returns-in-Discards-clause-losses c = λ sends ends are. discard_more c.args.routing.now.fabric.now (tables_of c.args.routing.now.cells.now) (lanes_of c.args.routing.now.lanes.now) c.args.routing.now.traffic (levels_of c.args.routing.now.levels.now) c.args.route.lid c.args.route.source c.args.route.level sends c.args.route.start c.requires.begins c.args.outcome ends c.args.self.now c.add-in-Discards.new.self are c.in-Discards.is (c.add-in-Discards.ensures.loss c.requires.lost sends ends)

pub returns-in-Loops-clause-losses : goal.returns-in-Loops-clause-losses
returns-in-Loops-clause-losses c = λ sends ends are. looping_more c.args.routing.now.fabric.now (tables_of c.args.routing.now.cells.now) (lanes_of c.args.routing.now.lanes.now) c.args.routing.now.traffic (levels_of c.args.routing.now.levels.now) c.args.route.lid c.args.route.source c.args.route.level sends c.args.route.start c.requires.begins c.args.outcome ends c.args.self.now c.add-in-Loops.new.self are c.in-Loops.is (c.add-in-Loops.ensures.loss c.requires.lost sends ends)
