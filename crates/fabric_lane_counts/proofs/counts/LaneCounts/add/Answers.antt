use Rattle.std.proofs.Common.{◌+◌, ℕ, subst, sym}
use Rattle.fabric_tables.specs.Cells.{tables_of}
use Rattle.fabric_lane_counts.specs.LaneCounts.{AreCountsOf}
use Rattle.fabric_lane_counts.specs.Steps.{IsUpTo}
use Rattle.fabric_lane_counts.proofs.StepLemmas.{not_arrived, one_arrives, one_lost}
use Rattle.fabric_lane_tables.specs.Lanes.{lanes_of}
use Rattle.fabric_lane_tables.specs.Levels.{levels_of}
use Rattle.fabric_lane_counts.proofs.counts.LaneCounts.add.Goals as goal

pub returns-in-Arrives-clause-counts : goal.returns-in-Arrives-clause-counts
returns-in-Arrives-clause-counts c = λ sends ends are.
    subst (λ (n : ℕ). AreCountsOf c.args.routing.now.fabric.now (tables_of c.args.routing.now.cells.now) (lanes_of c.args.routing.now.lanes.now) (IsUpTo c.args.routing.now c.args.route) (record { routes = c.args.self.now.routes + 1; arrived = c.args.self.now.arrived + 1; unowned = c.args.self.now.unowned + n; hops = c.max-self.result; lost = c.args.self.now.lost; silent = c.args.self.now.silent })) (sym c.unowned_of.ensures.count)
    (one_arrives c.args.routing.now.fabric.now (tables_of c.args.routing.now.cells.now) (lanes_of c.args.routing.now.lanes.now) c.args.routing.now.traffic (levels_of c.args.routing.now.levels.now) c.args.route.lid c.args.route.source c.args.route.level sends c.args.route.start c.requires.begins c.args.outcome ends c.in-Arrives.switches c.max-self.result c.args.self.now c.in-Arrives.is c.max-self.ensures are)

pub add-requires-clause-lost : goal.add-requires-clause-lost
add-requires-clause-lost c = not_arrived c.args.outcome c.in_default.not-Arrives

pub returns-in_default-clause-counts : goal.returns-in_default-clause-counts
returns-in_default-clause-counts c = λ sends ends are. one_lost c.args.routing.now.fabric.now (tables_of c.args.routing.now.cells.now) (lanes_of c.args.routing.now.lanes.now) c.args.routing.now.traffic (levels_of c.args.routing.now.levels.now) c.args.route.lid c.args.route.source c.args.route.level sends c.args.route.start c.requires.begins c.args.outcome ends c.args.self.now c.add.new.self (λ switches e. c.in_default.not-Arrives switches (sym e)) c.add.ensures.sum (c.add.ensures.losses sends ends are.lost) are
