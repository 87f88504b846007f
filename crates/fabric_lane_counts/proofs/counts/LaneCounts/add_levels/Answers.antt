use Rattle.std.proofs.Common.{◌+◌, ℕ, arith, max, subst, sym}
use Rattle.fabric_tables.specs.Cells.{tables_of}
use Rattle.fabric_counts.specs.Counts.{hop_for}
use Rattle.fabric_counts.specs.Steps.{unowned_of}
use Rattle.fabric_lane_counts.specs.LaneCounts.{AreCountsOf}
use Rattle.fabric_lane_counts.specs.Steps.{IsBeforeLevel}
use Rattle.fabric_lane_counts.proofs.LevelLemmas.{all_levels}
use Rattle.fabric_model.specs.Fabric.{owner_of}
use Rattle.fabric_routes.specs.Routes.{EndsAs}
use Rattle.fabric_lane_tables.specs.Lanes.{lanes_of}
use Rattle.fabric_lane_tables.specs.Levels.{levels_of}
use Rattle.fabric_lane_counts.proofs.counts.LaneCounts.add_levels.Goals as goal

pub returns-in-Some-clause-counts : goal.returns-in-Some-clause-counts
returns-in-Some-clause-counts c = λ same sends are.
    let all = c.in-Some.ensures in
    subst (AreCountsOf c.args.routing.now.fabric.now (tables_of c.args.routing.now.cells.now) (lanes_of c.args.routing.now.lanes.now) (IsBeforeLevel c.args.routing.now c.args.sender.lid c.args.sender.source 16)) (sym c.add_arrived.ensures)
    (subst (λ (n : ℕ). AreCountsOf c.args.routing.now.fabric.now (tables_of c.args.routing.now.cells.now) (lanes_of c.args.routing.now.lanes.now) (IsBeforeLevel c.args.routing.now c.args.sender.lid c.args.sender.source 16) (record { routes = c.args.self.now.routes + c.from-routes.result; arrived = c.args.self.now.arrived + c.from-routes.result; unowned = c.args.self.now.unowned + n; hops = max c.args.self.now.hops c.in-Some.switches; lost = c.args.self.now.lost; silent = c.args.self.now.silent })) (sym c.unowned_of-unowned.ensures.count)
    (subst (λ (n : ℕ). AreCountsOf c.args.routing.now.fabric.now (tables_of c.args.routing.now.cells.now) (lanes_of c.args.routing.now.lanes.now) (IsBeforeLevel c.args.routing.now c.args.sender.lid c.args.sender.source 16) (record { routes = c.args.self.now.routes + n; arrived = c.args.self.now.arrived + n; unowned = c.args.self.now.unowned + unowned_of (owner_of c.args.routing.now.fabric.now c.args.sender.lid) n; hops = max c.args.self.now.hops c.in-Some.switches; lost = c.args.self.now.lost; silent = c.args.self.now.silent })) (sym c.from-routes.ensures)
    (all_levels c.args.routing.now.fabric.now (tables_of c.args.routing.now.cells.now) (lanes_of c.args.routing.now.lanes.now) c.args.routing.now.traffic (levels_of c.args.routing.now.levels.now) c.args.sender.lid c.args.sender.source c.args.told same sends c.args.sender.start c.requires.begins c.in-Some.switches
    (subst (EndsAs (hop_for c.args.routing.now.fabric.now (tables_of c.args.routing.now.cells.now) c.args.sender.lid) c.args.sender.start.switch) all.0 c.requires.ends.outcome)
    (λ level one gone. all.1 level one ((c.requires.ends.gone level).1 gone)) (omega arith) c.requires.some c.args.self.now are)))
