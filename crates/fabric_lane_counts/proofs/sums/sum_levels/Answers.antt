use Rattle.std.proofs.Common.{◌+◌, ℕ, arith, subst, sym}
use Rattle.fabric_tables.specs.Cells.{tables_of}
use Rattle.fabric_lane_counts.specs.Sums.{AreSums}
use Rattle.fabric_lane_counts.proofs.SumLemmas.{first_sums, routes_of_all, silent_of_all, unowned_of_all}
use Rattle.fabric_lane_tables.specs.Levels.{levels_of}
use Rattle.fabric_lane_counts.proofs.sums.sum_levels.Goals as goal

pub places-init : goal.places-init
places-init c = first_sums c.args.routing.now.fabric.now (tables_of c.args.routing.now.cells.now) c.args.routing.now.traffic (levels_of c.args.routing.now.levels.now)

pub with_source-sums-requires-clause-sums : goal.with_source-sums-requires-clause-sums
with_source-sums-requires-clause-sums c = subst (λ (n : ℕ). AreSums c.args.routing.now.fabric.now (tables_of c.args.routing.now.cells.now) c.args.routing.now.traffic (levels_of c.args.routing.now.levels.now) n 0 c.places.sums) (sym c.end_port_at.ensures.place) c.places.invariant

pub places-preserved : goal.places-preserved
places-preserved c = subst (λ (n : ℕ). AreSums c.args.routing.now.fabric.now (tables_of c.args.routing.now.cells.now) c.args.routing.now.traffic (levels_of c.args.routing.now.levels.now) (n + 1) 0 c.with_source-sums.result) c.end_port_at.ensures.place c.with_source-sums.ensures

pub returns-clause-routes : goal.returns-clause-routes
returns-clause-routes c = routes_of_all c.args.routing.now.fabric.now (tables_of c.args.routing.now.cells.now) c.args.routing.now.traffic (levels_of c.args.routing.now.levels.now) c.places.place c.places.sums (omega arith) c.places.invariant

pub returns-clause-unowned : goal.returns-clause-unowned
returns-clause-unowned c = unowned_of_all c.args.routing.now.fabric.now (tables_of c.args.routing.now.cells.now) c.args.routing.now.traffic (levels_of c.args.routing.now.levels.now) c.places.place c.places.sums (omega arith) c.places.invariant

pub returns-clause-silent : goal.returns-clause-silent
returns-clause-silent c = silent_of_all c.args.routing.now.fabric.now (tables_of c.args.routing.now.cells.now) c.args.routing.now.traffic (levels_of c.args.routing.now.levels.now) c.places.place c.places.sums (omega arith) c.places.invariant

pub returns-clause-few : goal.returns-clause-few
returns-clause-few c = (let few = c.places.invariant.few in omega arith)
