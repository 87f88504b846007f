use Rattle.std.proofs.Common.{ℕ, ◌+◌, arith}
use Rattle.fabric_tables.specs.Cells.{tables_of}
use Rattle.fabric_counts.specs.Counts.{Route}
use Rattle.fabric_routes.specs.declared.hop.Outcome.TheVariants.{Stops, Loops}
use Rattle.fabric_model.specs.Fabric.{FabricOf}
use Rattle.fabric_tables.specs.Cells.{TablesOf}
use Rattle.fabric_route_command.specs.declared.loads.Loads.{Loads}
use Rattle.fabric_route_command.specs.Loads.{AreLoadsUntil, IsAlong, IsFrom}
use Rattle.fabric_route_command.specs.Measured.{IsOneArriving}
use Rattle.fabric_route_command.proofs.GreatestLemmas.{no_more}
use Rattle.fabric_route_command.proofs.LoadLemmas.{along_first, loads_alike, skipped}
use Rattle.fabric_route_command.proofs.LongestLemmas.{arrived_more, arrived_skipped}
use Rattle.fabric_route_command.proofs.UntilLemmas.{not_lost}
use Rattle.fabric_route_command.proofs.loads.Loads.add_from.Goals as goal

-- no route from the switch arrives
none_from : (fabric : FabricOf) (tables : TablesOf) (lid start : ℕ) (loads : Loads) → ((route : Route) → IsOneArriving fabric tables route → IsFrom fabric tables lid start route → ⊥) → AreLoadsUntil fabric tables lid start loads → AreLoadsUntil fabric tables lid (start + 1) loads
none_from fabric tables lid start loads none are = record {
  exact = skipped fabric tables lid start loads none are.exact;
  arrived = arrived_skipped fabric tables lid start loads none are.arrived;
  few = (let few = are.few in omega arith);
  few_routes = (let few = are.few_routes in omega arith);
}

pub returns-then-routes-eq0-clause-loads : goal.returns-then-routes-eq0-clause-loads
returns-then-routes-eq0-clause-loads c =
    let fabric = c.args.fabric.now in
    let tables = tables_of c.args.cells.now in
    none_from fabric tables c.args.lid c.args.start c.args.self.now
    (λ route arrives from. no_more Route (IsFrom fabric tables c.args.lid c.args.start) c.args.routes c.if-routes-eq0.true c.requires.routes route from) c.requires.loads

pub returns-in-Stops-clause-loads : goal.returns-in-Stops-clause-loads
returns-in-Stops-clause-loads c =
    let fabric = c.args.fabric.now in
    let tables = tables_of c.args.cells.now in
    none_from fabric tables c.args.lid c.args.start c.args.self.now
    (not_lost fabric tables c.args.lid c.args.start (Stops c.in-Stops.field-0) c.in-Stops.ensures.ends (λ switches same. absurd (cc))) c.requires.loads

pub returns-in-Loops-clause-loads : goal.returns-in-Loops-clause-loads
returns-in-Loops-clause-loads c =
    let fabric = c.args.fabric.now in
    let tables = tables_of c.args.cells.now in
    none_from fabric tables c.args.lid c.args.start c.args.self.now
    (not_lost fabric tables c.args.lid c.args.start Loops c.in-Loops.ensures.ends (λ switches same. absurd (cc))) c.requires.loads

pub add_routes-requires-clause-loads : goal.add_routes-requires-clause-loads
add_routes-requires-clause-loads c =
    let fabric = c.args.fabric.now in
    let tables = tables_of c.args.cells.now in
    let old = c.args.self.now in
    let new = c.add_arrived.new.self in
    record {
      exact = loads_alike fabric tables (IsAlong fabric tables c.args.lid c.args.start 0) old new c.add_arrived.ensures.each c.add_arrived.ensures.hops (along_first fabric tables c.args.lid c.args.start old c.requires.loads.exact);
      arrived = arrived_more fabric tables c.args.lid c.args.start c.in-Arrives.switches c.args.routes c.in-Arrives.ensures.ends (let some = c.if-routes-eq0.false in omega arith) c.requires.routes old new c.add_arrived.ensures.routes c.add_arrived.ensures.longest c.requires.loads.arrived;
      few = (let few = c.requires.loads.few in let same = c.add_arrived.ensures.hops in omega arith);
      few_routes = (let few = c.requires.loads.few_routes in let less = c.requires.few in let more = c.add_arrived.ensures.routes in omega arith);
    }
