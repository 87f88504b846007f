use Rattle.fabric_tables.specs.Cells.{tables_of}
use Rattle.fabric_counts.specs.Counts.{Route}
use Rattle.fabric_routes.proofs.CountLemmas.{count_same}
use Rattle.fabric_route_command.specs.Measured.{IsOneArriving}
use Rattle.fabric_route_command.proofs.GreatestLemmas.{hops_are}
use Rattle.fabric_route_command.proofs.measured.measure.Goals as goal

pub returns : goal.returns
returns c =
    let fabric = c.args.fabric.now in
    let tables = tables_of c.args.cells.now in
    let loads = c.in_ok-loads.ensures.loads in
    record {
      routes = count_same Route (λ route. IsOneArriving fabric tables route × Unit {0}) (IsOneArriving fabric tables) c.in_ok-loads.loads.routes
          (λ route one. one.0) (λ route arrives. (arrives, tt)) loads.arrived.routes;
      hops = hops_are fabric tables c.in_ok-loads.ensures.fabric c.in_ok-loads.loads loads;
      most = λ route links over. loads.arrived.most route links over tt;
      some = loads.arrived.some;
      greatest = c.greatest.ensures fabric tables c.in_ok-loads.ensures.fabric loads;
    }
