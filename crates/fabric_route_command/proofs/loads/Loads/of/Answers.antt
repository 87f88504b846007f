use Rattle.std.proofs.Common.{arith}
use Rattle.fabric_tables.specs.Cells.{tables_of}
use Rattle.fabric_route_command.proofs.LoadLemmas.{all_loads}
use Rattle.fabric_route_command.proofs.LongestLemmas.{arrived_all}
use Rattle.fabric_route_command.proofs.loads.Loads.of.Goals as goal

pub returns-clause-loads : goal.returns-clause-loads
returns-clause-loads c =
    let fabric = c.args.fabric.now in
    let tables = tables_of c.args.cells.now in
    record {
      exact = all_loads fabric tables c.lids.lid c.lids.loads (omega arith) c.lids.invariant.loads.exact;
      arrived = arrived_all fabric tables c.lids.lid c.lids.loads (omega arith) c.lids.invariant.loads.arrived;
    }
