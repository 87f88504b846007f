use Rattle.fabric_tables.specs.Cells.{tables_of}
use Rattle.fabric_route_command.specs.Loads.{AreLoadsUntil, AreReady}
use Rattle.fabric_route_command.proofs.loads.Loads.add_lid.Given as goal

abbrev pub invariant-switches : goal.invariant-switches
invariant-switches l = record {
  loads : AreLoadsUntil l.fabric (tables_of l.cells) l.lid l.start l.self;
  rooms : AreReady l.fabric (tables_of l.cells) l.lid l.rooms;
}
