use Rattle.fabric_tables.specs.Cells.{tables_of}
use Rattle.fabric_model.specs.Fabric.{switch_count}
use Rattle.fabric_route_command.specs.Loads.{AreLoadsUntil, AreRooms}
use Rattle.fabric_route_command.proofs.loads.Loads.of.Given as goal

abbrev pub invariant-lids : goal.invariant-lids
invariant-lids l = record {
  loads : AreLoadsUntil l.fabric (tables_of l.cells) l.lid 0 l.loads;
  rooms : AreRooms (switch_count l.fabric) l.rooms;
}
