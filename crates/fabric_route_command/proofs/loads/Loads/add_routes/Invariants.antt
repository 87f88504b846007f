use Rattle.std.proofs.Common.{◌<◌}
use Rattle.fabric_tables.specs.Cells.{tables_of}
use Rattle.fabric_model.specs.Fabric.{switch_count}
use Rattle.fabric_routes.specs.Routes.{ComesBy}
use Rattle.fabric_route_command.specs.Loads.{AreLoadsAlong}
use Rattle.fabric_route_command.proofs.loads.Loads.add_routes.Given as goal

abbrev pub invariant-hops : goal.invariant-hops
invariant-hops l = record {
  loads : AreLoadsAlong l.fabric (tables_of l.cells) l.lid l.start l._hops l.self;
  comes : ComesBy l.fabric (tables_of l.cells) l.lid l._hops l.start l.at;
  within : l.at < switch_count l.fabric;
}
