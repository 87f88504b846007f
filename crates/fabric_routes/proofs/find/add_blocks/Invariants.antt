use Rattle.std.proofs.Common.{◌*◌}
use Rattle.fabric_tables.specs.Cells.{tables_of}
use Rattle.fabric_routes.specs.Finding.{AreFoundBelow}
use Rattle.fabric_routes.specs.Waves.{IsGraphOf}
use Rattle.fabric_routes.proofs.find.add_blocks.Given as goal

abbrev pub invariant-waves : goal.invariant-waves
invariant-waves l = record {
  found : AreFoundBelow l.fabric (tables_of l.cells) l.traffic (64 * l.block) l.fn.graph l.graph l.stopped;
  graph : IsGraphOf l.fabric l.graph;
}
