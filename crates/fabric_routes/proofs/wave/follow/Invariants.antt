use Rattle.std.proofs.Common.{◌≡◌, length}
use Rattle.fabric_tables.specs.Cells.{tables_of}
use Rattle.fabric_model.specs.Fabric.{switch_count}
use Rattle.fabric_routes.specs.Waves.{IsFurther, IsGraphOf, gap}
use Rattle.fabric_routes.proofs.wave.follow.Given as goal

-- each turn carries the waves further
abbrev pub invariant-turns : goal.invariant-turns
invariant-turns l = record {
  further : IsFurther l.fabric (tables_of l.cells) l.block (record { seen = l.fn.seen; graph = l.fn.graph; stopped = l.stopped }) (record { seen = l.seen; graph = l.graph; stopped = l.stops }) l.fn.done l.done;
  seen_count : length l.seen ≡ switch_count l.fabric;
  done_count : length l.done ≡ switch_count l.fabric;
  graph : IsGraphOf l.fabric l.graph;
}

abbrev pub decreases-turns : goal.decreases-turns
decreases-turns l = gap l.done
