use Rattle.std.proofs.Common.{◌≤◌, ◌*◌, ◌^◌}
use Rattle.fabric_tables.specs.Cells.{tables_of}
use Rattle.fabric_routes.specs.Counting.{IsCountOf}
use Rattle.fabric_mixtures.specs.Steps.{IsChangedBelow}
use Rattle.fabric_mixtures.proofs.changed.count_changed.Given as goal

-- those of the LIDs so far
abbrev pub invariant-lids : goal.invariant-lids
invariant-lids l = record {
  so_far : IsCountOf (IsChangedBelow l.fabric (tables_of l.fn.old) (tables_of l.fn.new) l.lid) l.count;
  few : l.count ≤ l.lid * 2 ^ 14;
}
