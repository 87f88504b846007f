use Rattle.std.proofs.Common.{◌≤◌}
use Rattle.fabric_tables.specs.Cells.{tables_of}
use Rattle.fabric_routes.specs.Counting.{IsCountOf}
use Rattle.fabric_mixtures.specs.Steps.{IsChangedFor}
use Rattle.fabric_mixtures.proofs.changed.count_for.Given as goal

-- those of the switches so far
abbrev pub invariant-switches : goal.invariant-switches
invariant-switches l = record {
  so_far : IsCountOf (IsChangedFor l.fabric (tables_of l.fn.old) (tables_of l.fn.new) l.lid l.switch) l.count;
  few : l.count ≤ l.switch;
}
