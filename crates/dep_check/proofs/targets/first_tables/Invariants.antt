use Rattle.std.proofs.Common.{◌≡◌, ◌<◌, ℕ, List, length}
use Rattle.an_base.specs.Rows.{RowOf}
use Rattle.dep_check.specs.Targets.{IsTableBelow, table_of}
use Rattle.dep_check.proofs.targets.first_tables.Given as goal

-- the tables of the numbers so far
abbrev pub invariant-numbers : goal.invariant-numbers
invariant-numbers l = record {
  count : length l.tables.items ≡ l.number;
  each : (rows : List RowOf) (number : ℕ) → number < l.number → IsTableBelow rows l.numbers 0 number (table_of l.tables.items number);
}
