use Rattle.std.proofs.Common.{◌≡◌, ◌++◌, ◌≤◌, ◌-◌, map, length, take, drop}
use Rattle.table_script.specs.Tables.{with_number_at}
use Rattle.table_script.proofs.tables.Tables.into_numbered.Given as goal

-- the rows before the place have the numbers of their switches
abbrev pub invariant-rows : goal.invariant-rows
invariant-rows l = record {
  count : length l.rows.items ≡ length l.fn.self.rows;
  low : l.i ≤ length l.fn.self.rows;
  rows : l.rows.items ≡ map (with_number_at l.numbers.items) (take l.i l.fn.self.rows) ++ drop l.i l.fn.self.rows;
}

abbrev pub decreases-rows : goal.decreases-rows
decreases-rows l = length l.rows.items - l.i
