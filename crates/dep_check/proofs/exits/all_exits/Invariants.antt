use Rattle.std.proofs.Common.{None}
use Rattle.dep_check.specs.Tables.{AreExitsBelow}
use Rattle.dep_check.proofs.exits.all_exits.Given as goal

-- the exits of the rows so far
abbrev pub invariant-rows : goal.invariant-rows
invariant-rows l = AreExitsBelow l.rows None l.row-index l.table.items
