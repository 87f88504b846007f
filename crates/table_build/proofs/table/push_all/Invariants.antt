use Rattle.table_build.specs.Tables.{AreRowsBelow}
use Rattle.table_build.proofs.table.push_all.Given as goal

-- the rows of the entries so far
abbrev pub invariant-entries : goal.invariant-entries
invariant-entries l = AreRowsBelow l.graph l.numbers l.any l.x l.entry l.rows.items
