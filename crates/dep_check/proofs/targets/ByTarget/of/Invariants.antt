use Rattle.dep_check.specs.Targets.{AreTablesBelow}
use Rattle.dep_check.proofs.targets.ByTarget.of.Given as goal

-- the tables of the rows so far
abbrev pub invariant-rows : goal.invariant-rows
invariant-rows l = AreTablesBelow l.rows l.numbers l.row-index l.tables.items
