use Rattle.std.proofs.Common.{sym}
use Rattle.fabric_tables.specs.Cells.{tables_of}
use Rattle.fabric_repair.proofs.writing.copy_cell.Goals as goal

pub returns-in-Some-clause-filled : goal.returns-in-Some-clause-filled
returns-in-Some-clause-filled c = c.put_given.ensures.filled (tables_of c.args.given.now) (sym c.in-Some.ensures)
