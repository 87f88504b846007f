use Rattle.fabric_tables.specs.Cells.{tables_of}
use Rattle.fabric_verdict.proofs.VerifyLemmas.{all_fall}
use Rattle.fabric_verdict.proofs.verify.find_rise.Goals as goal

pub returns-in-None : goal.returns-in-None
returns-in-None c = all_fall c.args.fabric.now (tables_of c.args.cells.now) c.args.traffic c.args.graph.now c.requires.graph c.args.ranks.now (rw c.in-None.is at c.first_rise.ensures)
