use Rattle.fabric_tables.specs.Cells.{tables_of}
use Rattle.fabric_verdict.proofs.VerifyLemmas.{verified}
use Rattle.fabric_verdict.proofs.verify.verify.Goals as goal

pub returns : goal.returns
returns c = verified c.args.fabric.now (tables_of c.args.cells.now) c.args.traffic c.args.ranks.now c.in_ok-rise.rise c.in_ok-found.found.stopped c.in_ok-rise.ensures c.in_ok-found.ensures.stopped
