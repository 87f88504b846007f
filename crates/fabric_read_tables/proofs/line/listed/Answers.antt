use Rattle.fabric_read_tables.proofs.ListLemmas.{none_listed}
use Rattle.fabric_read_tables.proofs.line.listed.Goals as goal

pub returns-then-line-lt7 : goal.returns-then-line-lt7
returns-then-line-lt7 c = none_listed c.args.line.now c.if-line-lt7.true
