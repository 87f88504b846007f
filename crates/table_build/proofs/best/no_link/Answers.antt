use Rattle.table_build.proofs.OverLemmas.{none_here, none_there}
use Rattle.table_build.proofs.best.no_link.Goals as goal

pub returns-then-y-from : goal.returns-then-y-from
returns-then-y-from c = λ entries any. none_here entries any c.args.from c.args.y c.if-y-from.true

pub returns : goal.returns
returns c = λ entries any. none_there entries any c.args.from c.args.y c.if-y-from.false
