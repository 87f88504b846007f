use Rattle.std.proofs.Common.{arith}
use Rattle.table_build.proofs.BestLemmas.{better_both}
use Rattle.table_build.proofs.best.better.Goals as goal

pub returns : goal.returns
returns c = better_both c.args.a c.args.b (omega (arith, c.if-a-b.false, c.if-b-a.false))
