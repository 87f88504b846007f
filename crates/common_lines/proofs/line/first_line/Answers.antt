use Rattle.std.proofs.Common.{sym, arith}
use Rattle.std.proofs.lemmas.Bool.Decides.{nat_tests}
use Rattle.common_lines.proofs.LineLemmas.{no_lines, first_at_feed, first_is_all}
use Rattle.common_lines.proofs.line.first_line.Goals as goal

pub returns-then-is_empty-clause-none : goal.returns-then-is_empty-clause-none
returns-then-is_empty-clause-none c = no_lines c.args.bytes.now (grind (arith, nat_tests))

pub returns-in-Some-clause-some : goal.returns-in-Some-clause-some
returns-in-Some-clause-some c = first_at_feed c.args.bytes.now c.without_return.result.now c.in-Some.end (sym c.in-Some.ensures) c.without_return.ensures

pub returns-in-None-clause-some : goal.returns-in-None-clause-some
returns-in-None-clause-some c = first_is_all c.args.bytes.now (sym c.in-None.ensures) (grind (arith, nat_tests))
