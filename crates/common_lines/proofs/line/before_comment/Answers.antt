use Rattle.std.proofs.Common.{sym, eqb}
use Rattle.common_lines.proofs.LineLemmas.{before_some, before_none}
use Rattle.common_lines.proofs.line.before_comment.Goals as goal

pub returns-in-Some : goal.returns-in-Some
returns-in-Some c = before_some (λ b. eqb b 35) c.args.line.now c.in-Some.end (sym c.in-Some.ensures)

pub returns-in-None : goal.returns-in-None
returns-in-None c = before_none (λ b. eqb b 35) c.args.line.now (sym c.in-None.ensures)
