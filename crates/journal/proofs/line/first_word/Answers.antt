use Rattle.std.proofs.Common.{sym}
use Rattle.journal.proofs.LineLemmas.{one_word_is, first_word_is}
use Rattle.journal.proofs.line.first_word.Goals as goal

pub returns-in_err-end-clause-none : goal.returns-in_err-end-clause-none
returns-in_err-end-clause-none c = rw c.from_residual.ensures (one_word_is c.args.line.now (sym c.in_err-end.ensures))

pub returns-clause-some : goal.returns-clause-some
returns-clause-some c = first_word_is c.args.line.now c.in_ok-end.end (sym c.in_ok-end.ensures)
