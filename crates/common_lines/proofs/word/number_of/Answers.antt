use Rattle.std.proofs.Common.{arith}
use Rattle.common_lines.proofs.WordLemmas.{digit_here, number_step, number_over}
use Rattle.common_lines.proofs.word.number_of.Goals as goal

pub with_digit-requires : goal.with_digit-requires
with_digit-requires c = let d = digit_here c.args.word.now c.digits.c-index c.requires.digits (omega arith) in record { least = d.0; most = d.1 }

pub returns-in_err-number : goal.returns-in_err-number
returns-in_err-number c = rw c.from_residual.ensures (number_over c.args.word.now c.digits.c-index c.digits.number c.requires.digits (omega arith) c.digits.invariant c.in_err-number.ensures)

pub digits-preserved : goal.digits-preserved
digits-preserved c = number_step c.args.word.now c.digits.c-index c.digits.number c.in_ok-number.number c.requires.digits (omega arith) c.digits.invariant c.in_ok-number.ensures
