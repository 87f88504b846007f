use Rattle.std.proofs.Common.{refl, arith}
use Rattle.fabric_words.proofs.DigitLemmas.{in_table, digit_most}
use Rattle.fabric_words.proofs.digits.digit_or_more.Goals as goal

pub returns-clause-digit : goal.returns-clause-digit
returns-clause-digit c = in_table _ c.args.c refl (omega arith)

pub returns-clause-most : goal.returns-clause-most
returns-clause-most c = digit_most c.args.c _ (in_table _ c.args.c refl (omega arith))
