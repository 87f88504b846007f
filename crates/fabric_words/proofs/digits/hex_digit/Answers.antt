use Rattle.std.proofs.Common.{arith}
use Rattle.fabric_words.proofs.DigitLemmas.{digit_below, no_digit}
use Rattle.fabric_words.proofs.digits.hex_digit.Goals as goal

pub returns-then-value-lt16-clause-digit : goal.returns-then-value-lt16-clause-digit
returns-then-value-lt16-clause-digit c = digit_below c.args.c c.digit_or_more-value.result c.digit_or_more-value.ensures.digit (omega arith)

pub returns-else-value-lt16-clause-digit : goal.returns-else-value-lt16-clause-digit
returns-else-value-lt16-clause-digit c = no_digit c.args.c c.digit_or_more-value.result c.digit_or_more-value.ensures.digit (omega arith)
