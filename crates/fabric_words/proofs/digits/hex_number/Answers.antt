use Rattle.std.proofs.Common.{arith, ◌∙◌}
use Rattle.common_lines.proofs.WordLemmas.{hex_digits_more, hex_value_next, hex_value_fits}
use Rattle.fabric_words.proofs.DigitLemmas.{digits_fit}
use Rattle.fabric_words.proofs.digits.hex_number.Goals as goal

pub overflow_mul-number : goal.overflow_mul-number
overflow_mul-number c = omega (arith, digits_fit c.digits.c-index c.digits.number (omega arith) c.digits.invariant.below)

pub overflow_add-number : goal.overflow_add-number
overflow_add-number c = omega (arith, digits_fit c.digits.c-index c.digits.number (omega arith) c.digits.invariant.below, c.in_ok-hex_digit.ensures.low)

pub digits-preserved : goal.digits-preserved
digits-preserved c = record {
  digits = hex_digits_more c.args.word.now c.digits.c-index (omega arith) c.digits.invariant.digits c.in_ok-hex_digit.ensures.digit.0;
  says = hex_value_next c.args.word.now c.digits.c-index c.digits.number c.from.result (omega arith) c.digits.invariant.says (c.from.ensures ∙ c.in_ok-hex_digit.ensures.digit.1);
  below = hex_value_fits c.digits.number c.from.result c.digits.c-index c.digits.invariant.below (omega (arith, c.from.ensures, c.in_ok-hex_digit.ensures.low));
}
