use Rattle.std.proofs.Common.{arith, ◌∙◌}
use Rattle.common_lines.proofs.WordLemmas.{hex_digits_more, hex_value_fits, hex_value_next}
use Rattle.net_names.proofs.WordLemmas.{uid_fits}
use Rattle.net_names.proofs.word.uid_of.Goals as goal

pub overflow_mul-uid : goal.overflow_mul-uid
overflow_mul-uid c = omega (arith, uid_fits c.digits.c-index c.digits.uid (omega arith) c.digits.invariant.below)

pub overflow_add-uid : goal.overflow_add-uid
overflow_add-uid c = omega (arith, uid_fits c.digits.c-index c.digits.uid (omega arith) c.digits.invariant.below, c.in_ok-hex_digit.ensures.low)

pub digits-preserved : goal.digits-preserved
digits-preserved c = record {
  digits = hex_digits_more c.args.word.now c.digits.c-index (omega arith) c.digits.invariant.digits c.in_ok-hex_digit.ensures.digit.0;
  says = hex_value_next c.args.word.now c.digits.c-index c.digits.uid c.from.result (omega arith) c.digits.invariant.says (c.from.ensures ∙ c.in_ok-hex_digit.ensures.digit.1);
  below = hex_value_fits c.digits.uid c.from.result c.digits.c-index c.digits.invariant.below (omega (arith, c.from.ensures, c.in_ok-hex_digit.ensures.low));
}
