use Rattle.std.proofs.Common.{◌∙◌, sym, arith}
use Rattle.fabric_words.proofs.RowLemmas.{no_three, three, three_over}
use Rattle.fabric_words.proofs.row.three_decimal.Goals as goal

pub returns-then-not-are_digits : goal.returns-then-not-are_digits
returns-then-not-are_digits c = no_three c.args.a c.args.b c.args.c (sym c.are_digits.ensures ∙ c.if-not-are_digits.true)

pub returns-then-number-gt255 : goal.returns-then-number-gt255
returns-then-number-gt255 c = three_over c.args.a c.args.b c.args.c _ (sym c.are_digits.ensures ∙ c.if-not-are_digits.false) (omega (arith, c.from.ensures, c.from-2.ensures, c.from-3.ensures)) c.if-number-gt255.true

pub returns : goal.returns
returns c = three c.args.a c.args.b c.args.c _ (sym c.are_digits.ensures ∙ c.if-not-are_digits.false) (omega (arith, c.from.ensures, c.from-2.ensures, c.from-3.ensures)) (omega arith)
