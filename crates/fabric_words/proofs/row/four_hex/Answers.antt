use Rattle.std.proofs.Common.{arith}
use Rattle.fabric_words.proofs.RowLemmas.{four_within, four_beyond}
use Rattle.fabric_words.proofs.row.four_hex.Goals as goal

pub returns-then-number-gt65535 : goal.returns-then-number-gt65535
returns-then-number-gt65535 c = four_beyond c.args.a c.args.b c.args.c c.args.d _ _ _ _ c.digit_or_more.ensures.digit c.digit_or_more-2.ensures.digit c.digit_or_more-3.ensures.digit c.digit_or_more-4.ensures.digit (omega arith)

pub returns : goal.returns
returns c = four_within c.args.a c.args.b c.args.c c.args.d _ _ _ _ c.digit_or_more.ensures.digit c.digit_or_more-2.ensures.digit c.digit_or_more-3.ensures.digit c.digit_or_more-4.ensures.digit (omega arith)
