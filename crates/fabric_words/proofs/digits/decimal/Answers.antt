use Rattle.fabric_words.proofs.DigitLemmas.{decimal_is}
use Rattle.fabric_words.proofs.digits.decimal.Goals as goal

pub returns : goal.returns
returns c = decimal_is c.args.word.now c.number_between.result c.number_between.ensures.number
