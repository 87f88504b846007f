use Rattle.fabric_words.proofs.DigitLemmas.{hex_is}
use Rattle.fabric_words.proofs.digits.hex.Goals as goal

pub returns : goal.returns
returns c = hex_is c.args.word.now c.hex_number.result c.hex_number.ensures
