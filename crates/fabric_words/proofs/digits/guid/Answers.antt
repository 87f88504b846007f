use Rattle.std.proofs.Common.{◌≡◌, arith, eqb, length, true, false}
use Rattle.std.proofs.lemmas.Bool.Decides.{nat_tests}
use Rattle.fabric_words.proofs.DigitLemmas.{guid_is, no_guid}
use Rattle.fabric_words.proofs.digits.guid.Goals as goal

pub returns-then-word-eq16 : goal.returns-then-word-eq16
returns-then-word-eq16 c = let fit : eqb (length c.args.word.now) 16 ≡ true = grind (arith, nat_tests) in guid_is c.args.word.now c.hex.result fit c.hex.ensures

pub returns-else-word-eq16 : goal.returns-else-word-eq16
returns-else-word-eq16 c = let fit : eqb (length c.args.word.now) 16 ≡ false = grind (arith, nat_tests) in no_guid c.args.word.now fit
