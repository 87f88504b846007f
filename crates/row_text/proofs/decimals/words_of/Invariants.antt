use Rattle.row_text.specs.Decimals.{AreDecimals}
use Rattle.row_text.proofs.decimals.words_of.Given as goal

-- the numbers so far
abbrev pub invariant-numbers : goal.invariant-numbers
invariant-numbers l = AreDecimals l.n l.words.items
