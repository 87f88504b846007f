use Rattle.switch_numbering.proofs.Differing.{numbers_are}
use Rattle.switch_numbering.proofs.law.numbers_differ.Goals as goal

pub returns : goal.returns
returns c = numbers_are
