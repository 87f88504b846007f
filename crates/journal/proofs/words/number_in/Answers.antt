use Rattle.std.proofs.Common.{arith}
use Rattle.journal.proofs.FieldLemmas.{number_field}
use Rattle.journal.proofs.words.number_in.Goals as goal

pub returns : goal.returns
returns c = rw c.ok_or.ensures.value (number_field c.args.word.now c.args.least c.args.most c.number_between.result (let h = c.ranges.most in omega arith) c.number_between.ensures.number c.number_between.ensures.range)
