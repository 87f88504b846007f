use Rattle.std.proofs.Common.{sym, ◌∙◌, arith}
use Rattle.journal.proofs.LineLemmas.{words_more, words_fail}
use Rattle.journal.proofs.line.have_bytes.Goals as goal

pub returns-then-is_empty : goal.returns-then-is_empty
returns-then-is_empty c = sym (words_fail c.args.words.now c.words.word-index _ (omega arith) (sym c.is_empty.ensures ∙ c.if-is_empty.true))

pub words-preserved : goal.words-preserved
words-preserved c = words_more c.args.words.now c.words.word-index _ (omega arith) c.words.invariant (sym c.is_empty.ensures ∙ c.if-is_empty.false)
