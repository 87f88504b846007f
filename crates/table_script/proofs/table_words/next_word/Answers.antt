use Rattle.std.proofs.Common.{sym, ◌∙◌}
use Rattle.table_script.proofs.WordLemmas.{word_first}
use Rattle.table_script.proofs.table_words.next_word.Goals as goal

pub returns-then-end-gt0-clause-some : goal.returns-then-end-gt0-clause-some
returns-then-end-gt0-clause-some c = sym c.blanks.invariant.words ∙ word_first c.blanks.rest.now c.in-Some.end (sym c.first_blank.ensures ∙ c.in-Some.is) c.if-end-gt0.true
