use Rattle.std.proofs.Common.{arith, sym, ◌∙◌}
use Rattle.std.proofs.lemmas.Bool.Decides.{nat_tests}
use Rattle.table_script.proofs.WordLemmas.{word_last}
use Rattle.table_script.proofs.table_words.last_word.Goals as goal

pub returns-clause-some : goal.returns-clause-some
returns-clause-some c =
    let none = sym c.is_empty.ensures ∙ c.if-is_empty.false in
    word_last c.args.text.now c.requires (grind (arith, nat_tests, none))
