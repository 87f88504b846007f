use Rattle.std.proofs.Common.{◌∙◌, ap, refl, ◌++◌, List, arith}
use Rattle.std.proofs.lemmas.List.{take_all}
use Rattle.fabric_print.specs.declared.row.RowWord.{RowWord}
use Rattle.fabric_print.proofs.WordLemmas.{row_is, spaced, word_more}
use Rattle.fabric_print.proofs.row.push_row.Goals as goal

pub returns : goal.returns
returns c =
    let so_far = c.words.invariant ∙ ap (λ (ws : List RowWord). c.push_word.new.text.items ++ spaced ws) (take_all c.words.word-index c.args.more.now (omega arith)) in
    row_is c.args.first c.args.more.now c.args.text.now.items c.push_word.new.text.items c.words.text.items c.push-2.new.self.items c.in_ok-push_word.ensures so_far c.in_ok-push-2.ensures.items

pub words-preserved : goal.words-preserved
words-preserved c = word_more c.args.more.now c.words.word-index _ _ c.push_word.new.text.items c.words.text.items c.push.new.self.items c.push_word-in-words.new.text.items (omega arith) refl c.words.invariant c.in_ok-push.ensures.items c.in_ok-push_word-2.ensures
