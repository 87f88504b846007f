use Rattle.std.proofs.Common.{◌∙◌, ap, rules, eqb, not, length, take}
use Rattle.std.proofs.lemmas.Result.{IfOk-at_ok, IfOk-weaker}
use Rattle.std.proofs.lemmas.Iterator.{YieldsList-from_take}
use Rattle.std.proofs.lemmas.Iterator.Consumers.{map_from_collect, YieldsList-from_filter, YieldsList-at}
use Rattle.std.proofs.lemmas.Iterator.Splits.{YieldsList-from_slice_split}
use Rattle.common_lines.specs.Lines.{is_blank, parts_of, words_of}
use Rattle.replay.proofs.division.first_words.Goals as goal

pub returns : goal.returns
unfolding words_of
returns c =
    IfOk-at_ok _ c.in_ok-collect.was
    (IfOk-weaker c.collect.result _ _ (λ v is. is ∙ ap (λ l. take 2 (parts_of l)) c.before_comment.ensures)
    (map_from_collect c.collect.result c.collect.ensures.ran
    (YieldsList-from_take 2
    (YieldsList-at c.take.ensures.source
    (YieldsList-from_filter _ (λ w. not (eqb (length w) 0))
    (YieldsList-at c.filter.ensures.source (YieldsList-from_slice_split _ is_blank c.before_comment.result.now c.split.ensures.rest c.split.ensures.done c.split.ensures.closure (λ x b q called. search rules)))
    c.filter.ensures.closure (λ x b q called. search rules)))
    c.take.ensures.count)))
