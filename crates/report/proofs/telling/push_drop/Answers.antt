use Rattle.std.proofs.lemmas.Result.{IfOk-weaker}
use Rattle.std.proofs.Common.{◌∙◌}
use Rattle.report.proofs.ToldTexts.{goes_on, word_is}
use Rattle.report.proofs.telling.push_drop.Goals as goal

pub returns : goal.returns
returns c = IfOk-weaker c.push_word-2.result _ _ (λ done is. goes_on _ _ _ _ _ c.in_ok-push_word.ensures (word_is _ _ _ _ (c.as_bytes.ensures.value ∙ c.drop_word.ensures) is)) c.push_word-2.ensures
