use Rattle.std.proofs.lemmas.Result.{IfOk-weaker}
use Rattle.std.proofs.Common.{◌∙◌}
use Rattle.report.proofs.ToldTexts.{goes_on, number_is}
use Rattle.report.proofs.telling.Telling.push_place.Goals as goal

pub returns : goal.returns
returns c = IfOk-weaker c.push_number-2.result _ _ (λ done is. goes_on _ _ _ _ _ (goes_on _ _ _ _ _ (goes_on _ _ _ _ _ c.in_ok-push_word.ensures (number_is _ _ _ _ (c.from.ensures ∙ c.tick.ensures) c.in_ok-push_number.ensures)) c.in_ok-push_word-2.ensures) (number_is _ _ _ _ (c.from-2.ensures ∙ c.events.ensures) is)) c.push_number-2.ensures
