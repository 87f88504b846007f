use Rattle.std.proofs.lemmas.Result.{IfOk-weaker}
use Rattle.report.proofs.ToldTexts.{goes_on, number_is}
use Rattle.report.proofs.telling.push_room.Goals as goal

pub returns : goal.returns
returns c = IfOk-weaker c.push_number-2.result _ _ (λ done is. goes_on _ _ _ _ _ (goes_on _ _ _ _ _ (goes_on _ _ _ _ _ (goes_on _ _ _ _ _ c.in_ok-push_word.ensures c.in_ok-push_word-2.ensures) (number_is _ _ _ _ c.from.ensures c.in_ok-push_number.ensures)) c.in_ok-push_word-3.ensures) (number_is _ _ _ _ c.from-2.ensures is)) c.push_number-2.ensures
