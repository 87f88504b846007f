use Rattle.std.proofs.lemmas.Result.{IfOk-weaker}
use Rattle.report.proofs.ToldTexts.{goes_on, number_is}
use Rattle.report.proofs.telling.Telling.push_sent.Goals as goal

pub returns : goal.returns
returns c = IfOk-weaker c.push_number.result _ _ (λ done is. goes_on _ _ _ _ _ (goes_on _ _ _ _ _ c.in_ok-push_packet.ensures c.in_ok-push_word.ensures) (number_is _ _ _ _ c.from.ensures is)) c.push_number.ensures
