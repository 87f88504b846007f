use Rattle.std.proofs.lemmas.Result.{IfOk-weaker}
use Rattle.report.proofs.ToldTexts.{goes_on, number_is}
use Rattle.report.proofs.telling.Telling.push_packet.Goals as goal

pub returns : goal.returns
returns c = IfOk-weaker c.push_host-2.result _ _ (λ done is. goes_on _ _ _ _ _ (goes_on _ _ _ _ _ (goes_on _ _ _ _ _ (goes_on _ _ _ _ _ c.in_ok-push_word.ensures (number_is _ _ _ _ c.from.ensures c.in_ok-push_number.ensures)) c.in_ok-push_host.ensures) c.in_ok-push_word-2.ensures) is) c.push_host-2.ensures
