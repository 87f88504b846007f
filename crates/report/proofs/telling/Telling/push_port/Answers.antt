use Rattle.std.proofs.lemmas.Result.{IfOk-weaker}
use Rattle.std.proofs.Common.{◌∙◌}
use Rattle.report.proofs.ToldTexts.{goes_on, word_is, at_is}
use Rattle.report.proofs.telling.Telling.push_port.Goals as goal

pub returns : goal.returns
returns c = IfOk-weaker c.push_peer.result _ _ (λ done is. goes_on _ _ _ _ _ (goes_on _ _ _ _ _ ((at_is _ _ _ _ _ _ c.from.ensures c.in_ok-push_at.ensures)) (word_is _ _ _ _ (c.as_bytes.ensures.value ∙ c.state_word.ensures) c.in_ok-push_word.ensures)) is) c.push_peer.ensures
