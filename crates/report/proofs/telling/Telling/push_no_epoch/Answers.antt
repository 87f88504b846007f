use Rattle.std.proofs.lemmas.Result.{IfOk-weaker}
use Rattle.report.proofs.ToldTexts.{goes_on}
use Rattle.report.proofs.telling.Telling.push_no_epoch.Goals as goal

pub returns : goal.returns
returns c = IfOk-weaker c.push_life.result _ _ (λ done is. goes_on _ _ _ _ _ c.in_ok-push_word.ensures is) c.push_life.ensures
