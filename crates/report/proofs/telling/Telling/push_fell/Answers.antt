use Rattle.std.proofs.lemmas.Result.{IfOk-weaker}
use Rattle.report.proofs.ToldTexts.{goes_on}
use Rattle.report.proofs.telling.Telling.push_fell.Goals as goal

pub returns : goal.returns
returns c = IfOk-weaker c.push_drop.result _ _ (λ done is. goes_on _ _ _ _ _ c.in_ok-push_move.ensures is) c.push_drop.ensures
