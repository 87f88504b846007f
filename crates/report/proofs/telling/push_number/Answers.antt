use Rattle.std.proofs.lemmas.Result.{IfOk-weaker}
use Rattle.report.proofs.ToldTexts.{one_word}
use Rattle.report.proofs.telling.push_number.Goals as goal

pub returns : goal.returns
returns c = IfOk-weaker c.push_digits.result _ _ (λ done is. one_word _ _ _ _ c.in_ok-push.ensures.items is) c.push_digits.ensures
