use Rattle.report.proofs.ToldTexts.{one_word}
use Rattle.report.proofs.telling.Telling.push_life.Goals as goal

pub returns : goal.returns
returns c = one_word _ _ _ _ c.in_ok-push.ensures.items c.in_ok-push_life.ensures
