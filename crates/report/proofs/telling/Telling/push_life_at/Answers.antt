use Rattle.std.proofs.lemmas.Result.{on_ok_weaker}
use Rattle.report.proofs.ToldTexts.{word_is}
use Rattle.report.proofs.telling.Telling.push_life_at.Goals as goal

pub returns-in-Some : goal.returns-in-Some
returns-in-Some c = on_ok_weaker c.push_word.result (λ is. word_is _ _ _ _ c.in-Some.ensures is) c.push_word.ensures
