use Rattle.report.proofs.ToldTexts.{no_words}
use Rattle.report.proofs.telling.Telling.push_delivery.Goals as goal

pub returns-in-None : goal.returns-in-None
returns-in-None c = rw c.in-None.is (no_words c.args.text.now.items)
