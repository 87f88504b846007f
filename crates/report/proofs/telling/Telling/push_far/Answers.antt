use Rattle.std.proofs.Common.{◌∙◌, ap}
use Rattle.std.proofs.lemmas.Result.{IfOk-weaker}
use Rattle.an_base.specs.Values.{EndId}
use Rattle.row_text.specs.Names.{life_text}
use Rattle.report.proofs.ToldTexts.{goes_on, number_is, word_is}
use Rattle.report.proofs.telling.Telling.push_far.Goals as goal

pub returns : goal.returns
returns c =
    let life = word_is _ _ _ _ (ap (λ (e : EndId). life_text c.args.self.now.script.now e.life) c.end.view_is) c.in_ok-push_life.ensures in
    IfOk-weaker c.push_number.result _ _ (λ done is. goes_on _ _ _ _ _ life (number_is _ _ _ _ (c.from.ensures ∙ ap (λ (e : EndId). e.port) c.end.view_is) is)) c.push_number.ensures
