use Rattle.std.proofs.Common.{◌∙◌, ◌++◌, ◌∷◌, [], ap, ℕ}
use Rattle.std.specs.Fmt.{decimal}
use Rattle.std.proofs.lemmas.Result.{IfOk-weaker}
use Rattle.report.specs.Events.{rows_text, spaced, told_text, told_words}
use Rattle.report.proofs.ToldTexts.{four_pieces}
use Rattle.report.proofs.telling.Telling.push_line.Goals as goal

pub returns : goal.returns
unfolding told_text
returns c =
    let script = c.args.self.now.script.now in
    let course = c.args.self.now.course in
    let line = c.args.line.now in
    let number = c.in_ok-push_digits.ensures ∙ ap (λ (n : ℕ). c.args.text.now.items ++ decimal n) (c.from.ensures ∙ c.events.ensures) in
    IfOk-weaker c.push_rows.result _ _
    (λ done is. four_pieces c.args.text.now.items _ _ _ _ (decimal course.events) (spaced (told_words script course.lives line)) (10 ∷ []) (rows_text script course.lives c.args.rows.now line) number c.in_ok-push_told.ensures c.in_ok-push.ensures.items is)
    c.push_rows.ensures
