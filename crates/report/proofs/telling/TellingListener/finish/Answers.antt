use Rattle.std.proofs.Common.{◌∙◌, ◌++◌, ap}
use Rattle.std.proofs.lemmas.Result.{on_ok_weaker}
use Rattle.net_script.specs.Scripts.{ScriptOf}
use Rattle.report.specs.Events.{CourseOf, line_of_end}
use Rattle.report.proofs.telling.TellingListener.finish.Goals as goal

pub returns : goal.returns
returns c =
    let self = c.args.self.now in
    let text = c.args.text.now.items in
    let come = c.requires.stands in
    on_ok_weaker c.push_end_line.result (λ is. is ∙ ap (λ (s : ScriptOf). text ++ line_of_end s self.course c.args.end.now) come.own_is
    ∙ ap (λ (course : CourseOf). text ++ line_of_end c.args._net.now.script course c.args.end.now) come.course_is) c.push_end_line.ensures
