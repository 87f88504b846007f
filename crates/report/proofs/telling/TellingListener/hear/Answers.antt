use Rattle.std.proofs.Common.{◌∙◌}
use Rattle.std.proofs.lemmas.Result.{on_ok_weaker}
use Rattle.report.proofs.ReporterLemmas.{comes_there, event_told}
use Rattle.report.proofs.telling.TellingListener.hear.Goals as goal

pub follow-requires : goal.follow-requires
follow-requires c =
    let self = c.args.self.now in
    (c.args.net.now.script, c.requires.0, comes_there c.requires.0 c.args.event.now c.args.net.now c.args.lines.now self.script.now self.course c.requires.1 c.requires.2)

pub returns-clause-stands : goal.returns-clause-stands
returns-clause-stands c = λ before heard come.
    let net = c.args.net.now in
    let self = c.args.self.now in
    on_ok_weaker c.push_lines.result (λ _. record {
      kept = come.kept;
      own_is = c.follow.ensures.script ∙ come.own_is;
      course_is = c.follow.ensures.course net.script before (comes_there before c.args.event.now net c.args.lines.now self.script.now self.course heard come);
    }) c.push_lines.ensures

pub returns-clause-text : goal.returns-clause-text
returns-clause-text c = λ before heard come.
    let net = c.args.net.now in
    let self = c.args.self.now in
    let new = c.follow.new.self in
    on_ok_weaker c.push_lines.result (λ is. event_told new.script.now before c.args.event.now net new.course c.rows_after-rows.result.now c.args.lines.now c.args.text.now.items c.push_lines.new.text.items heard (record {
      kept = come.kept;
      own_is = c.follow.ensures.script ∙ come.own_is;
      course_is = c.follow.ensures.course net.script before (comes_there before c.args.event.now net c.args.lines.now self.script.now self.course heard come);
    }) c.rows_after-rows.ensures is) c.push_lines.ensures
