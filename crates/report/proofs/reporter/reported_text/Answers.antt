use Rattle.std.proofs.Common.{◌∙◌, ap}
use Rattle.report.specs.Events.{CourseOf}
use Rattle.report.proofs.ReporterLemmas.{report_told}
use Rattle.report.proofs.reporter.reported_text.Goals as goal

pub returns-clause-report : goal.returns-clause-report
returns-clause-report c =
    let told = c.in_ok-end.ensures.told in
    record {
      journal = told.journal;
      is_journal = told.is_journal;
      is_report = report_told c.args.script.now told.journal c.in_ok-end.end _ told.is_told;
      tick_is = c.tick.ensures ∙ ap (λ (course : CourseOf). course.tick) (c.course.ensures ∙ told.stands.course_is);
    }
