use Rattle.std.proofs.Common.{◌∙◌, ap}
use Rattle.report.specs.Events.{CourseOf}
use Rattle.report.proofs.ReporterLemmas.{report_told}
use Rattle.report.proofs.reporter.reported.Goals as goal

pub returns-clause-report : goal.returns-clause-report
returns-clause-report c = report_told c.args.script.now c.args.journal.now c.in_ok-end.end _ c.in_ok-end.ensures.told

pub returns-clause-tick : goal.returns-clause-tick
returns-clause-tick c = c.tick.ensures ∙ ap (λ (course : CourseOf). course.tick) (c.course.ensures ∙ c.in_ok-end.ensures.stands.course_is)
