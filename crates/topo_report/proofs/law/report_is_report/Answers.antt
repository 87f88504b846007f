use Rattle.topo_report.proofs.ReportLaws.{report_is_report}
use Rattle.topo_report.proofs.law.report_is_report.Goals as goal

pub returns : goal.returns
returns c = report_is_report
