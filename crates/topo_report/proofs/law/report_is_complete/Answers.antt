use Rattle.topo_report.proofs.ReportLaws.{report_is_complete}
use Rattle.topo_report.proofs.law.report_is_complete.Goals as goal

pub returns : goal.returns
returns c = report_is_complete
