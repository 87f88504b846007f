use Rattle.topo_report.proofs.ReportLaws.{report_stays}
use Rattle.topo_report.proofs.law.report_is_idempotent.Goals as goal

pub returns : goal.returns
returns c = report_stays
