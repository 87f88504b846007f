use Rattle.topo_report.proofs.ReportLaws.{one_report}
use Rattle.topo_report.proofs.law.one_report.Goals as goal

pub returns : goal.returns
returns c = one_report
