use Rattle.topo_report.proofs.ReportLaws.{either_order}
use Rattle.topo_report.proofs.law.merging_is_commutative.Goals as goal

pub returns : goal.returns
returns c = either_order
