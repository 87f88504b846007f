use Rattle.topo_report.proofs.ReportLaws.{merged_in_turn}
use Rattle.topo_report.proofs.law.merging_in_turn_is_merging_at_once.Goals as goal

pub returns : goal.returns
returns c = merged_in_turn
