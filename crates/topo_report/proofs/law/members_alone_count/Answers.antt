use Rattle.topo_report.proofs.Members.{in_from, contains_from}
use Rattle.topo_report.proofs.ReportLaws.{members_alone_count}
use Rattle.topo_report.proofs.law.members_alone_count.Goals as goal

pub returns : goal.returns
returns c = λ me xs ys same. members_alone_count me xs ys (λ x i. in_from x ys (same.0 x (contains_from x xs i))) (λ x i. in_from x xs (same.1 x (contains_from x ys i)))
