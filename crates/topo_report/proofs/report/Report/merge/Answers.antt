use Rattle.std.proofs.Common.{length, ap, length-append, arith}
use Rattle.topo_report.proofs.ReportLaws.{report_of-some, report_of-most, report_is_report}
use Rattle.topo_report.proofs.report.Report.merge.Goals as goal

pub new-requires-clause-some : goal.new-requires-clause-some
new-requires-clause-some c = rw c.in_ok-items.ensures (report_of-some _ _ (rw length-append (omega (arith, ap length c.as_slice-mine.ensures.all))))

pub new-requires-clause-most : goal.new-requires-clause-most
new-requires-clause-most c = rw c.in_ok-items.ensures (report_of-most _ _)

pub new-requires-clause-rising : goal.new-requires-clause-rising
new-requires-clause-rising c = rw c.in_ok-items.ensures ((report_is_report _ _).rising)
