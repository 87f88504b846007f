use Rattle.std.proofs.Common.{◌+◌, ◌++◌, length}
use Rattle.topo_report.specs.Report.{report_of}
use Rattle.topo_report.proofs.MergeLemmas.{IsMerging}
use Rattle.topo_report.proofs.report.merged.Given as goal

abbrev pub invariant-lives : goal.invariant-lives
invariant-lives l = IsMerging l.me (report_of l.me (l.fn.mine ++ l.fn.heard)) l.items.items l.room l.mine l.heard

abbrev pub decreases-lives : goal.decreases-lives
decreases-lives l = length l.mine + length l.heard
