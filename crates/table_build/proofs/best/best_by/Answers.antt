use Rattle.std.proofs.Common.{◌∙◌, sym}
use Rattle.table_build.proofs.OverLemmas.{none_over, longer_over, cost_before}
use Rattle.table_build.proofs.best.best_by.Goals as goal

pub returns-in_err-best : goal.returns-in_err-best
returns-in_err-best c = rw c.from_residual.ensures (none_over c.args.graph.now c.args.search c.args.bests.now c.args.link c.requires.known (sym c.known_to.ensures ∙ c.in_err-best.was))

pub longer-requires-clause-cost : goal.longer-requires-clause-cost
longer-requires-clause-cost c = cost_before c.args.graph.now c.args.search c.args.bests.now c.args.link c.in_ok-best.best c.requires.graph c.requires.from c.requires.known (sym c.known_to.ensures ∙ c.in_ok-best.was)

pub returns : goal.returns
returns c = longer_over c.args.graph.now c.args.search c.args.bests.now c.args.link c.in_ok-best.best c.longer.result c.requires.known (sym c.known_to.ensures ∙ c.in_ok-best.was) c.longer.ensures
