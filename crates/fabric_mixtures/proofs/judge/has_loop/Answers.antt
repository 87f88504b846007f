use Rattle.fabric_tables.specs.Cells.{tables_of}
use Rattle.fabric_mixtures.specs.Mixtures.{MayBeFollowed}
use Rattle.fabric_mixtures.proofs.TurnLemmas.{are_channels}
use Rattle.fabric_mixtures.proofs.VerdictLemmas.{leads_round, none_round}
use Rattle.fabric_mixtures.proofs.judge.has_loop.Goals as goal

pub returns-in-Ranks-clause-none : goal.returns-in-Ranks-clause-none
returns-in-Ranks-clause-none c =
    let tables = tables_of c.args.cells.now in
    none_round c.args.fabric.now (MayBeFollowed c.args.fabric.now tables tables) (are_channels c.args.fabric.now tables tables) c.in_ok-graph.graph c.in_ok-graph.ensures c.in-Ranks.ranks.items (rw c.in-Ranks.is at c.in_ok-verdict_of.ensures)

pub returns-clause-some : goal.returns-clause-some
returns-clause-some c =
    let tables = tables_of c.args.cells.now in
    leads_round c.args.fabric.now (MayBeFollowed c.args.fabric.now tables tables) (are_channels c.args.fabric.now tables tables) c.in_ok-graph.graph c.in_ok-graph.ensures c.in-Cycle.nodes.items (rw c.in-Cycle.is at c.in_ok-verdict_of.ensures)
