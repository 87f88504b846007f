use Rattle.common_graph.specs.Verdict.{AreAllRanks}
use Rattle.common_graph.proofs.RisingLemmas.{ranks_no_cycle}
use Rattle.common_graph.proofs.verdict.guessed_verdict.Goals as goal

pub returns : goal.returns
returns c =
    let are : AreAllRanks c.args.graph.now c.in-Some.ranks.items = rw c.deref.ensures.value at c.are_ranks.ensures.0 c.if-not-are_ranks.false in
    record { no_cycle = ranks_no_cycle c.args.graph.now c.in-Some.ranks.items are; ranked = are }
