use Rattle.std.proofs.Common.{arith}
use Rattle.fabric_verdict.proofs.CountLemmas.{steps_all, steps_more, steps_none}
use Rattle.fabric_verdict.proofs.count.count_steps.Goals as goal

pub nodes-init : goal.nodes-init
nodes-init c = record { so_far = steps_none c.args.graph.now; few = omega arith }

pub nodes-preserved : goal.nodes-preserved
nodes-preserved c =
    let i = c.nodes.invariant in
    record {
      so_far = steps_more c.args.graph.now c.nodes.node c.nodes.count c.count_from-count.result i.so_far c.count_from-count.ensures.count;
      few = (let a = i.few in let b = c.count_from-count.ensures.few in let d = c.count-node-end.ensures.few in let e = c.count-node-end.ensures.count in omega arith);
    }

pub returns : goal.returns
returns c = steps_all c.args.graph.now c.nodes.node c.nodes.count (let e = c.count-node-end.ensures.count in omega arith) c.nodes.invariant.so_far
