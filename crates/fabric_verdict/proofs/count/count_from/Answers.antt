use Rattle.std.proofs.Common.{◌+◌, ◌<◌, ◌^◌, arith, length, subst, sym, ℕ}
use Rattle.fabric_routes.specs.Counting.{IsCountOf}
use Rattle.fabric_verdict.specs.Steps.{IsNextBelow}
use Rattle.fabric_verdict.proofs.CountLemmas.{nexts_all, nexts_more, nexts_none}
use Rattle.fabric_verdict.proofs.count.count_from.Goals as goal

pub steps-init : goal.steps-init
steps-init c =
    let from = c.cursor-cursor.ensures.from in
    record {
      stands = c.cursor-cursor.ensures.stands;
      so_far = subst (λ (n : ℕ). IsCountOf (IsNextBelow c.args.graph.now c.args.node n) 0) (sym from) (nexts_none c.args.graph.now c.args.node);
      low = omega arith;
      few = omega arith;
      small = omega arith;
    }

pub steps-preserved : goal.steps-preserved
steps-preserved c =
    let next = c.in-Some.ensures.next in
    let past = c.in-Some.ensures.past in
    let i = c.steps.invariant in
    record {
      stands = c.in-Some.ensures.stands;
      so_far = subst (λ (n : ℕ). IsCountOf (IsNextBelow c.args.graph.now c.args.node n) (c.steps.count + 1)) (sym past) (nexts_more c.args.graph.now c.args.node c.steps.cursor.from c.in-Some._next c.steps.count next i.so_far);
      low = (let a : c.in-Some._next < length c.args.graph.now.bases = c.in-Some.ensures.low in omega arith);
      few = (let a = next.after in let b = i.few in omega arith);
      small = (let a : c.in-Some._next < 2 ^ 31 = c.in-Some.ensures.few in omega arith);
    }

pub returns-clause-count : goal.returns-clause-count
returns-clause-count c = nexts_all c.args.graph.now c.args.node c.steps.cursor.from c.steps.count c.in_default.ensures.next c.steps.invariant.so_far
