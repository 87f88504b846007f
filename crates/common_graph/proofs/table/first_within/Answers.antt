use Rattle.common_graph.proofs.WithinLemmas.{first_of, none_more, none_within}
use Rattle.common_graph.proofs.table.first_within.Goals as goal

pub returns-then-value-most-clause-first : goal.returns-then-value-most-clause-first
returns-then-value-most-clause-first c = first_of c.args.graph.now c.args.table.now c.args.node c.args.least c.args.most c.steps.cursor.from c.steps.invariant.so_far c.in-Some.next c.value_of-value.result c.in-Some.ensures.next c.value_of-value.ensures c.if-least-value.true c.if-value-most.true

pub steps-preserved : goal.steps-preserved
steps-preserved c = record {
  stands = c.in-Some.ensures.stands;
  so_far = none_more c.args.graph.now c.args.table.now c.args.node c.args.least c.args.most c.steps.cursor.from c.steps.invariant.so_far c.in-Some.next c.value_of-value.result _ c.in-Some.ensures.next c.value_of-value.ensures c.in-Some.ensures.past c.else-least-value.either;
}

pub returns-clause-first : goal.returns-clause-first
returns-clause-first c = none_within c.args.graph.now c.args.table.now c.args.node c.args.least c.args.most c.steps.cursor.from c.steps.invariant.so_far c.in_default.ensures.next
