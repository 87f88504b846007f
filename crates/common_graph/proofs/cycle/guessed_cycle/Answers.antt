use Rattle.std.proofs.Common.{◌∙◌, sym}
use Rattle.common_graph.proofs.OptionLemmas.{no_some}
use Rattle.common_graph.specs.declared.graph.Step.{Step}
use Rattle.common_graph.specs.Search.{FallsTo, Holds}
use Rattle.common_graph.proofs.cycle.guessed_cycle.Goals as goal

pub cycle_by-requires-clause-holds : goal.cycle_by-requires-clause-holds
cycle_by-requires-clause-holds c =
    let holds : Holds c.args.graph.now c.deref-else-value_of-gt0.result.now 1 = no_some {X = Step} (Holds c.args.graph.now c.deref-else-value_of-gt0.result.now 1) (λ step. FallsTo c.args.graph.now c.deref-else-value_of-gt0.result.now 1 step.node step.next) c.first_fall.result c.first_fall.ensures (sym c.is_some.ensures ∙ c.if-is_some.false) in
    rw c.deref-2.ensures.value (rw c.deref-else-value_of-gt0.ensures.value at holds)
