use Rattle.std.proofs.Common.{◌∙◌, sym}
use Rattle.common_graph.proofs.OptionLemmas.{no_some}
use Rattle.common_graph.specs.declared.graph.Step.{Step}
use Rattle.common_graph.specs.Search.{FallsTo, Holds}
use Rattle.common_graph.proofs.verdict.sound_tiers.Goals as goal

pub returns : goal.returns
returns c =
    let holds : Holds c.args.graph.now c.deref.result.now 0 = no_some {X = Step} (Holds c.args.graph.now c.deref.result.now 0) (λ step. FallsTo c.args.graph.now c.deref.result.now 0 step.node step.next) c.first_fall.result c.first_fall.ensures (sym c.is_some.ensures ∙ c.if-is_some.false) in
    rw c.deref.ensures.value at holds
