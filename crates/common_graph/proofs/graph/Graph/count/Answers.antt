use Rattle.std.proofs.Common.{subst}
use Rattle.common_graph.specs.Graph.{GraphOf, AreWithin}
use Rattle.common_graph.proofs.graph.Graph.count.Goals as goal

pub returns-clause-within : goal.returns-clause-within
returns-clause-within c = subst (λ (g : GraphOf). AreWithin g) c.self.view_is c.self.invariant.3
