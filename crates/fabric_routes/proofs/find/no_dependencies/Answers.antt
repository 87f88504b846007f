use Rattle.std.proofs.Common.{sym, ap, subst, arith}
use Rattle.common_graph.specs.Graph.{GraphOf}
use Rattle.fabric_routes.specs.Waves.{IsGraphOf}
use Rattle.common_graph.proofs.EmptyLemmas.{none_lead}
use Rattle.fabric_routes.proofs.ChannelLemmas.{graph_of}
use Rattle.fabric_routes.proofs.find.no_dependencies.Goals as goal

pub returns-clause-graph : goal.returns-clause-graph
returns-clause-graph c =
    let wide = c.most.ensures.most in
    subst (λ (g : GraphOf). IsGraphOf c.args.fabric.now g) (sym c.in_ok-graph.ensures)
    (graph_of c.args.fabric.now _ c.most.ensures.fabric c.in_ok-bases.ensures.0 (omega arith) c.in_ok-bases.ensures.1)

pub returns-clause-none : goal.returns-clause-none
returns-clause-none c = none_lead c.in_ok-graph.graph _ (ap (λ (graph : GraphOf). graph.words) c.in_ok-graph.ensures)
