use Rattle.std.proofs.Common.{◌*◌, sym, ap, subst, ℕ, arith}
use Rattle.common_graph.specs.Graph.{GraphOf}
use Rattle.fabric_lane_waves.specs.LaneSteps.{IsLaneGraphOf}
use Rattle.fabric_lane_waves.proofs.BaseLemmas.{lane_graph_of}
use Rattle.fabric_lane_waves.proofs.find.no_dependencies.Goals as goal

pub returns-clause-graph : goal.returns-clause-graph
returns-clause-graph c =
    let row = ap (λ (most : ℕ). most * c.args.count) c.most.ensures.most in
    subst (λ (graph : GraphOf). IsLaneGraphOf c.args.fabric.now c.args.count graph) (sym c.in_ok-graph.ensures)
    (lane_graph_of c.args.fabric.now c.args.count _ c.most.ensures.fabric c.in_ok-bases.ensures (omega (arith, row)))
