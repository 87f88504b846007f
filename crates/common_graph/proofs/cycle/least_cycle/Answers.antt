use Rattle.std.proofs.Common.{ℕ, arith, subst, inl, inr}
use Rattle.std.proofs.lemmas.Bool.{cases_eq, iff_false}
use Rattle.common_graph.specs.Graph.{LeadsTo}
use Rattle.common_graph.specs.Cycles.{IsCycle}
use Rattle.common_graph.specs.Search.{HasNoCycleFrom}
use Rattle.common_graph.proofs.CycleLemmas.{cycle_at, cycle_peer, path_low}
use Rattle.common_graph.proofs.cycle.least_cycle.Goals as goal
use Rattle.common_graph.proofs.cycle.least_cycle.Goals.{then-has_peer+in_ok-nodes+in_default, else-has_peer}

pub returns-in-Some : goal.returns-in-Some
returns-in-Some c = cycle_at c.args.graph.now c.nodes.start c.in-Some.nodes.items (λ node rest less cycle. c.nodes.invariant node less rest cycle) (rw c.in-Some.is at c.in_ok-nodes.ensures)

pub nodes-preserved : goal.nodes-preserved
nodes-preserved c = λ node low rest cycle. elim (cases_eq node c.nodes.start) [
  | inr before ↦ c.nodes.invariant node (omega arith) rest cycle
  | inl same ↦ (
      let graph = c.args.graph.now in
      let round : IsCycle (LeadsTo graph) c.nodes.start rest = subst (λ (x : ℕ). IsCycle (LeadsTo graph) x rest) same cycle in
      elim c.if-has_peer.branch [
        | then-has_peer+in_ok-nodes+in_default w ↦ (let none : HasNoCycleFrom graph c.nodes.start = rw w.in_default.is at w.in_ok-nodes.ensures in none rest round)
        | else-has_peer w ↦ absurd (iff_false c.has_peer.ensures w.if-has_peer.false (cycle_peer graph c.args.tiers.now c.requires c.nodes.start rest round))
      ])
]

pub returns : goal.returns
returns c = λ node rest cycle. let low = path_low c.args.graph.now node rest node cycle in c.nodes.invariant node (omega arith) rest cycle
