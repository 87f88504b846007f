use Rattle.std.proofs.Common.{ℕ, arith, sym, subst, inl, inr}
use Rattle.std.proofs.lemmas.Bool.{cases_eq}
use Rattle.common_graph.specs.Graph.{FallFrom}
use Rattle.common_graph.proofs.ranks.first_rise.Goals as goal

pub nodes-preserved : goal.nodes-preserved
nodes-preserved c = λ node low. elim (cases_eq node c.nodes.node) [
  | inl same ↦ subst (λ (x : ℕ). FallFrom c.args.graph.now c.args.ranks.now x) (sym same) c.in_default.ensures
  | inr before ↦ c.nodes.invariant node (omega arith)
]

pub returns : goal.returns
returns c = λ node next leads. let low = leads.low in c.nodes.invariant node (omega arith) next leads
