use Rattle.std.proofs.Common.{sym, subst, refl, ℕ, arith, inl, inr}
use Rattle.std.proofs.lemmas.Bool.{cases_eq}
use Rattle.an_base.specs.Values.{Place}
use Rattle.topo_graph.specs.Topology.{entry_at}
use Rattle.topo_graph.specs.Stands.{Stands}
use Rattle.topo_graph.proofs.TreeLemmas.{stand_tree, tree_stands}
use Rattle.topo_graph.proofs.graph.Graph.tree_ok.Goals as goal

pub returns-then-not-stands : goal.returns-then-not-stands
returns-then-not-stands c = (
  λ t. absurd (let f = t in cc),
  λ tree.
      let here = tree_stands c.args.self.now c.count-count.ensures.graph tree c.entries.x (omega arith) in
      let yes = c.if-not-stands.ensures.1 (subst (λ (p : Place). Stands c.args.self.now c.entries.x p) (sym c.position.ensures) here) in
      absurd (cc),
)

pub entries-preserved : goal.entries-preserved
entries-preserved c = λ y low. elim (cases_eq y c.entries.x) [
  | inl same ↦ (
      let here : Stands c.args.self.now c.entries.x (entry_at c.args.self.now c.entries.x).position = rw c.position.ensures at (c.if-not-stands.ensures.0 refl) in
      subst (λ (z : ℕ). Stands c.args.self.now z (entry_at c.args.self.now z).position) (sym same) here)
  | inr other ↦ c.entries.invariant y (omega arith)
]

pub returns : goal.returns
returns c = (
  λ _. stand_tree c.args.self.now c.count-count.ensures.graph (λ y low. c.entries.invariant y (omega arith)),
  λ _. refl,
)
