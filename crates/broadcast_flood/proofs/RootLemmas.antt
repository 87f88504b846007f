-- Which member is the root, and the parent ports of the others.
use Rattle.std.proofs.Common.{◌≡◌, ◌≢◌, ◌∙◌, sym, ap, ℕ, List, Some, arith, inl, inr}
use Rattle.std.proofs.lemmas.Bool.{cases_eq}
use Rattle.an_base.specs.Values.{LifeId, EntryOf}
use Rattle.topo_graph.specs.Topology.{life_at, place_of, IsGraph, IsTree}
use Rattle.topo_graph.proofs.FarLemmas.{one_place}
use Rattle.topo_graph.proofs.PlaceLemmas.{place_is}
use Rattle.topo_graph.proofs.TreeLemmas.{tree_stands}
use Rattle.broadcast_flood.specs.Tree.{parent_port, parent_of, IsParentPort}

module _ (es : List EntryOf) (life : LifeId) (x : ℕ) (graph : IsGraph es) (tree : IsTree es) (at : place_of es life ≡ Some x) where
  -- the root has no parent link
  pub root_port : life ≡ life_at es 0 → parent_port es x ≡ 0
  root_port root =
      let is = place_is es x life at in
      let first = one_place es x 0 graph.rising is.0 (let some = graph.some in omega arith) (is.1 ∙ root) in
      ((tree_stands es graph tree x is.0).first first).2

  -- every other member has one
  pub has_parent : x ≢ 0 → (far : ℕ × ℕ) × (parent_of es x ≡ Some far)
  has_parent other =
      let below = (tree_stands es graph tree x (place_is es x life at).0).below other in
      ((below.0, below.1.parent.port.0), below.1.parent.port.1)

  pub no_port_root : parent_port es x ≡ 0 → life ≡ life_at es 0
  no_port_root none = elim (cases_eq x 0) [
    | inl first ↦ sym (place_is es x life at).1 ∙ ap (life_at es) first
    | inr other ↦ absurd (let far = has_parent other in let least = (graph.within x (parent_port es x) far.0 far.1).port_least in omega arith)
  ]

  pub port_up : (port : ℕ) → port ≡ parent_port es x → port ≢ 0 → IsParentPort es life port
  port_up port is other = elim (cases_eq x 0) [
    | inl first ↦ absurd (let none = ((tree_stands es graph tree x (place_is es x life at).0).first first).2 in other (is ∙ none))
    | inr below ↦ (let far = has_parent below in (x, far.0, at, is, far.1))
  ]
