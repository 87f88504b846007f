-- Parent links lead up, and their far sides lead down.
use Rattle.std.proofs.Common.{◌≡◌, ◌+◌, subst, refl, ℕ, List, Some, true, arith, inl, inr}
use Rattle.std.proofs.lemmas.Bool.{cases_eq}
use Rattle.an_base.specs.Values.{EntryOf}
use Rattle.an_base.specs.Order.{life_cmp}
use Rattle.topo_graph.specs.Topology.{life_at, level_at, far_of, IsGraph, IsTree}
use Rattle.topo_graph.proofs.FarLemmas.{far_back, one_far}
use Rattle.topo_graph.proofs.TreeLemmas.{tree_stands}
use Rattle.updown.specs.Routes.{is_up_end}
use Rattle.broadcast_flood.specs.Tree.{parent_port, parent_of, IsDownTo}
use Rattle.table_build.proofs.TreeRoutes.{level_up}

-- the root has no parent link
pub root_none : (es : List EntryOf) (y q : ℕ) → IsGraph es → IsTree es → parent_of es 0 ≡ Some (y, q) → ⊥
root_none es y q graph tree e =
    let within = graph.within 0 (parent_port es 0) (y, q) e in
    let first = (tree_stands es graph tree 0 within.place).first refl in
    let least = within.port_least in
    let none : parent_port es 0 ≡ 0 = first.2 in
    absurd (omega arith)

-- a parent link leads up, by one level
pub parent_level : (es : List EntryOf) (x y q : ℕ) → IsGraph es → IsTree es → parent_of es x ≡ Some (y, q) → level_at es y + 1 ≡ level_at es x
parent_level es x y q graph tree e =
    let within = graph.within x (parent_port es x) (y, q) e in
    elim (cases_eq x 0) [
      | inl same ↦ absurd (root_none es y q graph tree (subst (λ (w : ℕ). parent_of es w ≡ Some (y, q)) same e))
      | inr other ↦ (
          let below = (tree_stands es graph tree x within.place).below other in
          let port = below.1.parent.port in
          let same : below.0 ≡ y = one_far es x (parent_port es x) below.0 port.0 y q port.1 e in
          subst (λ (w : ℕ). level_at es w + 1 ≡ level_at es x) same below.1.parent.level)
    ]

pub parent_up : (es : List EntryOf) (x y q : ℕ) → IsGraph es → IsTree es → parent_of es x ≡ Some (y, q) → is_up_end es y x ≡ true
parent_up es x y q graph tree e =
    let level = parent_level es x y q graph tree e in
    level_up (level_at es y) (level_at es x) (life_cmp (life_at es y) (life_at es x)) (omega arith)

-- a tree link downward leads to the child
pub down_far : (es : List EntryOf) (x port child : ℕ) → IsGraph es → IsDownTo es x port child → far_of es x port ≡ Some (child, parent_port es child)
down_far es x port child graph e = far_back es child (parent_port es child) x port graph e
