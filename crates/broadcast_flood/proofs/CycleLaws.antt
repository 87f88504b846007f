-- Rows and broadcasts together never turn up.
use Rattle.std.proofs.Common.{◌≡◌, ◌∙◌, sym, subst, ℕ, suc, List, Some, Bool, true, inl, inr}
use Rattle.an_base.specs.Values.{EntryOf}
use Rattle.topo_graph.specs.Topology.{far_of, IsGraph, IsTree}
use Rattle.topo_graph.proofs.FarLemmas.{one_far}
use Rattle.updown.specs.Routes.{is_up_end}
use Rattle.updown.proofs.RouteLemmas.{not_both_higher}
use Rattle.table_build.specs.Exits.{may_go_up}
use Rattle.table_build.specs.Laws.{LeadsOn}
use Rattle.table_build.proofs.WayLaws.{entry_up, way_next, way_far}
use Rattle.broadcast_flood.specs.Tree.{parent_port, IsDown}
use Rattle.broadcast_flood.specs.Cycles.{IsUp, LeadsByBroadcast, Leads, Walk}
use Rattle.broadcast_flood.proofs.TurnLemmas.{IsUpward, NeverTurnsUp, never_back}
use Rattle.broadcast_flood.proofs.TreeLemmas.{parent_up, down_far}

module _ (es : List EntryOf) (any : Bool) (graph : IsGraph es) (tree : IsTree es) where
  -- by rows
  row_link : (a b : ℕ × ℕ) → LeadsOn es any a b → (z q : ℕ) × (far_of es b.0 b.1 ≡ Some (z, q))
  row_link a b (q, y, e, begins) = way_far es (may_go_up es b.0 q) b.0 y b.1 begins.rest begins.way

  row_up : (a b : ℕ × ℕ) → LeadsOn es any a b → IsUpward es b → IsUpward es a
  row_up a b (q, y, e, begins) (z, r, f, is_up) =
      let up = may_go_up es b.0 q in
      let next = way_next es up b.0 y b.1 z r begins.rest f begins.way in
      (b.0, q, e, sym (entry_up es a.0 a.1 b.0 q graph e) ∙ next.1 is_up)

  -- by broadcast
  up_far : (a : ℕ × ℕ) (y : ℕ) → IsUp es a y → (q : ℕ) × (far_of es a.0 a.1 ≡ Some (y, q))
  up_far a y (q, port, e) = (q, subst (λ (p : ℕ). far_of es a.0 p ≡ Some (y, q)) (sym port) e)

  up_up : (a : ℕ × ℕ) (y : ℕ) → IsUp es a y → IsUpward es a
  up_up a y (q, port, e) = (y, q, subst (λ (p : ℕ). far_of es a.0 p ≡ Some (y, q)) (sym port) e, parent_up es a.0 y q graph tree e)

  -- a tree link downward is not upward
  down_not_up : (b : ℕ × ℕ) → IsDown es b.0 b.1 → IsUpward es b → ⊥
  down_not_up b (child, e) (z, r, f, is_up) =
      let same = one_far es b.0 b.1 z r child (parent_port es child) f (down_far es b.0 b.1 child graph e) in
      let here : is_up_end es child b.0 ≡ true = subst (λ (w : ℕ). is_up_end es w b.0 ≡ true) same is_up in
      let parent = not_both_higher es b.0 child (parent_up es child b.0 b.1 graph tree e) in
      absurd (cc)

  cast_over : (a b : ℕ × ℕ) → LeadsByBroadcast es a b → (q : ℕ) × (far_of es a.0 a.1 ≡ Some (b.0, q))
  cast_over a b leads = elim leads [
    | inl up ↦ up_far a b.0 up.first
    | inr other ↦ elim other [
      | inl turns ↦ up_far a b.0 turns.first
      | inr down ↦ (down.entry, down.arrives)
    ]
  ]

  cast_link : (a b : ℕ × ℕ) → LeadsByBroadcast es a b → (z q : ℕ) × (far_of es b.0 b.1 ≡ Some (z, q))
  cast_link a b leads = elim leads [
    | inl up ↦ (let far = up_far b up.parent up.second in (up.parent, far.0, far.1))
    | inr other ↦ elim other [
      | inl turns ↦ (turns.second.0, parent_port es turns.second.0, down_far es b.0 b.1 turns.second.0 graph turns.second.1)
      | inr down ↦ (down.second.0, parent_port es down.second.0, down_far es b.0 b.1 down.second.0 graph down.second.1)
    ]
  ]

  cast_up : (a b : ℕ × ℕ) → LeadsByBroadcast es a b → IsUpward es b → IsUpward es a
  cast_up a b leads is_up = elim leads [
    | inl up ↦ up_up a b.0 up.first
    | inr other ↦ elim other [
      | inl turns ↦ up_up a b.0 turns.first
      | inr down ↦ absurd (down_not_up b down.second is_up)
    ]
  ]

  -- together
  pub all_never : NeverTurnsUp es (Leads es any)
  all_never = record {
    over = λ a b step. elim step [ inl row ↦ (row.0, row.2) | inr cast ↦ cast_over a b cast ];
    link = λ a b step. elim step [ inl row ↦ row_link a b row | inr cast ↦ cast_link a b cast ];
    up = λ a b step is_up. elim step [ inl row ↦ row_up a b row is_up | inr cast ↦ cast_up a b cast is_up ];
  }

  pub no_cycle : (n : ℕ) (a : ℕ × ℕ) → Walk (Leads es any) (suc n) a a → ⊥
  no_cycle n a walk = never_back es (Leads es any) graph all_never n a walk
