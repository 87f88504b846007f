-- Steps between channels that never turn from a link downward to one upward have no cycle.
use Rattle.std.proofs.Common.{◌≡◌, sym, subst, ℕ, zero, suc, List, Some, true, false, inl, inr}
use Rattle.std.proofs.lemmas.Bool.{cases_Bool}
use Rattle.an_base.specs.Values.{EntryOf}
use Rattle.topo_graph.specs.Topology.{far_of, IsGraph}
use Rattle.topo_graph.proofs.FarLemmas.{one_far}
use Rattle.updown.specs.Routes.{is_up_end}
use Rattle.updown.proofs.RouteLemmas.{leads_down}
use Rattle.broadcast_flood.specs.Cycles.{Walk}
use Rattle.table_build.proofs.CycleLaws.{higher, not_itself}

-- the link of the channel leads up
abbrev pub IsUpward : List EntryOf → (ℕ × ℕ) → Type 0
IsUpward es a = (z q : ℕ) × (far_of es a.0 a.1 ≡ Some (z, q)) × (is_up_end es z a.0 ≡ true)

-- a step leads over a link to a channel of its far end, and never from a link downward to one upward
pub record NeverTurnsUp (es : List EntryOf) (Step : (ℕ × ℕ) → (ℕ × ℕ) → Type 0) : Type 0 where
  pub over : (a b : ℕ × ℕ) → Step a b → (q : ℕ) × (far_of es a.0 a.1 ≡ Some (b.0, q))
  pub link : (a b : ℕ × ℕ) → Step a b → (z q : ℕ) × (far_of es b.0 b.1 ≡ Some (z, q))
  pub up : (a b : ℕ × ℕ) → Step a b → IsUpward es b → IsUpward es a

-- the link of the channel leads down
abbrev pub IsDownward : List EntryOf → (ℕ × ℕ) → Type 0
IsDownward es a = (z q : ℕ) × (far_of es a.0 a.1 ≡ Some (z, q)) × (is_up_end es z a.0 ≡ false)

-- not both
apart : (es : List EntryOf) (a : ℕ × ℕ) → IsUpward es a → IsDownward es a → ⊥
apart es a (z, q, e, up) (w, r, f, down) =
    let same = one_far es a.0 a.1 z q w r e f in
    absurd (let level : is_up_end es w a.0 ≡ true = subst (λ (v : ℕ). is_up_end es v a.0 ≡ true) same up in cc)

module _ (es : List EntryOf) (Step : (ℕ × ℕ) → (ℕ × ℕ) → Type 0) (graph : IsGraph es) (never : NeverTurnsUp es Step) where
  -- behind a channel that leads down the next leads down too, and begins lower
  down_step : (a b : ℕ × ℕ) → IsDownward es a → Step a b → IsDownward es b × (is_up_end es a.0 b.0 ≡ true)
  down_step a b down step =
      let over = never.over a b step in
      let link = never.link a b step in
      let same = one_far es a.0 a.1 down.0 down.1 b.0 over.0 down.2 over.1 in
      let not_up : is_up_end es b.0 a.0 ≡ false = subst (λ (w : ℕ). is_up_end es w a.0 ≡ false) same down.3 in (
        elim (cases_Bool (is_up_end es link.0 b.0)) [
          | inl up ↦ absurd (apart es a (never.up a b step (link.0, link.1, link.2, up)) down)
          | inr is ↦ (link.0, link.1, link.2, is)
        ],
        leads_down es a.0 a.1 b.0 over.0 graph over.1 not_up,
      )

  -- before a channel that leads up the one before leads up too, and begins lower
  up_step : (a b : ℕ × ℕ) → IsUpward es b → Step a b → IsUpward es a × (is_up_end es b.0 a.0 ≡ true)
  up_step a b up step =
      let over = never.over a b step in
      let before = never.up a b step up in
      let same = one_far es a.0 a.1 before.0 before.1 b.0 over.0 before.2 over.1 in
      (before, subst (λ (w : ℕ). is_up_end es w a.0 ≡ true) same before.3)

  -- the same along walks
  down_walk : (n : ℕ) (a b : ℕ × ℕ) → IsDownward es a → Walk Step (suc n) a b → is_up_end es a.0 b.0 ≡ true
  down_walk zero a b down (c, step, same) = subst (λ (d : ℕ × ℕ). is_up_end es a.0 d.0 ≡ true) same (down_step a c down step).1
  down_walk (suc n) a b down (c, step, walk) =
      let one = down_step a c down step in
      higher es a.0 c.0 b.0 one.1 (down_walk n c b one.0 walk)

  up_walk : (n : ℕ) (a b : ℕ × ℕ) → IsUpward es b → Walk Step (suc n) a b → IsUpward es a × (is_up_end es b.0 a.0 ≡ true)
  up_walk zero a b up (c, step, same) =
      let one = up_step a c (subst (λ (d : ℕ × ℕ). IsUpward es d) (sym same) up) step in
      (one.0, subst (λ (d : ℕ × ℕ). is_up_end es d.0 a.0 ≡ true) same one.1)
  up_walk (suc n) a b up (c, step, walk) =
      let rest = up_walk n c b up walk in
      let one = up_step a c rest.0 step in
      (one.0, higher es b.0 c.0 a.0 rest.1 one.1)

  pub never_back : (n : ℕ) (a : ℕ × ℕ) → Walk Step (suc n) a a → ⊥
  never_back n a (c, step, walk) =
      let over = never.over a c step in
      elim (cases_Bool (is_up_end es c.0 a.0)) [
        | inl up ↦ not_itself es a.0 (up_walk n a a (c.0, over.0, over.1, up) (c, step, walk)).1
        | inr down ↦ not_itself es a.0 (down_walk n a a (c.0, over.0, over.1, down) (c, step, walk))
      ]
