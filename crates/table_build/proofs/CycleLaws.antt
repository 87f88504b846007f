use Rattle.std.proofs.Common.{◌≡◌, ◌∙◌, sym, subst, refl, ℕ, zero, suc, List, Some, Bool, true, false, inl, inr}
use Rattle.std.proofs.lemmas.Bool.{cases_Bool}
use Rattle.an_base.specs.Values.{EntryOf}
use Rattle.common_values.proofs.OrderingLemmas.{less_is}
use Rattle.topo_graph.specs.Topology.{far_of, IsGraph}
use Rattle.topo_graph.proofs.FarLemmas.{one_far}
use Rattle.updown.specs.Routes.{height_cmp, is_up_end}
use Rattle.updown.proofs.RouteLemmas.{height_total, not_both_higher, leads_down}
use Rattle.table_build.specs.Exits.{may_go_up}
use Rattle.table_build.specs.Laws.{LeadsOn, ChannelWalk}
use Rattle.table_build.proofs.WayLaws.{entry_up, way_next, way_far}

-- the channel's link leads up, or down
abbrev pub Leads : List EntryOf → Bool → (ℕ × ℕ) → Type 0
Leads es up a = (z q : ℕ) × (far_of es a.0 a.1 ≡ Some (z, q)) × (is_up_end es z a.0 ≡ up)

-- what is higher than what is higher
pub higher : (es : List EntryOf) (x y z : ℕ) → is_up_end es x y ≡ true → is_up_end es y z ≡ true → is_up_end es x z ≡ true
higher es x y z a b = let less = (height_total es).trans x y z (less_is (height_cmp es x y) a) (less_is (height_cmp es y z) b) in rw less refl

-- the next channel leads up only where the first does
next_up : (es : List EntryOf) (any : Bool) (a b : ℕ × ℕ) → IsGraph es → LeadsOn es any a b → (w r : ℕ) × (far_of es b.0 b.1 ≡ Some (w, r)) × (is_up_end es w b.0 ≡ true → is_up_end es b.0 a.0 ≡ true)
next_up es any a b graph (q, y, e, begins) =
    let up = may_go_up es b.0 q in
    let far = way_far es up b.0 y b.1 begins.rest begins.way in
    let next = way_next es up b.0 y b.1 far.0 far.1 begins.rest far.2 begins.way in
    (far.0, far.1, far.2, λ is. sym (entry_up es a.0 a.1 b.0 q graph e) ∙ next.1 is)

-- behind a channel that leads down the next leads down too, and begins lower
down_step : (es : List EntryOf) (any : Bool) (a b : ℕ × ℕ) → IsGraph es → Leads es false a → LeadsOn es any a b → Leads es false b × (is_up_end es a.0 b.0 ≡ true)
down_step es any a b graph (z, q, e, down) on =
    let same = one_far es a.0 a.1 z q b.0 on.0 e on.2 in
    let not_up : is_up_end es b.0 a.0 ≡ false = subst (λ (w : ℕ). is_up_end es w a.0 ≡ false) same down in
    let next = next_up es any a b graph on in (
      (
        next.0,
        next.1,
        next.2,
        elim (cases_Bool (is_up_end es next.0 b.0)) [
          | inl up ↦ absurd (let f = next.3 up in cc)
          | inr is ↦ is
        ],
      ),
      leads_down es a.0 a.1 b.0 on.0 graph on.2 not_up,
    )

-- before a channel that leads up the one before leads up too, and begins lower
up_step : (es : List EntryOf) (any : Bool) (a b : ℕ × ℕ) → IsGraph es → Leads es true b → LeadsOn es any a b → Leads es true a × (is_up_end es b.0 a.0 ≡ true)
up_step es any a b graph (w, r, f, up) on =
    let next = next_up es any a b graph on in
    let same = one_far es b.0 b.1 w r next.0 next.1 f next.2 in
    let is = next.3 (subst (λ (v : ℕ). is_up_end es v b.0 ≡ true) same up) in
    ((b.0, on.0, on.2, is), is)

-- the same along walks
down_walk : (es : List EntryOf) (any : Bool) (n : ℕ) (a b : ℕ × ℕ) → IsGraph es → Leads es false a → ChannelWalk es any (suc n) a b → is_up_end es a.0 b.0 ≡ true
down_walk es any zero a b graph down (c, on, same) = subst (λ (d : ℕ × ℕ). is_up_end es a.0 d.0 ≡ true) same (down_step es any a c graph down on).1
down_walk es any (suc n) a b graph down (c, on, walk) =
    let one = down_step es any a c graph down on in
    higher es a.0 c.0 b.0 one.1 (down_walk es any n c b graph one.0 walk)

up_walk : (es : List EntryOf) (any : Bool) (n : ℕ) (a b : ℕ × ℕ) → IsGraph es → Leads es true b → ChannelWalk es any (suc n) a b → Leads es true a × (is_up_end es b.0 a.0 ≡ true)
up_walk es any zero a b graph up (c, on, same) =
    let one = up_step es any a c graph (subst (λ (d : ℕ × ℕ). Leads es true d) (sym same) up) on in
    (one.0, subst (λ (d : ℕ × ℕ). is_up_end es d.0 a.0 ≡ true) same one.1)
up_walk es any (suc n) a b graph up (c, on, walk) =
    let rest = up_walk es any n c b graph up walk in
    let one = up_step es any a c graph rest.0 on in
    (one.0, higher es b.0 c.0 a.0 rest.1 one.1)

-- nothing is higher than itself
pub not_itself : (es : List EntryOf) (x : ℕ) → is_up_end es x x ≡ true → ⊥
not_itself es x up = absurd (let not_up = not_both_higher es x x up in cc)

-- so no channel leads back to itself
pub no_cycle : (es : List EntryOf) (any : Bool) (n : ℕ) (a : ℕ × ℕ) → IsGraph es → ChannelWalk es any (suc n) a a → ⊥
no_cycle es any n a graph (c, on, walk) = elim (cases_Bool (is_up_end es c.0 a.0)) [
  | inl up ↦ not_itself es a.0 (up_walk es any n a a graph (c.0, on.0, on.2, up) (c, on, walk)).1
  | inr down ↦ not_itself es a.0 (down_walk es any n a a graph (c.0, on.0, on.2, down) (c, on, walk))
]
