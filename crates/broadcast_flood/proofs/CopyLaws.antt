-- Each member gets one copy of a broadcast.
use Rattle.std.proofs.Common.{◌≡◌, ◌≢◌, ◌∙◌, sym, ap, subst, refl, ℕ, zero, suc, ◌<◌, List, [], ◌∷◌, Some, true, false, Equal, arith, length, get_or, inl, inr, ◌==◌}
use Rattle.std.specs.Prelude.{All, AllPairs}
use Rattle.std.specs.declared.cmp.Ordering.{Ordering}
use Rattle.std.specs.Ordering.{nat_cmp, ordering_then, is_lt}
use Rattle.std.specs.Cmp.{tied_itself}
use Rattle.std.proofs.lemmas.Bool.{cases_eq}
use Rattle.std.proofs.lemmas.Bool.Decides.{nat_tests}
use Rattle.std.proofs.lemmas.Option.{same_Some}
use Rattle.an_base.specs.Values.{EntryOf}
use Rattle.topo_graph.specs.Topology.{far_of, IsGraph, IsTree}
use Rattle.topo_graph.proofs.TreeLemmas.{tree_stands}
use Rattle.updown.specs.Routes.{height_cmp}
use Rattle.updown.proofs.RouteLemmas.{height_total}
use Rattle.broadcast_flood.specs.Tree.{parent_port, parent_of, IsDown, IsDownTo}
use Rattle.broadcast_flood.specs.Floods.{HopOf, GoesUp, IsBefore, GoesDown, IsFlood, arrivals_by, arrivals, copies}
use Rattle.broadcast_flood.proofs.TreeLemmas.{root_none, down_far}

-- a hop is its place and port
abbrev hop_of : ℕ × ℕ → HopOf
hop_of f = record { place = f.0; port = f.1 }

same_hop : (a b : ℕ × ℕ) → a ≡ b → hop_of a ≡ hop_of b
same_hop a b e = ap hop_of e

-- no hop is before itself
compare_same : (a : ℕ) → nat_cmp a a ≡ Equal
compare_same a = grind (arith, nat_tests)

not_before : (es : List EntryOf) (hop : HopOf) → IsBefore es hop hop → ⊥
not_before es hop before =
    let same : ordering_then (height_cmp es hop.place hop.place) (nat_cmp hop.port hop.port) ≡ Equal = ap (λ (o : Ordering). ordering_then o (nat_cmp hop.port hop.port)) (tied_itself (height_total es) hop.place) ∙ compare_same hop.port in
    let not : is_lt (ordering_then (height_cmp es hop.place hop.place) (nat_cmp hop.port hop.port)) ≡ false = ap is_lt same in
    absurd (cc)

module _ (es : List EntryOf) (graph : IsGraph es) (tree : IsTree es) where
  -- each member but the root has a parent link
  has_parent : (x : ℕ) → x < length es → x ≢ 0 → (y q : ℕ) × (parent_of es x ≡ Some (y, q))
  has_parent x low other =
      let below = (tree_stands es graph tree x low).below other in
      (below.0, below.1.parent.port.0, below.1.parent.port.1)

  -- so the way up ends at the root
  pub way_up : (x : ℕ) (hops : List HopOf) (top : ℕ) → x < length es → GoesUp es x hops top → top ≡ 0
  way_up x [] top low (same, none) = elim (cases_eq x 0) [
    | inl first ↦ sym same ∙ first
    | inr other ↦ absurd (let parent = has_parent x low other in let some = parent.2 in cc)
  ]
  way_up x (hop ∷ hops) top low (y, q, is, e, up) = way_up y hops top (graph.within x (parent_port es x) (y, q) e).far_place up

  -- a hop down arrives at a member where that is its child
  arrives : (y : ℕ) (hop : HopOf) (child : ℕ) → IsDownTo es hop.place hop.port child → child ≡ y → arrivals_by y (far_of es hop.place hop.port) ≡ 1
  arrives y hop child down same =
      let far = down_far es hop.place hop.port child graph down in
      let test : (child == y) ≡ true = (grind (arith, nat_tests)) in
      rw (far, test) refl

  passes_by : (y : ℕ) (hop : HopOf) (child : ℕ) → IsDownTo es hop.place hop.port child → child ≢ y → arrivals_by y (far_of es hop.place hop.port) ≡ 0
  passes_by y hop child down other =
      let far = down_far es hop.place hop.port child graph down in
      let test : (child == y) ≡ false = (grind (arith, nat_tests)) in
      rw (far, test) refl

  -- no hop arrives
  none_arrives : (y : ℕ) (hops : List HopOf) → All (λ hop. IsDown es hop.place hop.port) hops → ((k : ℕ) (d : HopOf) (child : ℕ) → k < length hops → IsDownTo es (get_or hops k d).place (get_or hops k d).port child → child ≢ y) → arrivals es y hops ≡ 0
  none_arrives y [] each never = refl
  none_arrives y (hop ∷ hops) each never =
      let down = each zero hop (omega arith) in
      let here = passes_by y hop down.0 down.1 (never zero hop down.0 (omega arith) down.1) in
      let rest = none_arrives y hops (λ k d low. each (suc k) d (omega arith)) (λ k d child low is. never (suc k) d child (omega arith) is) in
      omega arith

  -- one does
  one_arrives : (y : ℕ) (one : HopOf) → IsDownTo es one.place one.port y → ((hop : HopOf) → IsDownTo es hop.place hop.port y → hop ≡ one) → (hops : List HopOf) (i : ℕ) → All (λ hop. IsDown es hop.place hop.port) hops → AllPairs (IsBefore es) hops → i < length hops → get_or hops i one ≡ one → arrivals es y hops ≡ 1
  one_arrives y one down only [] i each pairs low is = absurd (omega arith)
  one_arrives y one down only (hop ∷ hops) zero each pairs low is =
      let here = arrives y hop y (subst (λ (h : HopOf). IsDownTo es h.place h.port y) (sym is) down) refl in
      let rest = none_arrives y hops (λ k d below. each (suc k) d (omega arith)) (λ k d child below at same.
      let again : get_or hops k d ≡ one = only (get_or hops k d) (subst (λ (c : ℕ). IsDownTo es (get_or hops k d).place (get_or hops k d).port c) same at) in
      let before : IsBefore es hop (get_or hops k d) = pairs zero (suc k) d (omega arith) (omega arith) in
      not_before es one (subst (λ (h : HopOf). IsBefore es h one) is (subst (λ (h : HopOf). IsBefore es hop h) again before))) in
      omega arith
  one_arrives y one down only (hop ∷ hops) (suc i) each pairs low is =
      let own = each zero hop (omega arith) in
      let here = passes_by y hop own.0 own.1 (λ (same : own.0 ≡ y).
      let again : hop ≡ one = only hop (subst (λ (c : ℕ). IsDownTo es hop.place hop.port c) same own.1) in
      let before : IsBefore es hop (get_or hops i one) = pairs zero (suc i) one (omega arith) (omega arith) in
      not_before es one (subst (λ (h : HopOf). IsBefore es h one) again (subst (λ (h : HopOf). IsBefore es hop h) is before))) in
      let rest = one_arrives y one down only hops i (λ k d below. each (suc k) d (omega arith)) (λ a b d less below. pairs (suc a) (suc b) d (omega arith) (omega arith)) (omega arith) is in
      omega arith

  -- so each member gets one copy
  at_root : (downs : List HopOf) → GoesDown es downs → copies es 0 downs 0 ≡ 1
  at_root downs down =
      let none = none_arrives 0 downs down.each (λ k d child low is same. root_none es (get_or downs k d).place (get_or downs k d).port graph tree (subst (λ (c : ℕ). IsDownTo es (get_or downs k d).place (get_or downs k d).port c) same is)) in
      omega arith

  below_root : (y : ℕ) (downs : List HopOf) → y < length es → y ≢ 0 → GoesDown es downs → copies es 0 downs y ≡ 1
  below_root y downs low other down =
      let parent = has_parent y low other in
      let one : HopOf = record { place = parent.0; port = parent.1 } in
      let has = down.whole parent.0 parent.1 (y, parent.2) in
      let count = one_arrives y one parent.2 (λ hop is. same_hop (hop.place, hop.port) (parent.0, parent.1) (same_Some (hop.place, hop.port) (parent.0, parent.1) (sym is ∙ parent.2))) downs has.0 down.each down.in_order has.1 has.2 in
      let test : (y == 0) ≡ false = (grind (arith, nat_tests)) in
      rw test (omega arith)

  pub one_copy : (from y : ℕ) (ups downs : List HopOf) → from < length es → y < length es → (flood : IsFlood es from ups downs) → (flood.top ≡ 0) × (copies es flood.top downs y ≡ 1)
  one_copy from y ups downs from_low low flood =
      let top = way_up from ups flood.top from_low flood.up in (
        top,
        subst (λ (t : ℕ). copies es t downs y ≡ 1) (sym top) (elim (cases_eq y 0) [
          | inl first ↦ subst (λ (w : ℕ). copies es 0 downs w ≡ 1) (sym first) (at_root downs flood.down)
          | inr other ↦ below_root y downs low other flood.down
        ]),
      )
