-- The hops of a broadcast are one list, and each member has its copy before it sends it on.
use Rattle.std.proofs.Common.{◌≡◌, ◌∙◌, sym, ap, subst, refl, ℕ, ◌<◌, List, [], ◌∷◌, ◌++◌, Option, Some, None, true, false, Less, Equal, Greater, arith, length, map, Contains, inl, inr}
use Rattle.std.specs.declared.cmp.Ordering.{Ordering}
use Rattle.std.specs.Ordering.{nat_cmp, ordering_then, ordering_reverse, is_lt}
use Rattle.std.specs.Cmp.{IsTotalOrder, then_total, on_total, nat_cmp_total}
use Rattle.std.proofs.lemmas.Bool.{cases_lt, cases_eq}
use Rattle.std.proofs.lemmas.Bool.Decides.{nat_tests}
use Rattle.std.proofs.lemmas.Option.{same_Some}
use Rattle.std.proofs.lemmas.List.{get_or_default}
use Rattle.std.proofs.lemmas.List.Elements.{All-contains}
use Rattle.an_base.specs.Values.{LifeId, EntryOf}
use Rattle.an_base.specs.Order.{life_cmp}
use Rattle.common_values.proofs.MemberLemmas.{one_rising}
use Rattle.topo_graph.specs.Topology.{far_of, level_at, life_at, IsGraph, IsTree}
use Rattle.updown.specs.Routes.{height_cmp}
use Rattle.updown.proofs.RouteLemmas.{height_total}
use Rattle.broadcast_flood.specs.Tree.{parent_port, parent_of, IsDown}
use Rattle.broadcast_flood.specs.Floods.{HopOf, GoesUp, IsBefore, GoesDown, IsBroadcast, HasItsCopy, down_hop, hop_at}
use Rattle.broadcast_flood.specs.declared.hop.FloodHop.{FloodHop}
use Rattle.broadcast_flood.proofs.TreeLemmas.{parent_level, down_far}

-- the way up is one
one_up_list : (es : List EntryOf) (x : ℕ) (hops others : List HopOf) (top other : ℕ) → GoesUp es x hops top → GoesUp es x others other → hops ≡ others
one_up_list es x [] [] top other up up' = refl
one_up_list es x [] (hop ∷ hops) top other (same, none) (y, q, is, e, up) = absurd (cc)
one_up_list es x (hop ∷ hops) [] top other (y, q, is, e, up) (same, none) = absurd (cc)
one_up_list es x (hop ∷ hops) (hop' ∷ hops') top other (y, q, is, e, up) (z, r, is', f, up') =
    let one : y ≡ z = ap (λ (far : ℕ × ℕ). far.0) (same_Some (y, q) (z, r) (sym e ∙ f)) in
    let rest = one_up_list es y hops hops' top other up (subst (λ (w : ℕ). GoesUp es w hops' other) (sym one) up') in
    ap (λ (h : HopOf). h ∷ hops) (is ∙ sym is') ∙ ap (λ (hs : List HopOf). hop' ∷ hs) rest

-- hops are totally ordered, so no two are each before the other
abbrev hop_cmp : List EntryOf → HopOf → HopOf → Ordering
hop_cmp es a b = ordering_then (height_cmp es a.place b.place) (nat_cmp a.port b.port)

hop_total : (es : List EntryOf) → IsTotalOrder (hop_cmp es)
hop_total es = then_total (on_total (λ (hop : HopOf). hop.place) (height_total es)) (on_total (λ (hop : HopOf). hop.port) nat_cmp_total)

reversed : (o p : Ordering) → o ≡ ordering_reverse p → is_lt o ≡ true → is_lt p ≡ true → ⊥
reversed Less Less e a b = absurd (cc)
reversed Less Equal e a b = absurd (cc)
reversed Less Greater e a b = absurd (cc)
reversed Equal p e a b = absurd (cc)
reversed Greater p e a b = absurd (cc)

not_both : (es : List EntryOf) (a b : HopOf) → IsBefore es a b → IsBefore es b a → ⊥
not_both es a b first second = reversed (hop_cmp es a b) (hop_cmp es b a) ((hop_total es).antisymm a b) first second

-- the hops down are one list
there : (es : List EntryOf) (hops others : List HopOf) → GoesDown es hops → GoesDown es others → (hop : HopOf) → Contains hops hop → Contains others hop
there es hops others down down' hop has = down'.whole hop.place hop.port (All-contains (λ (h : HopOf). IsDown es h.place h.port) hops hop down.each has)

one_down_list : (es : List EntryOf) (hops others : List HopOf) → GoesDown es hops → GoesDown es others → hops ≡ others
one_down_list es hops others down down' = one_rising (IsBefore es) hops others (λ a b _ _. not_both es a b) down.in_order down'.in_order (there es hops others down down') (there es others hops down' down)

pub one_list : (es : List EntryOf) (from : LifeId) (first second : List FloodHop) → IsBroadcast es from first → IsBroadcast es from second → first ≡ second
one_list es from first second a b =
    let place : a.place ≡ b.place = same_Some a.place b.place (sym a.member ∙ b.member) in
    let up = subst (λ (x : ℕ). GoesUp es x b.ups b.flood.top) (sym place) b.flood.up in
    let ups = one_up_list es a.place a.ups b.ups a.flood.top b.flood.top a.flood.up up in
    let downs = one_down_list es a.downs b.downs a.flood.down b.flood.down in
    a.hops_are ∙ ap (λ (hs : List HopOf). map (hop_at es true) hs ++ map (hop_at es false) a.downs) ups ∙ ap (λ (hs : List HopOf). map (hop_at es true) b.ups ++ map (hop_at es false) hs) downs ∙ sym b.hops_are

-- a member of lower level sends first
lower_first : (es : List EntryOf) (a b : HopOf) → level_at es a.place < level_at es b.place → IsBefore es a b
lower_first es a b less = less_first (level_at es a.place) (level_at es b.place) (life_cmp (life_at es a.place) (life_at es b.place)) (nat_cmp a.port b.port) less
  where
    less_first : (m n : ℕ) (o p : Ordering) → m < n → is_lt (ordering_then (ordering_then (nat_cmp m n) o) p) ≡ true
    less_first m n o p low = grind (arith, nat_tests)

-- the parent sends before its child
pub copy_first : (es : List EntryOf) (downs : List HopOf) (k : ℕ) → IsGraph es → IsTree es → GoesDown es downs → k < length downs → HasItsCopy es downs k
copy_first es downs k graph tree down low = by (parent_of es (down_hop downs k).place) refl
  where
    by : (far : Option (ℕ × ℕ)) → parent_of es (down_hop downs k).place ≡ far → HasItsCopy es downs k
    by None e = inl e
    by (Some (y, q)) e =
        let x = (down_hop downs k).place in
        let has = down.whole y q (x, e) in
        let j = has.0 in
        let one : HopOf = record { place = y; port = q } in
        let is : down_hop downs j ≡ one = get_or_default downs j (record { place = 0; port = 0 }) one has.1 ∙ has.2 in
        let level = parent_level es x y q graph tree e in
        let before : IsBefore es (down_hop downs j) (down_hop downs k) = subst (λ (h : HopOf). IsBefore es h (down_hop downs k)) (sym is) (lower_first es one (down_hop downs k) (omega arith)) in
        let far = subst (λ (h : HopOf). far_of es h.place h.port ≡ Some (x, parent_port es x)) (sym is) (down_far es y q x graph e) in
        inr (j, parent_port es x, earlier j has.1 before, far)
      where
        earlier : (j : ℕ) → j < length downs → IsBefore es (down_hop downs j) (down_hop downs k) → j < k
        earlier j within before = elim (cases_lt j k) [
          | inl less ↦ less
          | inr more ↦ elim (cases_eq j k) [
            | inl same ↦ absurd (let again : IsBefore es (down_hop downs k) (down_hop downs k) = subst (λ (i : ℕ). IsBefore es (down_hop downs i) (down_hop downs k)) same before in not_both es (down_hop downs k) (down_hop downs k) again again)
            | inr other ↦ absurd (not_both es (down_hop downs j) (down_hop downs k) before (down.in_order k j (record { place = 0; port = 0 }) (omega arith) within))
          ]
        ]
