-- The hops down, piece by piece: those of each member in the order of the descent.
use Rattle.std.proofs.Common.{◌≡◌, ◌∙◌, sym, ap, subst, refl, ℕ, ◌+◌, ◌<◌, List, [], ◌∷◌, ◌++◌, true, false, arith, length, get_or, map, take, All, AllPairs, Contains, Less, Equal, Greater}
use Rattle.std.specs.Prelude.{flat_map}
use Rattle.std.specs.declared.cmp.Ordering.{Ordering}
use Rattle.std.specs.Ordering.{nat_cmp, ordering_then, is_lt}
use Rattle.std.specs.Cmp.{tied_itself}
use Rattle.std.proofs.lemmas.Bool.Decides.{nat_tests}
use Rattle.std.proofs.lemmas.List.{get_or_default, map-append}
use Rattle.std.proofs.lemmas.List.Elements.{All-map}
use Rattle.an_base.specs.Values.{LifeId, EntryOf}
use Rattle.topo_graph.specs.Topology.{life_at, IsGraph}
use Rattle.updown.specs.declared.order.Height.{Height}
use Rattle.updown.specs.Order.{IsDescent}
use Rattle.updown.specs.Routes.{height_cmp}
use Rattle.updown.proofs.OrderLemmas.{position_is}
use Rattle.updown.proofs.RouteLemmas.{height_total}
use Rattle.common_values.proofs.PairLemmas.{AllPairs-map}
use Rattle.common_values.proofs.MemberLemmas.{Contains-image}
use Rattle.common_values.proofs.FlatMapLemmas.{Contains-flat_map, All-flat_map, AllPairs-flat_map, flat_map-more}
use Rattle.broadcast_flood.specs.Tree.{parent_port, IsDown, AreChildPorts}
use Rattle.broadcast_flood.specs.Floods.{HopOf, IsBefore, hop_at, down_at}
use Rattle.broadcast_flood.specs.Kept.{AreChildren, AreHopsDown}
use Rattle.broadcast_flood.specs.declared.hop.FloodHop.{FloodHop}
use Rattle.broadcast_flood.proofs.DescentLemmas.{falls}
use Rattle.broadcast_flood.proofs.TreeLemmas.{down_far}

-- a hop by a port of the member at a place
abbrev hop_by : ℕ → ℕ → HopOf
hop_by x port = record { place = x; port = port }

-- the hops of a member to its children
abbrev pub hops_of : List (List ℕ) → Height → List HopOf
hops_of children h = map (hop_by h.place) (get_or children h.place [])

-- by lives
lives_of : (es : List EntryOf) (x : ℕ) (ports : List ℕ) → map (down_at (life_at es x)) ports ≡ map (hop_at es false) (map (hop_by x) ports)
lives_of es x [] = refl
lives_of es x (port ∷ ports) = ap (λ (hs : List FloodHop). down_at (life_at es x) port ∷ hs) (lives_of es x ports)

-- the hops of the members so far
abbrev pub AreHopsOf : List EntryOf → List (List ℕ) → List Height → List FloodHop → Type 0
AreHopsOf es children heights hops = hops ≡ map (hop_at es false) (flat_map (hops_of children) heights)

-- with those of one member more
pub hops_more : (es : List EntryOf) (children : List (List ℕ)) (order : List Height) (i : ℕ) (h : Height) (hops more : List FloodHop) (life : LifeId) (ports : List ℕ) → i < length order → h ≡ get_or order i h → AreHopsOf es children (take i order) hops → life ≡ life_at es h.place → ports ≡ get_or children h.place [] → more ≡ hops ++ map (down_at life) ports → AreHopsOf es children (take (i + 1) order) more
hops_more es children order i h hops more life ports low at so_far life_is ports_are is =
    let piece : map (down_at life) ports ≡ map (hop_at es false) (hops_of children h) = ap (λ (l : LifeId). map (down_at l) ports) life_is ∙ ap (map (down_at (life_at es h.place))) ports_are ∙ lives_of es h.place (get_or children h.place []) in
    is ∙ ap (λ (hs : List FloodHop). hs ++ map (down_at life) ports) so_far ∙ ap (λ (hs : List FloodHop). map (hop_at es false) (flat_map (hops_of children) (take i order)) ++ hs) piece
    ∙ sym (map-append (hop_at es false) (flat_map (hops_of children) (take i order)) (hops_of children h))
    ∙ ap (map (hop_at es false)) (ap (λ (k : Height). flat_map (hops_of children) (take i order) ++ hops_of children k) at ∙ sym (flat_map-more (hops_of children) order i h low))

-- a higher member sends before a lower one, and a member by its lesser port first
before_of : (o p : Ordering) → is_lt o ≡ true → is_lt (ordering_then o p) ≡ true
before_of Less p up = refl
before_of Equal p up = absurd (cc)
before_of Greater p up = absurd (cc)

by_port : (o : Ordering) (p q : ℕ) → o ≡ Equal → p < q → is_lt (ordering_then o (nat_cmp p q)) ≡ true
by_port Less p q same less = absurd (cc)
by_port Equal p q same less = grind (arith, nat_tests)
by_port Greater p q same less = absurd (cc)

module _ (es : List EntryOf) (children : List (List ℕ)) (order : List Height) (graph : IsGraph es) (are : AreChildren es (length es) children) (descent : IsDescent es order) where
  ports_are : (k : ℕ) (d : Height) → k < length order → AreChildPorts es (get_or order k d).place (get_or children (get_or order k d).place [])
  ports_are k d low = are.each (get_or order k d).place (descent.heights.each k d low).0

  each_down : All (λ hop. IsDown es hop.place hop.port) (flat_map (hops_of children) order)
  each_down = All-flat_map (λ hop. IsDown es hop.place hop.port) (hops_of children) order
      (λ k d low. All-map (λ hop. IsDown es hop.place hop.port) (hop_by (get_or order k d).place) (get_or children (get_or order k d).place []) (ports_are k d low).each)

  whole_down : (x port : ℕ) → IsDown es x port → Contains (flat_map (hops_of children) order) (hop_by x port)
  whole_down x port down =
      let within = graph.within x port (down.0, parent_port es down.0) (down_far es x port down.0 graph down.1) in
      let k = position_is es order x descent within.place in
      let h : Height = get_or order k.0 (record { level = 0; place = 0 }) in
      let there : Contains order h = (k.0, k.1, get_or_default order k.0 h (record { level = 0; place = 0 }) k.1) in
      let port_there = (are.each x within.place).whole port down in
      Contains-flat_map (hops_of children) order h (hop_by x port) there
      (subst (λ (y : ℕ). Contains (map (hop_by y) (get_or children y [])) (hop_by x port)) (sym k.2) (Contains-image (hop_by x) (get_or children x []) port port_there))

  in_order_down : AllPairs (IsBefore es) (flat_map (hops_of children) order)
  in_order_down = AllPairs-flat_map (IsBefore es) (hops_of children) order
      (λ k d low.
      let x = (get_or order k d).place in
      let ports = get_or children x [] in
      AllPairs-map (IsBefore es) (hop_by x) ports (λ i j e less within.
      by_port (height_cmp es x x) (get_or ports i e) (get_or ports j e) (tied_itself (height_total es) x) ((ports_are k d low).rising i j e less within)))
      (λ i j d less low.
      let x = (get_or order i d).place in
      let y = (get_or order j d).place in
      All-map (λ hop. All (IsBefore es hop) (map (hop_by y) (get_or children y []))) (hop_by x) (get_or children x []) (λ m p here.
      let port = get_or (get_or children x []) m p in
      All-map (IsBefore es (hop_by x port)) (hop_by y) (get_or children y []) (λ n q there.
      before_of (height_cmp es x y) (nat_cmp port (get_or (get_or children y []) n q)) (falls es order descent graph i j d less low))))

  pub all_down : (hops : List FloodHop) → AreHopsOf es children order hops → AreHopsDown es hops
  all_down hops is = (flat_map (hops_of children) order, record { each = each_down; whole = whole_down; in_order = in_order_down }, is)
