use Rattle.std.proofs.Common.{◌≡◌, ◌≢◌, ◌∙◌, ◌⊎◌, sym, ap, subst, refl, ℕ, zero, suc, ◌+◌, ◌<◌, ◌≤◌, List, [], ◌∷◌, Some, arith, length, Contains, All, get_or, map, inl, inr, IsTrue}
use Rattle.std.specs.Ordering.{is_le}
use Rattle.std.proofs.lemmas.Bool.{cases_lt}
use Rattle.std.proofs.lemmas.List.{get_or-map, get_or_default, length-map}
use Rattle.std.proofs.lemmas.List.Elements.{All-contains, Contains-get_or}
use Rattle.an_base.specs.Values.{LifeId, PeerAt, EntryOf}
use Rattle.an_base.specs.Order.{life_cmp, PortsRise}
use Rattle.an_base.specs.Tree.{Walk, IsDistance, IsBelowParent}
use Rattle.an_base.proofs.PlaceLaws.{one_level}
use Rattle.net_graph.specs.Wires.{Wires, IsWired, network, far_of}
use Rattle.net_graph.specs.Entry.{LeadsOut}
use Rattle.net_graph.specs.Forest.{IsEntry, IsMember, IsComponent}
use Rattle.net_graph.proofs.OneForest.{one_life}
use Rattle.net_graph.proofs.FarLemmas.{far_range, far_back}
use Rattle.topo_graph.specs.Topology.{Names, IsLink, nothing, entry_at, life_at, end_at, level_at, IsGraph, IsTree, far_of as far_in}
use Rattle.topo_graph.specs.Stands.{IsAfter, IsNextBelow, Stands}
use Rattle.topo_graph.proofs.FarLemmas.{one_place, far_is_link, link_is_far}
use Rattle.topo_graph.proofs.TreeLemmas.{places_le, stand_tree}
use Rattle.common_values.proofs.PigeonLemmas.{pigeons}

-- the switch of the entry at a place
abbrev member_at : (w : Wires) (r : ℕ) (es : List EntryOf) → IsComponent w r es → (i : ℕ) → i < length es → IsMember w r (entry_at es i)
member_at w r es component i low = component.only i nothing low

-- the place of the entry of a switch that has a walk to the root
place_for : (w : Wires) (r : ℕ) (es : List EntryOf) → IsComponent w r es → (x m : ℕ) → x < length w.switches → Walk (network w) m x r → (i : ℕ) × (i < length es) × IsEntry w r x (entry_at es i)
place_for w r es component x m in_x walk =
    let there = component.whole x m in_x walk in
    (there.0, there.2, subst (λ (e : EntryOf). IsEntry w r x e) (sym (get_or_default es there.0 nothing there.1 there.2 ∙ there.3)) there.4)

-- the entry at place 0 is that of the root
root_first : (w : Wires) (r : ℕ) (es : List EntryOf) → IsComponent w r es → life_at es 0 ≡ (network w).life r
root_first w r es component =
    let there = place_for w r es component r 0 component.root refl in
    let low = there.1 in
    let least : IsTrue (is_le (life_cmp ((network w).life r) (life_at es 0))) = component.least 0 nothing (omega arith) in
    let first = places_le es there.0 0 component.rising there.1 (subst (λ (l : LifeId). IsTrue (is_le (life_cmp l (life_at es 0)))) (sym there.2.life) least) in
    let none : there.0 ≡ 0 = omega arith in
    ap (life_at es) (sym none) ∙ there.2.life

-- FEW ENTRIES

-- the switch of the entry at a place, 0 past the last
abbrev switch_at : (w : Wires) (r : ℕ) (es : List EntryOf) → IsComponent w r es → (i : ℕ) → (i < length es) ⊎ (length es ≤ i) → ℕ
switch_at w r es component i (inl low) = (member_at w r es component i low).0
switch_at w r es component i (inr high) = 0

-- it is below the count of switches, and has the life of the entry
switch_is : (w : Wires) (r : ℕ) (es : List EntryOf) (component : IsComponent w r es) (i : ℕ) (c : (i < length es) ⊎ (length es ≤ i)) → i < length es → (switch_at w r es component i c < length w.switches) × (life_at es i ≡ (network w).life (switch_at w r es component i c))
switch_is w r es component i (inl low) low' = let m = member_at w r es component i low in (m.1, m.2.life)
switch_is w r es component i (inr high) low' = absurd (omega arith)

-- there are no more entries than switches
few_entries : (w : Wires) (r : ℕ) (es : List EntryOf) → IsComponent w r es → length es ≤ length w.switches
few_entries w r es component = elim (cases_lt (length w.switches) (length es)) [
  | inr few ↦ few
  | inl many ↦ (
      let f : ℕ → ℕ = λ i. switch_at w r es component i (cases_lt i (length es)) in
      let two = pigeons (length w.switches) f (λ k le. (switch_is w r es component k (cases_lt k (length es)) (omega arith)).0) in
      let lt = two.2 in
      let le = two.3 in
      let low : two.0 < length es = omega arith in
      let low' : two.1 < length es = omega arith in
      let a = (switch_is w r es component two.0 (cases_lt two.0 (length es)) low).1 in
      let b = (switch_is w r es component two.1 (cases_lt two.1 (length es)) low').1 in
      let same = one_place es two.0 two.1 component.rising low low' (a ∙ ap (λ (x : ℕ). (network w).life x) two.4 ∙ sym b) in
      absurd (omega arith))
]

-- LINKS OF THE ENTRIES ARE LINKS OF THE WIRES

-- what an entry names is a link of its switch
named_out : (w : Wires) (r : ℕ) (es : List EntryOf) (component : IsComponent w r es) (i : ℕ) (low : i < length es) (p : ℕ) (l : LifeId) (q : ℕ) → Names es (end_at es i p) (record { life = l; port = q }) → LeadsOut (network w) (member_at w r es component i low).0 (record { port = p; peer = record { life = l; port = q } })
named_out w r es component i low p l q (e, (k, k_low, is), life, has) =
    let m = member_at w r es component i low in
    let link : PeerAt = record { port = p; peer = record { life = l; port = q } } in
    let at : entry_at es k ≡ e = get_or_default es k nothing e k_low ∙ is in
    let here : k ≡ i = one_place es k i component.rising k_low low (ap (λ (f : EntryOf). f.life) at ∙ life) in
    let mine : Contains (entry_at es i).links link = subst (λ (f : EntryOf). Contains f.links link) (sym at ∙ ap (entry_at es) here) has in
    All-contains (LeadsOut (network w) m.0) (entry_at es i).links link m.2.links.each mine

-- what a port of an entry leads to, among the switches
record FarAt (w : Wires) (r : ℕ) (es : List EntryOf) (i p j q : ℕ) : Type 0 where
  low : i < length es
  far_low : j < length es
  near : IsMember w r (entry_at es i)
  far : IsMember w r (entry_at es j)
  linked : far_of w.links near.0 p ≡ Some (far.0, q)

far_at : (w : Wires) (r : ℕ) (es : List EntryOf) (i p j q : ℕ) → IsWired w → IsComponent w r es → far_in es i p ≡ Some (j, q) → FarAt w r es i p j q
far_at w r es i p j q wired component e =
    let f = far_is_link es i p j q component.rising e in
    let a = member_at w r es component i f.0 in
    let b = member_at w r es component j f.1 in
    let out = named_out w r es component i f.0 p (life_at es j) q f.2.there in
    let range = far_range (length w.switches) w.links a.0 p out.0 q wired.links out.2 in
    let same : out.0 ≡ b.0 = one_life w out.0 b.0 wired range.y_below b.1 (sym out.3 ∙ b.2.life) in
    record { low = f.0; far_low = f.1; near = a; far = b; linked = out.2 ∙ ap (λ (y : ℕ). Some (y, q)) same }

-- an entry names the ends of the links of its switch that lead to members
names : (w : Wires) (r : ℕ) (es : List EntryOf) (i j x y p q : ℕ) → i < length es → IsEntry w r x (entry_at es i) → IsEntry w r y (entry_at es j) → y ≢ x → far_of w.links x p ≡ Some (y, q) → Names es (end_at es i p) (end_at es j q)
names w r es i j x y p q low is_x is_y other e =
    let link : LifeId → PeerAt = λ l. record { port = p; peer = record { life = l; port = q } } in
    (entry_at es i, Contains-get_or es i nothing low, refl, subst (λ (l : LifeId). Contains (entry_at es i).links (link l)) (sym is_y.life) (is_x.links.whole p y q other e))

-- a link between the switches of two entries is a link of the entries
link_in : (w : Wires) (r : ℕ) (es : List EntryOf) (i j x y p q : ℕ) → IsWired w → i < length es → j < length es → x < length w.switches → y < length w.switches → IsEntry w r x (entry_at es i) → IsEntry w r y (entry_at es j) → y ≢ x → far_of w.links x p ≡ Some (y, q) → IsLink es (end_at es i p) (end_at es j q)
link_in w r es i j x y p q wired low low' in_x in_y is_x is_y other e = record {
  there = names w r es i j x y p q low is_x is_y other e;
  back = names w r es j i y x q p low' is_y is_x (λ same. other (sym same)) (far_back w wired x p y q e);
  apart = λ same. other (one_life w y x wired in_y in_x (sym is_y.life ∙ sym same ∙ is_x.life));
}

-- THE GRAPH

-- past the last place there is no entry
no_entry : (es : List EntryOf) (i : ℕ) → length es ≤ i → entry_at es i ≡ nothing
no_entry [] i high = refl
no_entry (e ∷ es) zero high = absurd (omega arith)
no_entry (e ∷ es) (suc i) high = no_entry es i (omega arith)

-- the ports of each entry rise
ports_rise : (w : Wires) (r : ℕ) (es : List EntryOf) → IsComponent w r es → (i : ℕ) → PortsRise (entry_at es i).links
ports_rise w r es component i = elim (cases_lt i (length es)) [
  | inl low ↦ (member_at w r es component i low).2.links.rising
  | inr high ↦ subst (λ (e : EntryOf). PortsRise e.links) (sym (no_entry es i high)) (λ a b d lt within. absurd (omega arith))
]

-- the entries of a component are a graph
graph_of : (w : Wires) (r : ℕ) (es : List EntryOf) → IsWired w → IsComponent w r es → IsGraph es
graph_of w r es wired component = record {
  some = let there = place_for w r es component r 0 component.root refl in let low = there.1 in omega arith;
  most = let few = few_entries w r es component in let most = wired.count in omega arith;
  rising = component.rising;
  ports = ports_rise w r es component;
  within = λ i p far e.
      let f = far_at w r es i p far.0 far.1 wired component e in
      let range = far_range (length w.switches) w.links f.near.0 p f.far.0 far.1 wired.links f.linked in
      record { place = f.low; port_least = range.p_least; port_most = range.p_most; far_place = f.far_low; far_port_least = range.q_least; far_port_most = range.q_most };
}

-- THE TREE

-- the entry at each place stands where the levels of its neighbours put it
stands : (w : Wires) (r : ℕ) (es : List EntryOf) → IsWired w → IsComponent w r es → (i : ℕ) → i < length es → Stands es i (entry_at es i).position
stands w r es wired component i low = record {
  root = is.place.root ∙ sym first;
  first = λ same.
      let at : x ≡ r = one_life w x r wired in_x component.root (sym is.life ∙ ap (life_at es) same ∙ first) in
      let least = is.place.level.least 0 at in
      let mine = is.place.at_root at in
      (omega arith, mine.0 ∙ sym first, mine.1);
  below = λ other. let b = is.place.below (not_root other) in from_parent b.0 b.1;
}
  where
    x : ℕ
    x = (member_at w r es component i low).0

    in_x : x < length w.switches
    in_x = (member_at w r es component i low).1

    is : IsEntry w r x (entry_at es i)
    is = (member_at w r es component i low).2

    first : life_at es 0 ≡ (network w).life r
    first = root_first w r es component

    not_root : i ≢ 0 → x ≢ r
    not_root other same = other (one_place es i 0 component.rising low (omega arith) (is.life ∙ ap (λ (y : ℕ). (network w).life y) same ∙ sym first))

    -- no port of i leads to a better parent than j
    after : (y j : ℕ) → IsBelowParent (network w) r x y (entry_at es i).position → y < length w.switches → j < length es → IsEntry w r y (entry_at es j) → (o : ℕ) → IsAfter es i j (entry_at es i).position o
    after y j parent in_y low_j is_y o z q e =
        let f = far_at w r es i o z q wired component e in
        let u = f.far.0 in
        let is_u : IsEntry w r u (entry_at es z) = f.far.2 in
        let near : f.near.0 ≡ x = one_life w f.near.0 x wired f.near.1 in_x (sym f.near.2.life ∙ is.life) in
        let linked : far_of w.links x o ≡ Some (u, q) = ap (λ (v : ℕ). far_of w.links v o) (sym near) ∙ f.linked in
        let longer : level_at es i ≤ suc (level_at es z) = is.place.level.least (suc (level_at es z)) (u, (o, q, linked), is_u.place.level.walk) in (
          omega arith,
          λ level.
              let least = parent.least u (record { neighbour = (o, q, linked); nearer = (level_at es z, level, is_u.place.level) }) in
              let le : IsTrue (is_le (life_cmp (life_at es j) ((network w).life u))) = subst (λ (l : LifeId). IsTrue (is_le (life_cmp l ((network w).life u)))) (sym is_y.life) least in (
                places_le es j z component.rising low_j (subst (λ (l : LifeId). IsTrue (is_le (life_cmp (life_at es j) l))) (sym is_u.life) le),
                λ same.
                    let one : u ≡ y = one_life w u y wired f.far.1 in_y (sym is_u.life ∙ ap (life_at es) (sym same) ∙ is_y.life) in
                    parent.least_port o q (linked ∙ ap (λ (v : ℕ). Some (v, q)) one),
              ),
        )

    from_parent : (y : ℕ) → IsBelowParent (network w) r x y (entry_at es i).position → (j : ℕ) × IsNextBelow es i j (entry_at es i).position
    from_parent y parent =
        let p = (entry_at es i).position.port in
        let q = parent.port.0 in
        let in_y = (far_range (length w.switches) w.links x p y q wired.links parent.port.1).y_below in
        let near = parent.nearer.nearer in
        let nearer : near.0 + 1 ≡ level_at es i = near.1 in
        let there = place_for w r es component y near.0 in_y near.2.walk in
        let j = there.0 in
        let is_y : IsEntry w r y (entry_at es j) = there.2 in
        let other : y ≢ x = λ same. absurd (let m = one_level (network w) x r near.0 (level_at es i) (subst (λ (v : ℕ). IsDistance (network w) v r near.0) same near.2) is.place.level in omega arith) in
        let f = link_is_far es (end_at es i p) (end_at es j q) (graph_of w r es wired component) (link_in w r es i j x y p q wired low there.1 in_x in_y is is_y other parent.port.1) in
        let here : f.0 ≡ i = one_place es f.0 i component.rising f.2 low f.4 in
        let far : f.1 ≡ j = one_place es f.1 j component.rising f.3 there.1 f.5 in
        let level : level_at es j ≡ near.0 = one_level (network w) y r (level_at es j) near.0 is_y.place.level near.2 in (
          j,
          record {
            parent = record {
              port = (q, ap (λ (v : ℕ). far_in es v p) (sym here) ∙ f.6 ∙ ap (λ (v : ℕ). Some (v, q)) far);
              level = omega arith;
              parent = parent.parent ∙ sym is_y.life;
            };
            after = after y j parent in_y there.1 is_y;
          },
        )

-- the entries of a component are a graph and a tree
pub component_tree : (w : Wires) (r : ℕ) (es : List EntryOf) → IsWired w → IsComponent w r es → IsGraph es × IsTree es
component_tree w r es wired component = (graph_of w r es wired component, stand_tree es (graph_of w r es wired component) (stands w r es wired component))

-- PARTS

-- what holds of all images holds of the image of each element
pub All-from_map : {X Y : Type 0} (P : Y → Type 0) (f : X → Y) (xs : List X) → All P (map f xs) → All (λ x. P (f x)) xs
All-from_map P f xs all k d low = subst P (get_or-map f xs k d (f d) low) (all k (f d) (let e = length-map xs f in omega arith))
