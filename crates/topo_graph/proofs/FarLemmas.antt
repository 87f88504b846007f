use Rattle.std.proofs.Common.{◌≡◌, ◌∙◌, sym, ap, subst, refl, ℕ, zero, suc, ◌<◌, List, [], ◌∷◌, Option, Some, None, Bool, true, false, arith, length, get_or, Contains, inl, inr, ◌==◌, ◌&&◌}
use Rattle.std.specs.Prelude.{not, if◌then◌else◌}
use Rattle.std.specs.Option.{option_and_then}
use Rattle.std.specs.Ordering.{is_eq}
use Rattle.std.proofs.lemmas.Bool.{cases_Bool, cases_eq, cases_lt, and_parts, and_from, eqb-true, eq-eqb, eqb-false, not-true}
use Rattle.std.proofs.lemmas.Option.{same_Some}
use Rattle.std.proofs.lemmas.List.{get_or_default}
use Rattle.std.proofs.lemmas.List.Folds.{Any-from_list_any, list_any-from_Any}
use Rattle.std.proofs.lemmas.List.Elements.{Contains-get_or}
use Rattle.an_base.specs.Values.{LifeId, EndId, PeerAt, EntryOf}
use Rattle.an_base.specs.Order.{life_cmp, LivesRise, PortsRise}
use Rattle.topo_graph.specs.Topology.{Names, IsLink, nothing, entry_at, life_at, end_at, place_of, is_to, names_at, joined_at, joined, link_at, far_of, IsGraph}
use Rattle.an_base.proofs.LifeLemmas.{same_life, life_passes}
use Rattle.topo_graph.proofs.PlaceLemmas.{place_found, place_is}
use Rattle.topo_graph.proofs.RowLemmas.{far_past}

-- entries of one life are one
pub one_place : (es : List EntryOf) (x y : ℕ) → LivesRise es → x < length es → y < length es → life_at es x ≡ life_at es y → x ≡ y
one_place es x y rising low low' same =
    same_Some x y (sym (place_found es x (life_at es y) rising low same) ∙ place_found es y (life_at es y) rising low' refl)

-- links of rising ports that have one port are one
one_link : (links : List PeerAt) (i j : ℕ) (d : PeerAt) → PortsRise links → i < length links → j < length links → (get_or links i d).port ≡ (get_or links j d).port → i ≡ j
one_link links i j d rising low low' same = elim (cases_lt i j) [
  | inl lt ↦ absurd (let h = rising i j d lt low' in omega arith)
  | inr ge ↦ elim (cases_eq i j) [
    | inl e ↦ e
    | inr other ↦ absurd (let h = rising j i d (omega arith) low in omega arith)
  ]
]

-- a link that is found is one of the links, at the port
link_is : (links : List PeerAt) (p : ℕ) (l : PeerAt) → link_at links p ≡ Some l → Contains links l × (l.port ≡ p)
link_is [] p l e = absurd (cc)
link_is (m ∷ links) p l e = elim (cases_Bool (m.port == p)) [
  | inl at ↦ (
      let found : link_at (m ∷ links) p ≡ Some m = rw at refl in
      let same : m ≡ l = same_Some m l (sym found ∙ e) in
      ((0, omega arith, same), subst (λ (k : PeerAt). k.port ≡ p) same (eqb-true m.port p at)))
  | inr not_at ↦ (
      let later : link_at (m ∷ links) p ≡ link_at links p = rw not_at refl in
      let rest = link_is links p l (sym later ∙ e) in
      ((suc rest.0.0, let low = rest.0.1 in omega arith, rest.0.2), rest.1))
]

-- and one of the links is found at its port
link_found : (links : List PeerAt) (l : PeerAt) → PortsRise links → Contains links l → link_at links l.port ≡ Some l
link_found [] l rising has = absurd (let low = has.1 in omega arith)
link_found (m ∷ links) l rising (zero, low, is) = let at : (m.port == l.port) ≡ true = eq-eqb m.port l.port (ap (λ (k : PeerAt). k.port) is) in rw at (ap (λ (k : PeerAt). Some k) is)
link_found (m ∷ links) l rising (suc k, low, is) = elim (cases_Bool (m.port == l.port)) [
  | inl at ↦ (
      let same : m.port ≡ l.port = eqb-true m.port l.port at in
      let lt : m.port < (get_or links k l).port = rising 0 (suc k) l (omega arith) low in
      let e : (get_or links k l).port ≡ l.port = ap (λ (j : PeerAt). j.port) is in
      absurd (omega arith))
  | inr not_at ↦ rw not_at (link_found links l (λ i j d lt less. rising (suc i) (suc j) d (omega arith) (omega arith)) (k, omega arith, is))
]

-- a link that passes the test has the port and the end
is_to_is : (p : ℕ) (e : EndId) (l : PeerAt) → is_to p e l ≡ true → l ≡ record { port = p; peer = e }
is_to_is p e l test =
    let a = and_parts (l.port == p) (is_eq (life_cmp l.peer.life e.life) && (l.peer.port == e.port)) test in
    let b = and_parts (is_eq (life_cmp l.peer.life e.life)) (l.peer.port == e.port) a.1 in
    let port : l.port ≡ p = eqb-true l.port p a.0 in
    let life : l.peer.life ≡ e.life = same_life l.peer.life e.life b.0 in
    let far : l.peer.port ≡ e.port = eqb-true l.peer.port e.port b.1 in
    ap (λ (n : ℕ). made n l.peer.life l.peer.port) port ∙ ap (λ (f : LifeId). made p f l.peer.port) life ∙ ap (λ (n : ℕ). made p e.life n) far
  where
    made : ℕ → LifeId → ℕ → PeerAt
    made n f q = record { port = n; peer = record { life = f; port = q } }

-- and the link of the port and the end passes it
is_to_passes : (p : ℕ) (e : EndId) (l : PeerAt) → l ≡ record { port = p; peer = e } → is_to p e l ≡ true
is_to_passes p e l is = rw is (and_from (p == p) (is_eq (life_cmp e.life e.life) && (e.port == e.port)) (eq-eqb p p refl) (and_from (is_eq (life_cmp e.life e.life)) (e.port == e.port) (life_passes e.life e.life refl) (eq-eqb e.port e.port refl)))

-- the test of names says that the link is there
names_are : (es : List EntryOf) (x p : ℕ) (e : EndId) → names_at es x p e ≡ true → Contains (entry_at es x).links (record { port = p; peer = e })
names_are es x p e test =
    let any = Any-from_list_any (is_to p e) (entry_at es x).links test in
    subst (λ (l : PeerAt). Contains (entry_at es x).links l) (is_to_is p e any.1 any.4) (any.0, any.2, any.3)

names_pass : (es : List EntryOf) (x p : ℕ) (e : EndId) → Contains (entry_at es x).links (record { port = p; peer = e }) → names_at es x p e ≡ true
names_pass es x p e has = list_any-from_Any (is_to p e) (entry_at es x).links (has.0, record { port = p; peer = e }, has.1, has.2, is_to_passes p e _ refl)

-- what an option followed by a step gives
then_some : {A B : Type 0} (f : A → Option B) (o : Option A) (b : B) → option_and_then f o ≡ Some b → (a : A) × (o ≡ Some a) × (f a ≡ Some b)
then_some f None b e = absurd (cc)
then_some f (Some a) b e = (a, refl, e)

-- a guarded option that is some
guarded : {A : Type 0} (t : Bool) (a b : A) → (if t then Some a else None) ≡ Some b → (t ≡ true) × (a ≡ b)
guarded true a b e = (refl, same_Some a b e)
guarded false a b e = absurd (cc)

-- what a port leads to is at the other end of a link
pub far_is_link : (es : List EntryOf) (x p y q : ℕ) → LivesRise es → far_of es x p ≡ Some (y, q) → (x < length es) × (y < length es) × IsLink es (end_at es x p) (end_at es y q)
far_is_link es x p y q rising e = elim (cases_lt x (length es)) [
  | inr high ↦ absurd (let none = far_past es x p high in cc)
  | inl low ↦ (
      let at_port = then_some (joined es x) (link_at (entry_at es x).links p) (y, q) e in
      let l = at_port.0 in
      let is = link_is (entry_at es x).links p l at_port.1 in
      let at_place = then_some (joined_at es x l) (place_of es l.peer.life) (y, q) at_port.2 in
      let z = at_place.0 in
      let z_is = place_is es z l.peer.life at_place.1 in
      let parts = guarded (not (z == x) && names_at es z l.peer.port (end_at es x l.port)) (z, l.peer.port) (y, q) at_place.2 in
      let test = and_parts (not (z == x)) (names_at es z l.peer.port (end_at es x l.port)) parts.0 in
      let back = names_are es z l.peer.port (end_at es x l.port) test.1 in
      let zy : z ≡ y = ap (λ (f : ℕ × ℕ). f.0) parts.1 in
      let pq : l.peer.port ≡ q = ap (λ (f : ℕ × ℕ). f.1) parts.1 in
      let made : ℕ → LifeId → ℕ → PeerAt = λ n f o. record { port = n; peer = record { life = f; port = o } } in
      let far_life : l.peer.life ≡ life_at es y = sym z_is.1 ∙ ap (life_at es) zy in
      let l_is : l ≡ made p (life_at es y) q = ap (λ (n : ℕ). made n l.peer.life l.peer.port) is.1 ∙ ap (λ (f : LifeId). made p f l.peer.port) far_life ∙ ap (λ (o : ℕ). made p (life_at es y) o) pq in
      let there : Contains (entry_at es x).links (made p (life_at es y) q) = subst (λ (m : PeerAt). Contains (entry_at es x).links m) l_is is.0 in
      let b1 : made l.peer.port (life_at es x) l.port ≡ made q (life_at es x) p = ap (λ (o : ℕ). made o (life_at es x) l.port) pq ∙ ap (λ (n : ℕ). made q (life_at es x) n) is.1 in
      let back' : Contains (entry_at es y).links (made q (life_at es x) p) = subst (λ (n : ℕ). Contains (entry_at es n).links (made q (life_at es x) p)) zy (subst (λ (m : PeerAt). Contains (entry_at es z).links m) b1 back) in
      let y_low : y < length es = subst (λ (n : ℕ). n < length es) zy z_is.0 in (
        low,
        y_low,
        record {
          there = (entry_at es x, Contains-get_or es x nothing low, refl, there);
          back = (entry_at es y, Contains-get_or es y nothing y_low, refl, back');
          apart = λ same. eqb-false z x (not-true (z == x) test.0) (zy ∙ sym (one_place es x y rising low y_low same));
        },
      ))
]

-- the entry of a life that names an end stands at its place
named_at : (es : List EntryOf) (a b : EndId) → Names es a b → (x : ℕ) × (x < length es) × (life_at es x ≡ a.life) × Contains (entry_at es x).links (record { port = a.port; peer = b })
named_at es a b (e, (k, low, is), life, has) =
    let at : entry_at es k ≡ e = get_or_default es k nothing e low ∙ is in
    (k, low, ap (λ (f : EntryOf). f.life) at ∙ life, subst (λ (f : EntryOf). Contains f.links (record { port = a.port; peer = b })) (sym at) has)

-- and a link is at the far side of its ports
pub link_is_far : (es : List EntryOf) (a b : EndId) → IsGraph es → IsLink es a b → (x y : ℕ) × (x < length es) × (y < length es) × (life_at es x ≡ a.life) × (life_at es y ≡ b.life) × (far_of es x a.port ≡ Some (y, b.port))
link_is_far es a b graph link =
    let near = named_at es a b link.there in
    let far = named_at es b a link.back in
    let x = near.0 in
    let y = far.0 in
    let l : PeerAt = record { port = a.port; peer = b } in
    let found : link_at (entry_at es x).links a.port ≡ Some l = link_found (entry_at es x).links l (graph.ports x) near.3 in
    let placed : place_of es b.life ≡ Some y = place_found es y b.life graph.rising far.1 far.2 in
    let end_is : end_at es x a.port ≡ a = ap (λ (f : LifeId). end_of f a.port) near.2 in
    let names : names_at es y b.port (end_at es x a.port) ≡ true = names_pass es y b.port (end_at es x a.port) (subst (λ (e : EndId). Contains (entry_at es y).links (record { port = b.port; peer = e })) (sym end_is) far.3) in
    let apart : (y == x) ≡ false = elim (cases_Bool (y == x)) [
      | inl same ↦ absurd (link.apart (sym near.2 ∙ ap (life_at es) (sym (eqb-true y x same)) ∙ far.2))
      | inr other ↦ other
    ] in
    let at : joined_at es x l y ≡ Some (y, b.port) = rw (apart, names) refl in
    let join : joined es x l ≡ Some (y, b.port) = rw placed at in
    (x, y, near.1, far.1, near.2, far.2, rw found join)
  where
    end_of : LifeId → ℕ → EndId
    end_of f p = record { life = f; port = p }

-- a port leads to one place
pub one_far : (es : List EntryOf) (x p z q w r : ℕ) → far_of es x p ≡ Some (z, q) → far_of es x p ≡ Some (w, r) → z ≡ w
one_far es x p z q w r a b = ap (λ (f : ℕ × ℕ). f.0) (same_Some (z, q) (w, r) (sym a ∙ b))

-- and the far end leads back
pub far_back : (es : List EntryOf) (x p z q : ℕ) → IsGraph es → far_of es x p ≡ Some (z, q) → far_of es z q ≡ Some (x, p)
far_back es x p z q graph e =
    let l = far_is_link es x p z q graph.rising e in
    let back : IsLink es (end_at es z q) (end_at es x p) = record { there = l.2.back; back = l.2.there; apart = λ same. l.2.apart (sym same) } in
    let f = link_is_far es (end_at es z q) (end_at es x p) graph back in
    let z_is : f.0 ≡ z = one_place es f.0 z graph.rising f.2 l.1 f.4 in
    let x_is : f.1 ≡ x = one_place es f.1 x graph.rising f.3 l.0 f.5 in
    subst (λ (n : ℕ). far_of es n q ≡ Some (x, p)) z_is (f.6 ∙ ap (λ (n : ℕ). Some (n, p)) x_is)
