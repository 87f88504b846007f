use Rattle.std.proofs.Common.{◌≡◌, ◌∙◌, sym, ap, subst, refl, ℕ, ◌<◌, List, [], ◌∷◌, arith, length, All, AllPairs, Contains, inl, inr, IsTrue}
use Rattle.std.specs.Ordering.{is_le}
use Rattle.std.proofs.lemmas.List.Elements.{All-contains}
use Rattle.an_base.specs.Values.{LifeId, Place, PeerAt, EntryOf}
use Rattle.an_base.specs.Order.{life_cmp, IsBelow}
use Rattle.an_base.proofs.PlaceLaws.{one_place_of}
use Rattle.an_base.specs.Tree.{Network, Walk, IsPlace}
use Rattle.an_base.proofs.OrderLaws.{both_least}
use Rattle.an_base.proofs.LifeLemmas.{below_both}
use Rattle.net_graph.specs.Wires.{Wires, IsWired, network}
use Rattle.net_graph.specs.Entry.{LeadsOut, AreLinks}
use Rattle.net_graph.specs.Forest.{IsEntry, IsMember, IsComponent, RootsBelow, IsForest}
use Rattle.common_values.proofs.MemberLemmas.{one_rising}
use Rattle.net_graph.proofs.FarLemmas.{network_closed, far_back}
use Rattle.net_graph.proofs.WalkLemmas.{walk_back}
use Rattle.net_graph.proofs.CollectLemmas.{uid_one}

-- a link out of a node is among its links
link_there : (g : Network) (x : ℕ) (links : List PeerAt) (l : PeerAt) → AreLinks g x links → LeadsOut g x l → Contains links l
link_there g x links l are (y, other, e, life) =
    let link_of : LifeId → PeerAt = λ i. record { port = l.port; peer = record { life = i; port = l.peer.port } } in
    subst (λ (m : PeerAt). Contains links m) (ap link_of (sym life)) (are.whole l.port y l.peer.port other e)

-- a node has one list of links
pub one_links : (g : Network) (x : ℕ) (a b : List PeerAt) → AreLinks g x a → AreLinks g x b → a ≡ b
one_links g x a b are_a are_b =
    one_rising (λ l m. l.port < m.port) a b (λ l m has has' lt gt. omega arith) are_a.rising are_b.rising
    (λ l has. link_there g x b l are_b (All-contains (LeadsOut g x) a l are_a.each has))
    (λ l has. link_there g x a l are_a (All-contains (LeadsOut g x) b l are_b.each has))

-- switches with one life are one
pub one_life : (w : Wires) (x y : ℕ) → IsWired w → x < length w.switches → y < length w.switches → (network w).life x ≡ (network w).life y → x ≡ y
one_life w x y wired in_x in_y same = uid_one w x y wired in_x in_y (ap (λ (l : LifeId). l.uid) same)

-- a switch has one place in the tree of a root
pub one_place_in : (w : Wires) (r x : ℕ) (p q : Place) → IsWired w → IsPlace (network w) r x p → IsPlace (network w) r x q → p ≡ q
one_place_in w r x p q wired = one_place_of (network w) r x p q (network_closed w wired) (λ y z in_y in_z. one_life w y z wired in_y in_z)

-- a switch has one entry in the tree of a root
pub one_entry : (w : Wires) (r x : ℕ) (d e : EntryOf) → IsWired w → IsEntry w r x d → IsEntry w r x e → d ≡ e
one_entry w r x d e wired a b =
    let mk : LifeId → Place → ℕ → List PeerAt → EntryOf = λ l p n k. record { life = l; position = p; proposed = n; links = k } in
    ap (λ (l : LifeId). mk l d.position d.proposed d.links) (a.life ∙ sym b.life)
    ∙ ap (λ (p : Place). mk e.life p d.proposed d.links) (one_place_in w r x d.position e.position wired a.place b.place)
    ∙ ap (λ (n : ℕ). mk e.life e.position n d.links) (a.proposed ∙ sym b.proposed)
    ∙ ap (λ (k : List PeerAt). mk e.life e.position e.proposed k) (one_links (network w) x d.links e.links a.links b.links)

-- an entry of a member is among the entries of the component
entry_there : (w : Wires) (r : ℕ) (entries : List EntryOf) (e : EntryOf) → IsWired w → IsComponent w r entries → IsMember w r e → Contains entries e
entry_there w r entries e wired component (x, in_x, is) =
    let there = component.whole x e.position.level in_x is.place.level.walk in
    subst (λ (d : EntryOf). Contains entries d) (one_entry w r x there.1 e wired there.4 is) (there.0, there.2, there.3)

-- a root has one component
pub one_component : (w : Wires) (r : ℕ) (a b : List EntryOf) → IsWired w → IsComponent w r a → IsComponent w r b → a ≡ b
one_component w r a b wired is_a is_b =
    one_rising (λ d e. IsBelow d.life e.life) a b (λ d e has has' lt gt. below_both d.life e.life lt gt) is_a.rising is_b.rising
    (λ e has. entry_there w r b e wired is_b (All-contains (IsMember w r) a e is_a.only has))
    (λ e has. entry_there w r a e wired is_a (All-contains (IsMember w r) b e is_b.only has))

-- two components that share the root of one have one root
one_root : (w : Wires) (r s : ℕ) (a b : List EntryOf) (e : EntryOf) → IsWired w → IsComponent w r a → IsComponent w s b → Contains b e → e.life ≡ (network w).life r → r ≡ s
one_root w r s a b e wired is_a is_b has life =
    let g = network w in
    let member = All-contains (IsMember w s) b e is_b.only has in
    let is_r : member.0 ≡ r = one_life w member.0 r wired member.1 is_a.root (sym member.2.life ∙ life) in
    let walk = walk_back g e.position.level member.0 s (far_back w wired) member.2.place.level.walk in
    let there = is_a.whole s e.position.level is_b.root (subst (λ (x : ℕ). Walk g e.position.level s x) is_r walk) in
    let low : IsTrue (is_le (life_cmp (g.life s) (g.life r))) = subst (λ (l : LifeId). IsTrue (is_le (life_cmp (g.life s) l))) life (All-contains (λ d. IsTrue (is_le (life_cmp (g.life s) d.life))) b e is_b.least has) in
    let high : IsTrue (is_le (life_cmp (g.life r) (g.life s))) = subst (λ (l : LifeId). IsTrue (is_le (life_cmp (g.life r) l))) there.4.life (All-contains (λ d. IsTrue (is_le (life_cmp (g.life r) d.life))) a there.1 is_a.least (there.0, there.2, there.3)) in
    one_life w r s wired is_a.root is_b.root (both_least (g.life r) (g.life s) high low)

-- a component of one forest is in the other
tree_there : (w : Wires) (g : List (List EntryOf)) (r : ℕ) (a : List EntryOf) → IsWired w → IsForest w g → IsComponent w r a → Contains g a
tree_there w g r a wired forest is_a =
    let b = forest.whole r is_a.root in
    let has : Contains g b.1 = (b.0, b.2, b.3) in
    let e = b.4 in
    let is_b = All-contains (λ entries. (s : ℕ) × IsComponent w s entries) g b.1 forest.components has in
    let same : r ≡ is_b.0 = one_root w r is_b.0 a b.1 e.1 wired is_a is_b.1 (e.0, e.2, e.3) e.4 in
    let one : a ≡ b.1 = one_component w r a b.1 wired is_a (subst (λ (s : ℕ). IsComponent w s b.1) (sym same) is_b.1) in
    subst (λ (entries : List EntryOf). Contains g entries) (sym one) has

-- a component has an entry
some_entry : (w : Wires) (r : ℕ) (a : List EntryOf) → IsComponent w r a → (e : EntryOf) × Contains a e
some_entry w r a is_a = let there = is_a.whole r 0 is_a.root refl in (there.1, (there.0, there.2, there.3))

-- no two components have roots that are each below the other's
roots_apart : (w : Wires) (r s : ℕ) (a b : List EntryOf) → IsComponent w r a → IsComponent w s b → RootsBelow a b → RootsBelow b a → ⊥
roots_apart w r s a b is_a is_b lt gt =
    let d = some_entry w r a is_a in
    let e = some_entry w s b is_b in
    below_both d.0.position.root e.0.position.root
    (All-contains (λ y. IsBelow d.0.position.root y.position.root) b e.0 (All-contains (λ x. All (λ y. IsBelow x.position.root y.position.root) b) a d.0 lt d.1) e.1)
    (All-contains (λ y. IsBelow e.0.position.root y.position.root) a d.0 (All-contains (λ x. All (λ y. IsBelow x.position.root y.position.root) a) b e.0 gt e.1) d.1)

-- wires have one forest
pub one_forest_of : (w : Wires) (f g : List (List EntryOf)) → IsWired w → IsForest w f → IsForest w g → f ≡ g
one_forest_of w f g wired is_f is_g =
    one_rising RootsBelow f g
    (λ a b has has' lt gt. let c = tree_of f is_f a has in let d = tree_of f is_f b has' in roots_apart w c.0 d.0 a b c.1 d.1 lt gt)
    is_f.rising is_g.rising
    (λ a has. let c = tree_of f is_f a has in tree_there w g c.0 a wired is_g c.1)
    (λ a has. let c = tree_of g is_g a has in tree_there w f c.0 a wired is_f c.1)
  where
    tree_of : (h : List (List EntryOf)) → IsForest w h → (a : List EntryOf) → Contains h a → (r : ℕ) × IsComponent w r a
    tree_of h is a has = All-contains (λ entries. (r : ℕ) × IsComponent w r entries) h a is.components has
