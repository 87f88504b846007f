-- The orders of lives, ends, links, positions and entries are total, and what is alike in them is one.
use Rattle.std.proofs.Common.{◌≡◌, ◌∙◌, ap, ℕ, List, [], ◌∷◌, refl, Equal, IsTrue}
use Rattle.std.specs.Ordering.{nat_cmp, ordering_then, is_le}
use Rattle.std.specs.declared.cmp.Ordering.{Ordering}
use Rattle.std.specs.Cmp.{IsTotalOrder, then_total, on_total, nat_cmp_total}
use Rattle.std.specs.Cmp.Lexicographic.{slice_cmp, lists_total}
use Rattle.an_base.specs.Values.{LifeId, EndId, Place, PeerAt, EntryOf}
use Rattle.an_base.specs.Order.{life_cmp, end_cmp, link_cmp, position_cmp, entry_cmp}
use Rattle.an_base.specs.TotalOrders.{life_total, link_total}
use Rattle.common_values.proofs.OrderingLemmas.{nat_apart, tied, then_equal}

-- two that are compared by two parts are one where both parts are alike
parts_apart : {A B R : Type 0} (make : A → B → R) (a b : A) (c d : B) (first second : Ordering) → (first ≡ Equal → a ≡ b) → (second ≡ Equal → c ≡ d) → ordering_then first second ≡ Equal → make a c ≡ make b d
parts_apart make a b c d first second one other e =
    let f = then_equal first second e in
    ap (λ x. make x c) (one f.0) ∙ ap (λ y. make b y) (other f.1)

pub life_apart : (a b : LifeId) → life_cmp a b ≡ Equal → a ≡ b
life_apart a b = parts_apart {R = LifeId} (λ u n. record { uid = u; boot = n }) a.uid b.uid a.boot b.boot _ _ (nat_apart a.uid b.uid) (nat_apart a.boot b.boot)

pub end_apart : (a b : EndId) → end_cmp a b ≡ Equal → a ≡ b
end_apart a b = parts_apart {R = EndId} (λ l p. record { life = l; port = p }) a.life b.life a.port b.port _ _ (life_apart a.life b.life) (nat_apart a.port b.port)

pub link_apart : (a b : PeerAt) → link_cmp a b ≡ Equal → a ≡ b
link_apart a b = parts_apart {R = PeerAt} (λ p x. record { port = p; peer = x }) a.port b.port a.peer b.peer _ _ (nat_apart a.port b.port) (end_apart a.peer b.peer)

pub links_apart : (xs ys : List PeerAt) → slice_cmp link_cmp xs ys ≡ Equal → xs ≡ ys
links_apart [] [] e = refl
links_apart [] (y ∷ ys) e = absurd (cc)
links_apart (x ∷ xs) [] e = absurd (cc)
links_apart (x ∷ xs) (y ∷ ys) e =
    let f = then_equal (link_cmp x y) (slice_cmp link_cmp xs ys) e in
    let first = link_apart x y f.0 in
    let others = links_apart xs ys f.1 in
    cc

-- places that agree in their parts are one
pub place_is : (p q : Place) → p.root ≡ q.root → p.level ≡ q.level → p.parent ≡ q.parent → p.port ≡ q.port → p ≡ q
place_is p q a b c d =
    let mk : LifeId → ℕ → LifeId → ℕ → Place = λ r l u n. record { root = r; level = l; parent = u; port = n } in
    ap (λ (r : LifeId). mk r p.level p.parent p.port) a ∙ ap (λ (l : ℕ). mk q.root l p.parent p.port) b ∙ ap (λ (u : LifeId). mk q.root q.level u p.port) c ∙ ap (λ (n : ℕ). mk q.root q.level q.parent n) d

pub position_total : IsTotalOrder position_cmp
position_total =
    then_total (on_total (λ p. p.root) life_total)
    (then_total (on_total (λ p. p.level) nat_cmp_total) (then_total (on_total (λ p. p.parent) life_total) (on_total (λ p. p.port) nat_cmp_total)))

pub position_apart : (a b : Place) → position_cmp a b ≡ Equal → a ≡ b
position_apart a b e =
    let f = then_equal (life_cmp a.root b.root) _ e in
    let g = then_equal (nat_cmp a.level b.level) _ f.1 in
    let h = then_equal (life_cmp a.parent b.parent) (nat_cmp a.port b.port) g.1 in
    let root = life_apart a.root b.root f.0 in
    let level = nat_apart a.level b.level g.0 in
    let parent = life_apart a.parent b.parent h.0 in
    let port = nat_apart a.port b.port h.1 in
    place_is a b root level parent port

pub entry_total : IsTotalOrder entry_cmp
entry_total =
    then_total (on_total (λ e. e.position) position_total)
    (then_total (on_total (λ e. e.proposed) nat_cmp_total) (on_total (λ e. e.links) (lists_total link_total)))

pub entry_apart : (a b : EntryOf) → a.life ≡ b.life → entry_cmp a b ≡ Equal → a ≡ b
entry_apart a b life e =
    let f = then_equal (position_cmp a.position b.position) _ e in
    let g = then_equal (nat_cmp a.proposed b.proposed) (slice_cmp link_cmp a.links b.links) f.1 in
    let position = position_apart a.position b.position f.0 in
    let proposed = nat_apart a.proposed b.proposed g.0 in
    let links = links_apart a.links b.links g.1 in
    let mk : LifeId → Place → ℕ → List PeerAt → EntryOf = λ l p n k. record { life = l; position = p; proposed = n; links = k } in
    ap (λ (l : LifeId). mk l a.position a.proposed a.links) life ∙ ap (λ (p : Place). mk b.life p a.proposed a.links) position
    ∙ ap (λ (n : ℕ). mk b.life b.position n a.links) proposed ∙ ap (λ (k : List PeerAt). mk b.life b.position b.proposed k) links

-- lives of which neither is above the other are one
pub both_least : (a b : LifeId) → IsTrue (is_le (life_cmp a b)) → IsTrue (is_le (life_cmp b a)) → a ≡ b
both_least a b le ge = life_apart a b (tied (life_cmp a b) (life_cmp b a) (life_total.antisymm a b) le ge)
