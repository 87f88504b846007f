-- The nodes of a slice, and the link at a port of a node.
use Rattle.std.proofs.Common.{◌≡◌, ◌⊎◌, inl, inr, ℕ, List, [], ◌∷◌, Some, Bool, true, false, true≢false, cond, refl, sym, ap, ◌∙◌, subst, ⊎_elim, arith}
use Rattle.std.specs.Prelude.{◌==◌, ◌≢◌, All}
use Rattle.std.specs.Ordering.{is_eq}
use Rattle.an_base.specs.Values.{LifeId, EndId, PeerAt}
use Rattle.an_base.specs.Order.{life_cmp}
use Rattle.an_base.proofs.LifeLemmas.{life_passes, same_life}
use Rattle.topo_report.proofs.Members.{In, contains_from}
use Rattle.epoch_core.specs.Log.{CardOf, OnPort}
use Rattle.epoch_game.specs.Slice.{Node, Slice, with_node, link_at, Names, IsCardOf}
use Rattle.epoch_game.proofs.Basics.{bool_cases, some_same}
use Rattle.epoch_game.proofs.SentLemmas.{RiseFrom, rise_from}
use Rattle.epoch_game.proofs.ViewLemmas.{HasLink}
use Rattle.std.proofs.lemmas.Bool.{eqb-true}

pub life_ne : (x y : LifeId) → is_eq (life_cmp x y) ≡ false → x ≡ y → ⊥
life_ne x y f e = true≢false (sym (life_passes x y e) ∙ f)

pub decide_life : (x y : LifeId) → (x ≡ y → ⊥) ⊎ (x ≡ y)
decide_life x y = ⊎_elim (λ (t : is_eq (life_cmp x y) ≡ true). inr (same_life x y t)) (λ (f : is_eq (life_cmp x y) ≡ false). inl (life_ne x y f)) (bool_cases (is_eq (life_cmp x y)))

-- a node that has accepted one more body, and the slice with it
abbrev pub with_item : Node → OnPort → Node
with_item n y = record { card = n.card; log = y ∷ n.log }

abbrev pub after : Slice → LifeId → Node → OnPort → Slice
after t x n y = with_node t x (with_item n y)

-- the node of a life, and of another
pub node_here : (s : Slice) (x : LifeId) (n : Node) → with_node s x n x ≡ Some n
node_here s x n = ap (λ (g : Bool). cond g (Some n) (s x)) (life_passes x x refl)

pub node_else : (s : Slice) (x y : LifeId) (n : Node) → (x ≡ y → ⊥) → with_node s x n y ≡ s y
node_else s x y n ne =
    ⊎_elim (λ (e : is_eq (life_cmp x y) ≡ true). absurd (ne (same_life x y e))) (λ (e : is_eq (life_cmp x y) ≡ false). ap (λ (g : Bool). cond g (Some n) (s y)) e)
    (bool_cases (is_eq (life_cmp x y)))

pub node_cases : (s : Slice) (x y : LifeId) (n m : Node) → with_node s x n y ≡ Some m → ((x ≡ y) × (n ≡ m)) ⊎ ((x ≡ y → ⊥) × (s y ≡ Some m))
node_cases s x y n m e =
    ⊎_elim
    (λ (t : is_eq (life_cmp x y) ≡ true). inl (same_life x y t, some_same n m (sym (ap (λ (g : Bool). cond g (Some n) (s y)) t) ∙ e)))
    (λ (f : is_eq (life_cmp x y) ≡ false). inr (life_ne x y f, sym (ap (λ (g : Bool). cond g (Some n) (s y)) f) ∙ e))
    (bool_cases (is_eq (life_cmp x y)))

-- what holds of all links holds of each
pub all_in : {A : Type 0} (P : A → Type 0) (xs : List A) (x : A) → All P xs → In x xs → P x
all_in P xs x all i = let has = contains_from x xs i in subst P has.2 (all has.0 x has.1)

-- the link at a port
pub record LinkAt (p : ℕ) (ks : List PeerAt) (e : EndId) : Type 0 where
  pub link : PeerAt
  pub in_links : In link ks
  pub port : link.port ≡ p
  pub peer : link.peer ≡ e

pub link_found : (p : ℕ) (ks : List PeerAt) (e : EndId) → link_at p ks ≡ Some e → LinkAt p ks e
link_found p [] e at = absurd (cc)
link_found p (k ∷ ks) e at = by (k.port == p) refl at (λ found. link_found p ks e found)
  where
    by : (b : Bool) → (k.port == p) ≡ b → cond b (Some k.peer) (link_at p ks) ≡ Some e → (link_at p ks ≡ Some e → LinkAt p ks e) → LinkAt p (k ∷ ks) e
    by true is found rest = record { link = k; in_links = inl refl; port = eqb-true k.port p is; peer = some_same k.peer e found }
    by false is found rest = let r = rest found in record { link = r.link; in_links = inr r.in_links; port = r.port; peer = r.peer }

-- no link of x leads to x
pub not_own : (x : LifeId) (c : CardOf) (p : ℕ) (z : LifeId) (q : ℕ) → IsCardOf x c → Names c p z q → x ≡ z → ⊥
not_own x c p z q card at e =
    let k = link_found p c.links (record { life = z; port = q }) at in
    all_in (λ l. l.peer.life ≢ x) c.links k.link card.others k.in_links (ap (λ (d : EndId). d.life) k.peer ∙ sym e)

pub rises : (x : LifeId) (c : CardOf) → IsCardOf x c → RiseFrom 0 c.links
rises x c card = rise_from 0 c.links card.ports (λ i d low. let least = card.least i d low in omega (arith, least))

pub has_link : (x : LifeId) (c : CardOf) (p : ℕ) (z : LifeId) (q : ℕ) → IsCardOf x c → Names c p z q → HasLink c p
has_link x c p z q card at = record { rise = rises x c card; end = record { life = z; port = q }; at = at }
