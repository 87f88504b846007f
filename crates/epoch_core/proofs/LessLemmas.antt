-- The position of a life only gets less while what it hears only lowers what is offered.
use Rattle.std.proofs.Common.{◌≡◌, ◌∙◌, sym, ap, subst, refl, arith, ℕ, ◌+◌, ◌<◌, List, [], ◌∷◌, ◌++◌, inl, inr, Bool, true, false, cond, map, Option, Some, None, IsTrue, Less, Equal, Greater}
use Rattle.std.specs.Prelude.{◌==◌, nat_lt}
use Rattle.std.specs.declared.cmp.Ordering.{Ordering}
use Rattle.std.specs.Ordering.{nat_cmp, ordering_then, is_le}
use Rattle.std.specs.Cmp.{upto, tied_itself}
use Rattle.std.proofs.lemmas.Bool.Decides.{nat_tests}
use Rattle.an_base.specs.Values.{Place, PeerAt, PosOf}
use Rattle.an_base.specs.Order.{life_cmp, position_cmp}
use Rattle.an_base.specs.declared.body.Body.{Body}
use Rattle.an_base.specs.declared.body.Body.TheVariants.{Pos, Answer, Stable, Topo}
use Rattle.an_base.specs.TotalOrders.{life_total}
use Rattle.an_base.proofs.OrderLaws.{position_total}
use Rattle.tree_position.specs.declared.offers.Offer.{Offer}
use Rattle.tree_position.specs.Position.{self_root, below_offer, candidate, candidates}
use Rattle.tree_position.proofs.LeastLemmas.{least_is}
use Rattle.topo_report.proofs.Members.{In, in_from, contains_from, in_append, in_left, in_right}
use Rattle.epoch_core.specs.Log.{CardOf, OnPort, Log, on_port, last_pos}
use Rattle.epoch_core.specs.Epoch.{offer_of, offer_on, position}
use Rattle.epoch_core.specs.Laws.{IsAtMost, Lowers, OnlyLowers}
use Rattle.common_values.proofs.OrderingLemmas.{not_above, at_most}
use Rattle.std.proofs.lemmas.Bool.{eqb-true, ltb-true, lt-ltb}

pub at_most_itself : (p : Place) → IsAtMost p p
at_most_itself p = ap is_le (tied_itself position_total p)

pub at_most_trans : (p q r : Place) → IsAtMost p q → IsAtMost q r → IsAtMost p r
at_most_trans p q r le ge = at_most (position_cmp p r) (upto position_total p q r (not_above (position_cmp p q) le) (not_above (position_cmp q r) ge))

-- what a link gives now is no greater than what it gave
abbrev Keeps : Option Offer → Option Offer → Type 0
Keeps new None = Unit {0}
Keeps None (Some o) = ⊥
Keeps (Some n) (Some o) = IsTrue (is_le (ordering_then (life_cmp n.root o.root) (nat_cmp n.level o.level))) × (o.level < 125 → n.level < 125)

one_level : (a b : ℕ) → nat_cmp (a + 1) (b + 1) ≡ nat_cmp a b
one_level a b = grind (arith, nat_tests)

tied_end : (a b c d : Ordering) → c ≡ Equal → d ≡ Equal → IsTrue (is_le (ordering_then a b)) → IsTrue (is_le (ordering_then a (ordering_then b (ordering_then c d))))
tied_end Less b c d e f le = refl
tied_end Equal Less c d e f le = refl
tied_end Equal Equal c d e f le = ap (λ (o : Ordering). is_le (ordering_then o d)) e ∙ ap is_le f
tied_end Equal Greater c d e f le = absurd (cc)
tied_end Greater b c d e f le = absurd (cc)

same_number : (a : ℕ) → nat_cmp a a ≡ Equal
same_number a = grind (arith, nat_tests)

pub below_less : (k : PeerAt) (n o : Offer) → IsTrue (is_le (ordering_then (life_cmp n.root o.root) (nat_cmp n.level o.level))) → IsAtMost (below_offer k n) (below_offer k o)
below_less k n o le =
    tied_end (life_cmp n.root o.root) (nat_cmp (n.level + 1) (o.level + 1)) (life_cmp k.peer.life k.peer.life) (nat_cmp k.port k.port)
    (tied_itself life_total k.peer.life) (same_number k.port)
    (ap (λ (c : Ordering). is_le (ordering_then (life_cmp n.root o.root) c)) (one_level n.level o.level) ∙ le)

-- for a candidate there was there is one that is no greater
candidate_less : (k : PeerAt) (new old : Option Offer) → Keeps new old → (q : Place) → In q (candidate k old) → (r : Place) × (In r (candidate k new)) × (IsAtMost r q)
candidate_less k new None keeps q i = absurd i
candidate_less k None (Some o) keeps q i = absurd keeps
candidate_less k (Some n) (Some o) keeps q i = by (nat_lt o.level 125) refl i
  where
    by : (b : Bool) → nat_lt o.level 125 ≡ b → In q (cond b (below_offer k o ∷ []) []) → (r : Place) × (In r (candidate k (Some n))) × (IsAtMost r q)
    by false is j = absurd j
    by true is (inr j) = absurd j
    by true is (inl j) = (
      below_offer k n,
      subst (λ (b : Bool). In (below_offer k n) (cond b (below_offer k n ∷ []) [])) (sym (lt-ltb n.level 125 (keeps.1 (ltb-true o.level 125 is)))) (inl refl),
      subst (λ (p : Place). IsAtMost (below_offer k n) p) (sym j) (below_less k n o keeps.0),
    )

candidates_less : (new old : PeerAt → Option Offer) (ks : List PeerAt) → ((k : PeerAt) → Keeps (new k) (old k)) → (q : Place) → In q (candidates ks (map old ks)) → (r : Place) × (In r (candidates ks (map new ks))) × (IsAtMost r q)
candidates_less new old [] keeps q i = absurd i
candidates_less new old (k ∷ ks) keeps q i =
    elim (in_append q (candidate k (old k)) (candidates ks (map old ks)) i) [
      | inl j ↦ (let r = candidate_less k (new k) (old k) (keeps k) q j in (r.0, in_left r.0 (candidate k (new k)) (candidates ks (map new ks)) r.1, r.2))
      | inr j ↦ (let r = candidates_less new old ks keeps q j in (r.0, in_right r.0 (candidate k (new k)) (candidates ks (map new ks)) r.1, r.2))
    ]

position_keeps : (c : CardOf) (new old : Log) → ((k : PeerAt) → Keeps (offer_on new k) (offer_on old k)) → IsAtMost (position c new) (position c old)
position_keeps c new old keeps =
    let own = self_root c.me in
    let were = candidates c.links (map (offer_on old) c.links) in
    let are = candidates c.links (map (offer_on new) c.links) in
    let first = least_is own were in
    let now = least_is own are in
    elim (in_from (position c old) (own ∷ were) first.one) [
      | inl is ↦ subst (IsAtMost (position c new)) (sym is) (now.least own (contains_from own (own ∷ are) (inl refl)))
      | inr i ↦ (
          let r = candidates_less (offer_on new) (offer_on old) c.links keeps (position c old) i in
          at_most_trans (position c new) r.0 (position c old) (now.least r.0 (contains_from r.0 (own ∷ are) (inr r.1))) r.2)
    ]

keeps_itself : (o : Option Offer) → Keeps o o
keeps_itself None = tt
keeps_itself (Some o) = (same_offer (life_cmp o.root o.root) (nat_cmp o.level o.level) (tied_itself life_total o.root) (same_number o.level), λ low. low)
  where
    same_offer : (a b : Ordering) → a ≡ Equal → b ≡ Equal → IsTrue (is_le (ordering_then a b))
    same_offer a b e f = ap (λ (o : Ordering). is_le (ordering_then o b)) e ∙ ap is_le f

keeps_body : (b : Body) (bs : List Body) (o : Option PosOf) → last_pos bs ≡ o → Lowers o b → Keeps (offer_of (last_pos (b ∷ bs))) (offer_of o)
keeps_body (Pos n) bs None is low = tt
keeps_body (Pos n) bs (Some o) is low = (low.offer, low.gives)
keeps_body (Answer b) bs o is low = subst (λ (p : Option PosOf). Keeps (offer_of p) (offer_of o)) (sym is) (keeps_itself (offer_of o))
keeps_body (Stable es) bs o is low = subst (λ (p : Option PosOf). Keeps (offer_of p) (offer_of o)) (sym is) (keeps_itself (offer_of o))
keeps_body (Topo t) bs o is low = subst (λ (p : Option PosOf). Keeps (offer_of p) (offer_of o)) (sym is) (keeps_itself (offer_of o))

keeps_item : (x : OnPort) (log : Log) → Lowers (last_pos (on_port x.port log)) x.body → (k : PeerAt) → Keeps (offer_on (x ∷ log) k) (offer_on log k)
keeps_item x log low k = by (x.port == k.port) refl
  where
    by : (b : Bool) → (x.port == k.port) ≡ b → Keeps (offer_of (last_pos (cond b (x.body ∷ on_port k.port log) (on_port k.port log)))) (offer_on log k)
    by false is = keeps_itself (offer_on log k)
    by true is = keeps_body x.body (on_port k.port log) (last_pos (on_port k.port log)) refl (subst (λ (p : ℕ). Lowers (last_pos (on_port p log)) x.body) (eqb-true x.port k.port is) low)

pub position-less : (c : CardOf) (later log : Log) → OnlyLowers (later ++ log) → IsAtMost (position c (later ++ log)) (position c log)
position-less c [] log low = at_most_itself (position c log)
position-less c (x ∷ later) log low =
    at_most_trans (position c (x ∷ (later ++ log))) (position c (later ++ log)) (position c log)
    (position_keeps c (x ∷ (later ++ log)) (later ++ log) (keeps_item x (later ++ log) low.0)) (position-less c later log low.1)
