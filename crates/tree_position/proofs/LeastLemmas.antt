use Rattle.std.proofs.Common.{◌≡◌, ◌∙◌, sym, ap, refl, ℕ, zero, suc, ◌+◌, ◌<◌, List, [], ◌∷◌, ◌++◌, Option, Some, None, length, take, get_or, set, arith, append_assoc, append-nil, add-one, map, Bool, false, cond, eqb, inl, inr, get_or-set_same, get_or-set_other, IsTrue, Less, Equal, Greater, ◌⊎◌, Contains}
use Rattle.std.specs.declared.cmp.Ordering.{Ordering}
use Rattle.std.specs.Ordering.{is_lt, is_le, ordering_reverse}
use Rattle.std.specs.Cmp.{tied_itself, upto}
use Rattle.std.proofs.lemmas.Bool.{cases_eq, ne_eqb}
use Rattle.std.proofs.lemmas.Bool.Decides.{Decides-eqb}
use Rattle.std.specs.Prelude.{replicate}
use Rattle.an_base.specs.Values.{Place, PeerAt}
use Rattle.an_base.specs.Order.{position_cmp}
use Rattle.common_values.proofs.OrderingLemmas.{not_above, at_most}
use Rattle.an_base.proofs.OrderLaws.{position_total}
use Rattle.tree_position.specs.declared.offers.Offer.{Offer}
use Rattle.tree_position.specs.Position.{candidate, candidates, lesser, least, noted, IsLeast}

-- the least of two lists one after the other
pub least-append : (p : Place) (qs rs : List Place) → least p (qs ++ rs) ≡ least (least p qs) rs
least-append p [] rs = refl
least-append p (q ∷ qs) rs = least-append (lesser p q) qs rs

-- the candidates of one more link
candidates_suc : (links : List PeerAt) (f : PeerAt → Option Offer) (i : ℕ) (k : PeerAt) → i < length links → candidates (take (suc i) links) (map f (take (suc i) links)) ≡ candidates (take i links) (map f (take i links)) ++ candidate (get_or links i k) (f (get_or links i k))
candidates_suc [] f i k low = absurd (omega arith)
candidates_suc (link ∷ links) f zero k low = append-nil (candidate link (f link))
candidates_suc (link ∷ links) f (suc i) k low =
    ap (λ (ps : List Place). candidate link (f link) ++ ps) (candidates_suc links f i k (omega arith))
    ∙ sym (append_assoc (candidate link (f link)) (candidates (take i links) (map f (take i links))) (candidate (get_or links i k) (f (get_or links i k))))

-- the least with one more link
pub least_more : (p best next : Place) (links : List PeerAt) (f : PeerAt → Option Offer) (i : ℕ) (k : PeerAt) (found : List Place) → i < length links → k ≡ get_or links i k → best ≡ least p (candidates (take i links) (map f (take i links))) → found ≡ candidate k (f k) → next ≡ least best found → next ≡ least p (candidates (take (i + 1) links) (map f (take (i + 1) links)))
least_more p best next links f i k found low at so_far finds is =
    is ∙ ap (λ (b : Place). least b found) so_far ∙ ap (least (least p (candidates (take i links) (map f (take i links))))) finds
    ∙ ap (λ (x : PeerAt). least (least p (candidates (take i links) (map f (take i links)))) (candidate x (f x))) at
    ∙ sym (least-append p (candidates (take i links) (map f (take i links))) (candidate (get_or links i k) (f (get_or links i k))))
    ∙ ap (least p) (sym (candidates_suc links f i k low))
    ∙ ap (λ (n : ℕ). least p (candidates (take n links) (map f (take n links)))) (sym (add-one i))

-- no offers at first
pub no_offers : (links : List PeerAt) (f : PeerAt → Option Offer) → ((k : PeerAt) → f k ≡ None) → map f links ≡ replicate (length links) None
no_offers [] f none = refl
no_offers (l ∷ links) f none = let a = none l in let b = no_offers links f none in cc

-- the offers after one more
pub noted_is : (links : List PeerAt) (offers : List (Option Offer)) (port : ℕ) (offer : Offer) → port < length offers → map (λ k. get_or (set offers port (Some offer)) k.port None) links ≡ noted links (map (λ k. get_or offers k.port None) links) port offer
noted_is [] offers port offer low = refl
noted_is (l ∷ links) offers port offer low =
    let rest = noted_is links offers port offer low in
    let here = elim (cases_eq l.port port) as (λ _. get_or (set offers port (Some offer)) l.port None ≡ cond (eqb l.port port) (Some offer) (get_or offers l.port None)) [
      | inl same ↦ ap (λ (n : ℕ). get_or (set offers port (Some offer)) n None) same ∙ get_or-set_same offers port (Some offer) None low ∙ ap (λ (b : Bool). cond b (Some offer) (get_or offers l.port None)) (sym ((Decides-eqb l.port port).1 same))
      | inr other ↦ get_or-set_other offers port l.port (Some offer) None other ∙ ap (λ (b : Bool). cond b (Some offer) (get_or offers l.port None)) (sym (ne_eqb l.port port other))
    ] in
    cc

-- each of so many is the same
same_at : {X : Type 0} (n k : ℕ) (x : X) → get_or (replicate n x) k x ≡ x
same_at zero k x = refl
same_at (suc n) zero x = refl
same_at (suc n) (suc k) x = same_at n k x

pub none_at : (k : ℕ) → get_or {A = Option Offer} (replicate 13 None) k None ≡ None
none_at k = same_at 13 k None

-- one of the two, and at most both
record IsLesser (p q m : Place) : Type 0 where
  either : (m ≡ p) ⊎ (m ≡ q)
  first : IsTrue (is_le (position_cmp m p))
  second : IsTrue (is_le (position_cmp m q))

le_itself : (p : Place) → IsTrue (is_le (position_cmp p p))
le_itself p = ap is_le (tied_itself position_total p)

lesser_is : (p q : Place) → IsLesser p q (lesser p q)
lesser_is p q = by (position_cmp q p) refl
  where
    turned : (o : Ordering) → position_cmp q p ≡ o → is_lt o ≡ false → IsTrue (is_le (position_cmp p q))
    turned Less e f = absurd (cc)
    turned Equal e f = ap is_le (position_total.antisymm p q ∙ ap ordering_reverse e)
    turned Greater e f = ap is_le (position_total.antisymm p q ∙ ap ordering_reverse e)

    by : (o : Ordering) → position_cmp q p ≡ o → IsLesser p q (lesser p q)
    by Less e = let is : lesser p q ≡ q = ap (λ (x : Ordering). cond (is_lt x) q p) e in record { either = inr is; first = rw is (ap is_le e); second = rw is (le_itself q) }
    by Equal e = let is : lesser p q ≡ p = ap (λ (x : Ordering). cond (is_lt x) q p) e in record { either = inl is; first = rw is (le_itself p); second = rw is (turned Equal e refl) }
    by Greater e = let is : lesser p q ≡ p = ap (λ (x : Ordering). cond (is_lt x) q p) e in record { either = inl is; first = rw is (le_itself p); second = rw is (turned Greater e refl) }

le_chain : (p q r : Place) → IsTrue (is_le (position_cmp p q)) → IsTrue (is_le (position_cmp q r)) → IsTrue (is_le (position_cmp p r))
le_chain p q r a b = at_most (position_cmp p r) (upto position_total p q r (not_above (position_cmp p q) a) (not_above (position_cmp q r) b))

-- one more place in front
least_front : (p q m : Place) (qs : List Place) → IsLeast m (lesser p q ∷ qs) → IsLeast m (p ∷ q ∷ qs)
least_front p q m qs rest = record {
  one = found rest.one.0 rest.one.1 rest.one.2;
  least = λ r (k, low, at). below k r low at;
}
  where
    found : (k : ℕ) → k < length (lesser p q ∷ qs) → get_or (lesser p q ∷ qs) k m ≡ m → Contains (p ∷ q ∷ qs) m
    found zero low at = elim (lesser_is p q).either [ inl is ↦ (0, omega arith, sym is ∙ at) | inr is ↦ (1, omega arith, sym is ∙ at) ]
    found (suc k) low at = (suc (suc k), omega arith, at)

    below : (k : ℕ) (r : Place) → k < length (p ∷ q ∷ qs) → get_or (p ∷ q ∷ qs) k r ≡ r → IsTrue (is_le (position_cmp m r))
    below zero r low at = rw (← at) (le_chain m (lesser p q) p (rest.least (lesser p q) (0, omega arith, refl)) (lesser_is p q).first)
    below (suc zero) r low at = rw (← at) (le_chain m (lesser p q) q (rest.least (lesser p q) (0, omega arith, refl)) (lesser_is p q).second)
    below (suc (suc k)) r low at = rest.least r (suc k, omega arith, at)

-- the least of places is one of them, and none is less
pub least_is : (p : Place) (qs : List Place) → IsLeast (least p qs) (p ∷ qs)
least_is p [] = record { one = (0, omega arith, refl); least = λ q (k, low, at). only k q low at }
  where
    only : (k : ℕ) (q : Place) → k < length (p ∷ []) → get_or (p ∷ []) k q ≡ q → IsTrue (is_le (position_cmp p q))
    only zero q low at = rw (← at) (le_itself p)
    only (suc k) q low at = absurd (omega arith)
least_is p (q ∷ qs) = least_front p q (least (lesser p q) qs) qs (least_is (lesser p q) qs)
