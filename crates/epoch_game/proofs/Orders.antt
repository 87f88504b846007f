use Rattle.std.proofs.Common.{◌≡◌, ◌∙◌, ◌⊎◌, inl, inr, sym, ap, refl, subst, ⊎_elim, ℕ, ◌+◌, ◌≤◌, Bool, true, false, cond, IsTrue, Less, Equal, Greater, arith}
use Rattle.std.specs.declared.cmp.Ordering.{Ordering}
use Rattle.std.specs.Ordering.{is_lt, is_le, nat_cmp, ordering_then, ordering_reverse}
use Rattle.std.specs.Cmp.{IsTotalOrder, upto, tied_itself}
use Rattle.std.proofs.lemmas.Bool.Decides.{nat_tests}
use Rattle.an_base.specs.Values.{LifeId, Place, PeerAt}
use Rattle.an_base.specs.Order.{life_cmp, position_cmp}
use Rattle.an_base.specs.TotalOrders.{life_total}
use Rattle.an_base.proofs.OrderLaws.{position_total, position_apart}
use Rattle.common_values.proofs.OrderingLemmas.{at_most, less_is, not_above, tied}
use Rattle.tree_position.specs.Position.{below_offer, lesser}
use Rattle.epoch_core.specs.Laws.{IsAtMost}
use Rattle.epoch_core.proofs.LessLemmas.{below_less}

-- Any total order, by its comparison.
abbrev pub Le : {K : Type 0} → (K → K → Ordering) → K → K → Type 0
Le R a b = IsTrue (is_le (R a b))

abbrev pub Lt : {K : Type 0} → (K → K → Ordering) → K → K → Type 0
Lt R a b = IsTrue (is_lt (R a b))

pub le_itself : {K : Type 0} (R : K → K → Ordering) → IsTotalOrder R → (a : K) → Le R a a
le_itself R o a = ap is_le (tied_itself o a)

pub le_trans : {K : Type 0} (R : K → K → Ordering) → IsTotalOrder R → (a b c : K) → Le R a b → Le R b c → Le R a c
le_trans R o a b c x y = at_most (R a c) (upto o a b c (not_above (R a b) x) (not_above (R b c) y))

pub le_or_lt : {K : Type 0} (R : K → K → Ordering) → IsTotalOrder R → (a b : K) → Le R a b ⊎ Lt R b a
le_or_lt R o a b = by (R a b) refl
  where
    by : (r : Ordering) → R a b ≡ r → Le R a b ⊎ Lt R b a
    by Less e = inl (ap is_le e)
    by Equal e = inl (ap is_le e)
    by Greater e = inr (ap is_lt (o.antisymm b a ∙ ap ordering_reverse e))

pub lt_le : {K : Type 0} (R : K → K → Ordering) (a b : K) → Lt R a b → Le R a b
lt_le R a b low = ap is_le (less_is (R a b) low)

pub lt_not_le : {K : Type 0} (R : K → K → Ordering) → IsTotalOrder R → (a b : K) → Lt R a b → Le R b a → ⊥
lt_not_le R o a b low le =
    let is : R b a ≡ Greater = o.antisymm b a ∙ ap ordering_reverse (less_is (R a b) low) in
    clash (sym (ap is_le is) ∙ le)
  where
    clash : is_le Greater ≡ true → ⊥
    clash e = absurd (cc)

pub le_antisym : {K : Type 0} (R : K → K → Ordering) → IsTotalOrder R → ((a b : K) → R a b ≡ Equal → a ≡ b) → (a b : K) → Le R a b → Le R b a → a ≡ b
le_antisym R o apart a b le ge = apart a b (tied (R a b) (R b a) (o.antisymm a b) le ge)

pub le_lt_trans : {K : Type 0} (R : K → K → Ordering) → IsTotalOrder R → (a b c : K) → Le R a b → Lt R b c → Lt R a c
le_lt_trans R o a b c x y = ⊎_elim (λ (le : Le R c a). absurd (lt_not_le R o b c y (le_trans R o c a b le x))) (λ (lt : Lt R a c). lt) (le_or_lt R o c a)

pub lt_le_trans : {K : Type 0} (R : K → K → Ordering) → IsTotalOrder R → (a b c : K) → Lt R a b → Le R b c → Lt R a c
lt_le_trans R o a b c x y = ⊎_elim (λ (le : Le R c a). absurd (lt_not_le R o a b x (le_trans R o b c a y le))) (λ (lt : Lt R a c). lt) (le_or_lt R o c a)

-- Positions.
abbrev pub Before : Place → Place → Type 0
Before p q = IsTrue (is_lt (position_cmp p q))

pub same_at_most : (p q : Place) → p ≡ q → IsAtMost p q
same_at_most p q e = subst (IsAtMost p) e (le_itself position_cmp position_total p)

pub antisym : (p q : Place) → IsAtMost p q → IsAtMost q p → p ≡ q
antisym = le_antisym position_cmp position_total position_apart

pub at_most_before : (p q r : Place) → IsAtMost p q → Before q r → Before p r
at_most_before = le_lt_trans position_cmp position_total

pub not_both : (p q : Place) → Before p q → IsAtMost q p → ⊥
not_both = lt_not_le position_cmp position_total

pub lesser_cases : (p q : Place) → ((IsAtMost p q) × (lesser p q ≡ p)) ⊎ ((Before q p) × (lesser p q ≡ q))
lesser_cases p q = by (is_lt (position_cmp q p)) refl
  where
    by : (b : Bool) → is_lt (position_cmp q p) ≡ b → ((IsAtMost p q) × (lesser p q ≡ p)) ⊎ ((Before q p) × (lesser p q ≡ q))
    by true e = inr (e, ap (λ (g : Bool). cond g q p) e)
    by false e = inl (⊎_elim (λ (le : IsAtMost p q). le) (λ (lt : Before q p). absurd (clash (sym lt ∙ e))) (le_or_lt position_cmp position_total p q), ap (λ (g : Bool). cond g q p) e)
      where
        clash : true ≡ false → ⊥
        clash e = absurd (cc)

pub lesser_first : (p q : Place) → IsAtMost (lesser p q) p
lesser_first p q = ⊎_elim (λ w. same_at_most (lesser p q) p w.1) (λ w. subst (λ d. IsAtMost d p) (sym w.1) (lt_le position_cmp q p w.0)) (lesser_cases p q)

pub lesser_second : (p q : Place) → IsAtMost (lesser p q) q
lesser_second p q = ⊎_elim (λ w. subst (λ d. IsAtMost d q) (sym w.1) w.0) (λ w. same_at_most (lesser p q) q w.1) (lesser_cases p q)

-- what is at most both, and one of them
pub is_lesser : (c p q : Place) → IsAtMost c p → IsAtMost c q → (c ≡ p) ⊎ (c ≡ q) → c ≡ lesser p q
is_lesser c p q x y one =
    ⊎_elim
    (λ w. ⊎_elim (λ (e : c ≡ p). e ∙ sym w.1) (λ (e : c ≡ q). antisym c p x (subst (λ d. IsAtMost p d) (sym e) w.0) ∙ sym w.1) one)
    (λ w. ⊎_elim (λ (e : c ≡ p). absurd (not_both q p w.0 (subst (λ d. IsAtMost d q) e y))) (λ (e : c ≡ q). e ∙ sym w.1) one)
    (lesser_cases p q)

-- the parts of a position
pub first_le : (a b : Ordering) → IsTrue (is_le (ordering_then a b)) → IsTrue (is_le a)
first_le Less b le = refl
first_le Equal b le = refl
first_le Greater b le = absurd (cc)

front_le : (a b c : Ordering) → IsTrue (is_le (ordering_then a (ordering_then b c))) → IsTrue (is_le (ordering_then a b))
front_le Less b c le = refl
front_le Equal b c le = first_le b c le
front_le Greater b c le = absurd (cc)

abbrev pub LifeAtMost : LifeId → LifeId → Type 0
LifeAtMost a b = IsTrue (is_le (life_cmp a b))

pub root_at_most : (p q : Place) → IsAtMost p q → LifeAtMost p.root q.root
root_at_most p q le = first_le (life_cmp p.root q.root) (ordering_then (nat_cmp p.level q.level) (ordering_then (life_cmp p.parent q.parent) (nat_cmp p.port q.port))) le

pub nat_le : (a b : ℕ) → IsTrue (is_le (nat_cmp a b)) → a ≤ b
nat_le a b le = grind (arith, nat_tests)

second_le : (a b : Ordering) → a ≡ Equal → IsTrue (is_le (ordering_then a b)) → IsTrue (is_le b)
second_le a b e le = sym (ap (λ (o : Ordering). is_le (ordering_then o b)) e) ∙ le

pub level_at_most : (p q : Place) → IsAtMost p q → p.root ≡ q.root → p.level ≤ q.level
level_at_most p q le e =
    let tie : life_cmp p.root q.root ≡ Equal = subst (λ (r : LifeId). life_cmp p.root r ≡ Equal) e (tied_itself life_total p.root) in
    nat_le p.level q.level (second_le (life_cmp p.root q.root) (nat_cmp p.level q.level) tie
    (front_le (life_cmp p.root q.root) (nat_cmp p.level q.level) (ordering_then (life_cmp p.parent q.parent) (nat_cmp p.port q.port)) le))

-- what a position gives behind a link
abbrev pub given : Place → PeerAt → Place
given p k = below_offer k (record { root = p.root; level = p.level })

pub given_at_most : (p q : Place) (k : PeerAt) → IsAtMost p q → IsAtMost (given p k) (given q k)
given_at_most p q k le =
    below_less k (record { root = p.root; level = p.level }) (record { root = q.root; level = q.level })
    (front_le (life_cmp p.root q.root) (nat_cmp p.level q.level) (ordering_then (life_cmp p.parent q.parent) (nat_cmp p.port q.port)) le)

low_level : (a b : ℕ) → a ≤ b → nat_cmp a (b + 1) ≡ Less
low_level a b le = grind (arith, nat_tests)

-- a position of the same root and no greater level comes before what is given
pub before_given : (p q : Place) (k : PeerAt) → p.root ≡ q.root → p.level ≤ q.level → Before p (given q k)
before_given p q k e le =
    ap (λ (o : Ordering). is_lt (ordering_then o (ordering_then (nat_cmp p.level (q.level + 1)) (ordering_then (life_cmp p.parent k.peer.life) (nat_cmp p.port k.port))))) (subst (λ (r : LifeId). life_cmp p.root r ≡ Equal) e (tied_itself life_total p.root))
    ∙ ap (λ (o : Ordering). is_lt (ordering_then o (ordering_then (life_cmp p.parent k.peer.life) (nat_cmp p.port k.port)))) (low_level p.level q.level le)
