-- The order of lives: what is below what, and which lives are one.
use Rattle.std.proofs.Common.{◌≡◌, ◌∙◌, ap, refl, subst, true, false, Less, Equal, Greater}
use Rattle.std.specs.Ordering.{is_lt, is_eq, ordering_reverse}
use Rattle.std.specs.Cmp.{tied_itself, Equal-is}
use Rattle.std.proofs.lemmas.Bool.{false_from_ne_true}
use Rattle.an_base.specs.Values.{LifeId}
use Rattle.an_base.specs.Order.{life_cmp, IsBelow}
use Rattle.common_values.proofs.OrderingLemmas.{less_is}
use Rattle.an_base.specs.TotalOrders.{life_total}
use Rattle.an_base.proofs.OrderLaws.{life_apart}

-- how a lesser life compares
pub below_cmp : (a b : LifeId) → IsBelow a b → life_cmp a b ≡ Less
below_cmp a b low = less_is (life_cmp a b) low

-- and a greater one
pub below_from_greater : (a b : LifeId) → life_cmp a b ≡ Greater → IsBelow b a
below_from_greater a b is = ap is_lt (life_total.antisymm b a ∙ ap ordering_reverse is)

pub below_trans : (a b c : LifeId) → IsBelow a b → IsBelow b c → IsBelow a c
below_trans a b c low high = ap is_lt (life_total.trans a b c (below_cmp a b low) (below_cmp b c high))

-- no life is below itself
pub below_same : (a b : LifeId) → a ≡ b → IsBelow a b → ⊥
below_same a b is low =
    let same = tied_itself life_total a in
    let other = below_cmp a b low in
    let moved = ap (life_cmp a) is in
    cc

-- nor two below each other
pub below_both : (a b : LifeId) → IsBelow a b → IsBelow b a → ⊥
below_both a b low high = below_same a a refl (below_trans a b a low high)

-- lives that pass the test of equality are one
pub same_life : (a b : LifeId) → is_eq (life_cmp a b) ≡ true → a ≡ b
same_life a b is = life_apart a b ((Equal-is (life_cmp a b)).0 is)

-- and one life passes it
pub life_passes : (a b : LifeId) → a ≡ b → is_eq (life_cmp a b) ≡ true
life_passes a b same = (Equal-is (life_cmp a b)).1 (subst (λ (c : LifeId). life_cmp a c ≡ Equal) same (tied_itself life_total a))

-- two lives fail it
pub lives_differ : (a b : LifeId) → (a ≡ b → ⊥) → is_eq (life_cmp a b) ≡ false
lives_differ a b other = false_from_ne_true (is_eq (life_cmp a b)) (λ is. other (same_life a b is))
