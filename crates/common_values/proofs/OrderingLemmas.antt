-- What the tests of a comparison's answer say.
use Rattle.std.proofs.Common.{◌≡◌, ℕ, refl, Less, Equal, Greater, true, false, IsTrue}
use Rattle.std.specs.declared.cmp.Ordering.{Ordering}
use Rattle.std.specs.Ordering.{nat_cmp, is_eq, is_lt, is_le, is_gt, ordering_then, ordering_reverse}
use Rattle.std.specs.Cmp.{Equal-is}
use Rattle.std.proofs.lemmas.Map.Lookups.{exact_unsigned}

-- the test of equality
pub equal_is : (o : Ordering) → is_eq o ≡ true → o ≡ Equal
equal_is o is = (Equal-is o).0 is

-- the test of less
pub less_is : (o : Ordering) → IsTrue (is_lt o) → o ≡ Less
less_is Less low = refl
less_is Equal low = absurd (cc)
less_is Greater low = absurd (cc)

-- what is at most is not above
pub not_above : (o : Ordering) → IsTrue (is_le o) → is_gt o ≡ false
not_above Less le = refl
not_above Equal le = refl
not_above Greater le = absurd (cc)

-- and what is not above is at most
pub at_most : (o : Ordering) → is_gt o ≡ false → IsTrue (is_le o)
at_most Less low = refl
at_most Equal low = refl
at_most Greater low = absurd (cc)

-- where neither is above the other, both are alike
pub tied : (r s : Ordering) → r ≡ ordering_reverse s → IsTrue (is_le r) → IsTrue (is_le s) → r ≡ Equal
tied Less Less is le ge = absurd (cc)
tied Less Equal is le ge = absurd (cc)
tied Less Greater is le ge = absurd (cc)
tied Equal s is le ge = refl
tied Greater s is le ge = absurd (cc)

-- two comparisons, the second where the first tells nothing apart, of which neither does
pub then_equal : (a b : Ordering) → ordering_then a b ≡ Equal → (a ≡ Equal) × (b ≡ Equal)
then_equal Less b e = absurd (cc)
then_equal Equal b e = (refl, e)
then_equal Greater b e = absurd (cc)

-- numbers that compare as equal are one
pub nat_apart : (a b : ℕ) → nat_cmp a b ≡ Equal → a ≡ b
nat_apart = exact_unsigned
