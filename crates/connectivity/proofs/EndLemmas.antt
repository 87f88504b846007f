use Rattle.std.proofs.Common.{◌≡◌, ap, true, Option, Some, None}
use Rattle.std.proofs.lemmas.Bool.{false≢true}
use Rattle.an_base.specs.Values.{EndId}
use Rattle.an_base.specs.Order.{end_cmp}
use Rattle.an_base.proofs.OrderLaws.{end_apart}
use Rattle.common_values.proofs.OrderingLemmas.{equal_is}
use Rattle.connectivity.specs.Connections.{is_end, is_same_end}

-- the test of two ends tells that they are one
pub same_end_is : (p q : EndId) → is_same_end p q ≡ true → p ≡ q
same_end_is p q is = end_apart p q (equal_is (end_cmp p q) is)

-- and so where there may be none
pub is_end_is : (o : Option EndId) (q : EndId) → is_end o q ≡ true → o ≡ Some q
is_end_is None q is = absurd (false≢true is)
is_end_is (Some p) q is = ap Some (same_end_is p q is)
