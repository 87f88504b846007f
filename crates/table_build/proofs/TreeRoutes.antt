use Rattle.std.proofs.Common.{◌≡◌, ◌≢◌, sym, subst, refl, ℕ, zero, suc, ◌<◌, List, Some, true, false, arith, length, inl, inr}
use Rattle.std.specs.Ordering.{nat_cmp, ordering_then, is_lt}
use Rattle.std.specs.declared.cmp.Ordering.{Ordering}
use Rattle.std.proofs.lemmas.Bool.{cases_eq}
use Rattle.std.proofs.lemmas.Bool.Decides.{nat_tests}
use Rattle.an_base.specs.Values.{EntryOf}
use Rattle.an_base.specs.Order.{life_cmp}
use Rattle.topo_graph.specs.Topology.{entry_at, life_at, level_at, far_of, IsGraph, IsTree}
use Rattle.topo_graph.proofs.TreeLemmas.{tree_stands}
use Rattle.updown.specs.Routes.{is_up_end, HasLegal, HasDown}
use Rattle.updown.proofs.RouteLemmas.{not_both_higher, down_here, down_zero, down_suc, down_on, legal_on, down_legal}
use Rattle.topo_graph.proofs.FarLemmas.{far_back}

-- a lower level is higher up
pub level_up : (a b : ℕ) (o : Ordering) → a < b → is_lt (ordering_then (nat_cmp a b) o) ≡ true
level_up a b o less = grind (arith, nat_tests)

-- one link more at the end of a route downward
down_end : (es : List EntryOf) (x y z p q n : ℕ) → HasDown es x y n → far_of es y p ≡ Some (z, q) → is_up_end es z y ≡ false → HasDown es x z (suc n)
down_end es x y z p q zero has e not_up =
    let same = down_zero es x y has in
    down_on es x z 0 p (z, q, subst (λ (w : ℕ). far_of es w p ≡ Some (z, q)) (sym same) e, subst (λ (w : ℕ). is_up_end es z w ≡ false) (sym same) not_up, down_here es z z refl)
down_end es x y z p q (suc n) has e not_up =
    let f = down_suc es x y n has in
    down_on es x z (suc n) f.0 (f.1.0, f.1.1, f.1.2, f.1.3, down_end es f.1.0 y z p q n f.1.4 e not_up)

-- a member but the root has a link upward, to a member one level nearer to the root
record Above (es : List EntryOf) (x n : ℕ) : Type 0 where
  upper : ℕ
  port : ℕ
  far : ℕ
  leads : far_of es x port ≡ Some (upper, far)
  below : upper < length es
  level : level_at es upper ≡ n
  up : is_up_end es upper x ≡ true

above : (es : List EntryOf) → IsGraph es → IsTree es → (n x : ℕ) → x < length es → x ≢ 0 → level_at es x ≡ suc n → Above es x n
above es graph tree n x low other at =
    let b = (tree_stands es graph tree x low).below other in
    let p = (entry_at es x).position.port in
    let level = b.1.parent.level in
    record {
      upper = b.0;
      port = p;
      far = b.1.parent.port.0;
      leads = b.1.parent.port.1;
      below = (graph.within x p (b.0, b.1.parent.port.0) b.1.parent.port.1).far_place;
      level = omega (arith, level, at);
      up = level_up (level_at es b.0) (level_at es x) (life_cmp (life_at es b.0) (life_at es x)) (omega (arith, level));
    }

-- the root leads down to each member
from_root : (es : List EntryOf) → IsGraph es → IsTree es → (n x : ℕ) → x < length es → level_at es x ≡ n → (m : ℕ) × HasDown es 0 x m
from_root es graph tree zero x low at = elim (cases_eq x 0) [
  | inl same ↦ (0, down_here es 0 x (sym same))
  | inr other ↦ (let b = (tree_stands es graph tree x low).below other in let h = b.1.parent.level in absurd (omega arith))
]
from_root es graph tree (suc n) x low at = elim (cases_eq x 0) [
  | inl same ↦ (0, down_here es 0 x (sym same))
  | inr other ↦ (
      let a = above es graph tree n x low other at in
      let rest = from_root es graph tree n a.upper a.below a.level in
      (suc rest.0, down_end es 0 a.upper x a.far a.port rest.0 rest.1 (far_back es x a.port a.upper a.far graph a.leads) (not_both_higher es a.upper x a.up)))
]

-- and each member leads up to the root, and on from there
to_root : (es : List EntryOf) (to m : ℕ) → IsGraph es → IsTree es → HasLegal es 0 to m → (n x : ℕ) → x < length es → level_at es x ≡ n → (k : ℕ) × HasLegal es x to k
to_root es to m graph tree has zero x low at = elim (cases_eq x 0) [
  | inl same ↦ (m, subst (λ (w : ℕ). HasLegal es w to m) (sym same) has)
  | inr other ↦ (let b = (tree_stands es graph tree x low).below other in let h = b.1.parent.level in absurd (omega arith))
]
to_root es to m graph tree has (suc n) x low at = elim (cases_eq x 0) [
  | inl same ↦ (m, subst (λ (w : ℕ). HasLegal es w to m) (sym same) has)
  | inr other ↦ (
      let a = above es graph tree n x low other at in
      let rest = to_root es to m graph tree has n a.upper a.below a.level in
      (suc rest.0, legal_on es x to rest.0 a.port (a.upper, a.far, a.leads, inl (a.up, rest.1))))
]

-- so a legal route joins every two members
pub joined : (es : List EntryOf) (x y : ℕ) → IsGraph es → IsTree es → x < length es → y < length es → (n : ℕ) × HasLegal es x y n
joined es x y graph tree low low' =
    let down = from_root es graph tree (level_at es y) y low' refl in
    to_root es y down.0 graph tree (down.1.0, down.1.1, down_legal es 0 down.1.0 y down.1.2) (level_at es x) x low refl
