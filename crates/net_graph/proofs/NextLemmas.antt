use Rattle.std.proofs.Common.{◌≡◌, ◌∙◌, ap, subst, ℕ, zero, suc, ◌+◌, ◌<◌, ◌≤◌, List, Option, Some, None, Bool, true, false, arith, inl, inr}
use Rattle.std.specs.Prelude.{is_some, ◌&&◌, nat_le, if◌then◌else◌}
use Rattle.std.proofs.lemmas.Bool.{cases_eq}
use Rattle.std.proofs.lemmas.Bool.Decides.{nat_tests}
use Rattle.net_graph.specs.Wires.{Wires, uid_of}
use Rattle.net_graph.specs.Levels.{level_at}
use Rattle.net_graph.specs.Next.{IsLeft, IsNext, IsNextOf, left_count}

-- the next is not left
pub keep_next : (w : Wires) (levels : List (Option ℕ)) (from x : ℕ) (best : Option ℕ) → IsNextOf w levels from x best → (IsLeft w levels from x → ⊥) → IsNextOf w levels from (x + 1) best
keep_next w levels from x None best gone = λ z low left. elim (cases_eq z x) [
  | inl same ↦ gone (subst (λ (y : ℕ). IsLeft w levels from y) same left)
  | inr other ↦ best z (omega arith) left
]
keep_next w levels from x (Some s) best gone = record {
  below = let h = best.below in omega arith;
  left = best.left;
  least = λ z low left. elim (cases_eq z x) [
    | inl same ↦ absurd (gone (subst (λ (y : ℕ). IsLeft w levels from y) same left))
    | inr other ↦ best.least z (omega arith) left
  ];
}

-- the next is the first that is left
pub first_next : (w : Wires) (levels : List (Option ℕ)) (from x : ℕ) → IsNextOf w levels from x None → IsLeft w levels from x → IsNext w levels from (x + 1) x
first_next w levels from x best left = record {
  below = omega arith;
  left = left;
  least = λ z low left'. elim (cases_eq z x) [
    | inl same ↦ rw same (omega arith)
    | inr other ↦ absurd (best z (omega arith) left')
  ];
}

-- the next is no less than the best so far
pub keep_less : (w : Wires) (levels : List (Option ℕ)) (from x s : ℕ) → IsNext w levels from x s → uid_of w.switches s ≤ uid_of w.switches x → IsNext w levels from (x + 1) s
keep_less w levels from x s best le = record {
  below = let h = best.below in omega arith;
  left = best.left;
  least = λ z low left'. elim (cases_eq z x) [
    | inl same ↦ rw same le
    | inr other ↦ best.least z (omega arith) left'
  ];
}

-- the next is less
pub take_less : (w : Wires) (levels : List (Option ℕ)) (from x s : ℕ) → IsNext w levels from x s → IsLeft w levels from x → uid_of w.switches x < uid_of w.switches s → IsNext w levels from (x + 1) x
take_less w levels from x s best left lt = record {
  below = omega arith;
  left = left;
  least = λ z low left'. elim (cases_eq z x) [
    | inl same ↦ rw same (omega arith)
    | inr other ↦ (let h = best.least z (omega arith) left' in omega arith)
  ];
}

-- less is counted from a greater identifier on
counted : (a : Bool) (u from to : ℕ) → from ≤ to → (if a && nat_le to u then 1 else 0) ≤ (if a && nat_le from u then 1 else 0)
counted a u from to le = grind (arith, nat_tests)

-- fewer are left from a greater identifier on
pub left_count-mono : (w : Wires) (levels : List (Option ℕ)) (from to n : ℕ) → from ≤ to → left_count w levels to n ≤ left_count w levels from n
left_count-mono w levels from to zero le = omega arith
left_count-mono w levels from to (suc x) le = omega (arith, left_count-mono w levels from to x le, counted (is_some (level_at levels x)) (uid_of w.switches x) from to le)

abbrev count_if : Bool → ℕ
count_if b = if b then 1 else 0

-- one with a level counts from its own identifier on
one_counted : (o : Option ℕ) (l u from : ℕ) → o ≡ Some l → from ≤ u → count_if (is_some o && nat_le from u) ≡ 1
one_counted o l u from some le = rw some (grind (arith, nat_tests))

-- and not from above it
none_counted : (a : Bool) (u : ℕ) → count_if (a && nat_le (u + 1) u) ≡ 0
none_counted a u = grind (arith, nat_tests)

-- one fewer is left once the next is taken
pub left_count-less : (w : Wires) (levels : List (Option ℕ)) (from s n : ℕ) → s < n → IsLeft w levels from s → left_count w levels (uid_of w.switches s + 1) n + 1 ≤ left_count w levels from n
left_count-less w levels from s zero low left = absurd (omega arith)
left_count-less w levels from s (suc x) low left = elim (cases_eq x s) [
  | inl same ↦ omega (
    arith,
    left_count-mono w levels from (uid_of w.switches s + 1) x (let h = left.2 in omega arith),
    one_counted (level_at levels x) left.0 (uid_of w.switches x) from (ap (level_at levels) same ∙ left.1) (let h = left.2 in rw same h),
    subst (λ (y : ℕ). count_if (is_some (level_at levels x) && nat_le (uid_of w.switches y + 1) (uid_of w.switches x)) ≡ 0) same (none_counted (is_some (level_at levels x)) (uid_of w.switches x)),
  )
  | inr other ↦ omega (
    arith,
    left_count-less w levels from s x (omega arith) left,
    counted (is_some (level_at levels x)) (uid_of w.switches x) from (uid_of w.switches s + 1) (let h = left.2 in omega arith),
  )
]

-- no more are left than there are
pub left_count-most : (w : Wires) (levels : List (Option ℕ)) (from n : ℕ) → left_count w levels from n ≤ n
left_count-most w levels from zero = omega arith
left_count-most w levels from (suc x) = omega (arith, left_count-most w levels from x, at_most (is_some (level_at levels x) && nat_le from (uid_of w.switches x)))
  where
    at_most : (b : Bool) → (if b then 1 else 0) ≤ 1
    at_most true = omega arith
    at_most false = omega arith
