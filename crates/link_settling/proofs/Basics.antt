use Rattle.std.proofs.Common.{◌≡◌, ◌∙◌, sym, ap, refl, ℕ, ◌+◌, ◌-◌, ◌≤◌, arith, true}
use Rattle.std.specs.Prelude.{nat_le}
use Rattle.std.proofs.Math.Nat.{pow-le-pow_right, min-le_left}
use Rattle.std.proofs.lemmas.Nat.{pow_pos}
use Rattle.std.proofs.lemmas.Bool.{cond_both}
use Rattle.std.specs.declared.cmp.Ordering.TheVariants.{Equal}
use Rattle.std.specs.Ordering.{is_eq, nat_cmp, ordering_then}
use Rattle.std.specs.Cmp.{nat_cmp_is}
use Rattle.an_base.specs.Values.{EndId}
use Rattle.skeptic.specs.Skeptics.{SkepticOf, hold, failed, praised}
use Rattle.connectivity.specs.Connections.{is_same_end}

-- ends
nat_same : (n : ℕ) → nat_cmp n n ≡ Equal
nat_same n = sym (nat_cmp_is n n Equal refl)

pub same_end : (p : EndId) → is_same_end p p ≡ true
same_end p =
    ap (λ o. is_eq (ordering_then (ordering_then o (nat_cmp p.life.boot p.life.boot)) (nat_cmp p.port p.port))) (nat_same p.life.uid)
    ∙ ap (λ o. is_eq (ordering_then o (nat_cmp p.port p.port))) (nat_same p.life.boot)
    ∙ ap is_eq (nat_same p.port)

-- levels
pub hold_least : (s : SkepticOf) → 1 ≤ hold s
hold_least s = let p = pow_pos s.level in omega (arith, p)

pub hold_most : (s : SkepticOf) → s.level ≤ 7 → hold s ≤ 128
hold_most s most = pow-le-pow_right {n = 2} (omega arith) {i = s.level} {j = 7} most

pub failed_level : (s : SkepticOf) → (failed s).level ≤ 7
failed_level s = min-le_left 7 (s.level + 1)

pub praised_level : (s : SkepticOf) → s.level ≤ 7 → (praised s).level ≤ 7
praised_level s most = cond_both (nat_le 64 (s.run + 1)) (record { level = s.level - 1; run = 0 }) (record s { run = s.run + 1 }) (λ (t : SkepticOf). t.level ≤ 7) (λ _. omega (arith, most)) (λ _. most)
