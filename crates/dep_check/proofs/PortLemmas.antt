-- Sets of ports, as bits of a number.
use Rattle.std.proofs.Common.{◌≡◌, subst, ℕ, ◌<◌, List, true, arith, inl, inr, ◌⊎◌, ◌↔◌, ap, false, ◌==◌}
use Rattle.std.specs.Prelude.{Contains}
use Rattle.std.specs.Int.{bit_at}
use Rattle.std.specs.Int.RustNames.{bit_and, bit_or}
use Rattle.std.proofs.lemmas.Bool.{cases_eq, cases_lt, eq-eqb, eqb-true}
use Rattle.std.proofs.lemmas.Nat.Bits.{bit_at-zero, bit_at-lt, bit_at_and, bit_at_or, bit_at_ones, bit_at_ones_above}
use Rattle.an_base.specs.Rows.{IsWithout}
use Rattle.dep_check.specs.Ports.{HasOnlyPorts}
use Rattle.dep_check.specs.Tables.{has_port}

-- the ports of two sets
pub has_either : (a b port : ℕ) → ((bit_at (bit_or a b) port ≡ 1) ↔ ((bit_at a port ≡ 1) ⊎ (bit_at b port ≡ 1)))
has_either a b port =
    let both = bit_at_or a b port in
    let most_a = bit_at-lt a port in
    let most_b = bit_at-lt b port in (
      λ is. elim (cases_eq (bit_at a port) 1) [
        | inl has ↦ inl has
        | inr has_not ↦ inr (omega arith)
      ],
      λ either. elim either [
        | inl has ↦ omega arith
        | inr has ↦ omega arith
      ],
    )

-- the empty set has no port
pub no_port : (p : ℕ) → has_port 0 p ≡ false
unfolding has_port
no_port p = ap (λ (bit : ℕ). bit == 1) (bit_at-zero p)

-- the same of the test of a port, where the second set has these ports
pub told_with : (new had others : ℕ) (ports : List ℕ) → ((port : ℕ) → ((bit_at new port ≡ 1) ↔ ((bit_at had port ≡ 1) ⊎ (bit_at others port ≡ 1)))) → ((port : ℕ) → ((bit_at others port ≡ 1) ↔ Contains ports port)) → (p : ℕ) → ((has_port new p ≡ true) ↔ ((has_port had p ≡ true) ⊎ Contains ports p))
unfolding has_port
told_with new had others ports told named p = (
  λ is. elim ((told p).0 (eqb-true (bit_at new p) 1 is)) [
    | inl old ↦ inl (eq-eqb (bit_at had p) 1 old)
    | inr added ↦ inr ((named p).0 added)
  ],
  λ either. eq-eqb (bit_at new p) 1 ((told p).1 (elim either [
    | inl old ↦ inl (eqb-true (bit_at had p) 1 old)
    | inr added ↦ inr ((named p).1 added)
  ])),
)

-- the ports of a set, and none of its other bits
pub only_low : (set : ℕ) → HasOnlyPorts (bit_and set 8191)
only_low set p is = elim (cases_lt p 13) [
  | inl low ↦ low
  | inr high ↦ absurd (let e = bit_at_and set 8191 p in let z : bit_at 8191 p ≡ 0 = bit_at_ones_above 13 p high in omega arith)
]

pub only_same : (set p : ℕ) → p < 13 → has_port (bit_and set 8191) p ≡ has_port set p
unfolding has_port
only_same set p low =
    let e = bit_at_and set 8191 p in
    let one : bit_at 8191 p ≡ 1 = bit_at_ones 13 p low in
    let most = bit_at-lt set p in
    let same : bit_at (bit_and set 8191) p ≡ bit_at set p = omega arith in
    ap (λ (bit : ℕ). bit == 1) same

-- the bit of a port that a set has
pub bit_of : (set p : ℕ) → has_port set p ≡ true → bit_at set p ≡ 1
unfolding has_port
bit_of set p has = eqb-true (bit_at set p) 1 has

pub port_of : (set p : ℕ) → bit_at set p ≡ 1 → has_port set p ≡ true
unfolding has_port
port_of set p is = eq-eqb (bit_at set p) 1 is

-- what holds of no port that is not left holds of none, with one port less left
pub past_more : (P : ℕ → Type 0) (old k new : ℕ) → IsWithout old k new → ((e : ℕ) → (bit_at old e ≡ 1 → ⊥) → P e → ⊥) → (P k → ⊥) → (e : ℕ) → (bit_at new e ≡ 1 → ⊥) → P e → ⊥
past_more P old k new without so_far here e gone is = elim (cases_eq e k) [
  | inl same ↦ here (subst P same is)
  | inr other ↦ so_far e (λ has. gone ((without e).1 (has, other))) is
]
