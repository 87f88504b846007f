-- Sets of ports as numbers, and the rising lists of their ports.
use Rattle.std.proofs.Common.{◌≡◌, ◌≢◌, ◌∙◌, sym, ap, subst, refl, ℕ, ◌+◌, ◌*◌, ◌%◌, ◌^◌, ◌<◌, ◌≤◌, List, [], ◌∷◌, ◌++◌, arith, length, get_or, take, inl, inr, ◌==◌}
use Rattle.std.specs.Prelude.{Contains, bit_and}
use Rattle.std.specs.Int.{bit_at, w16, trailing_zeros}
use Rattle.std.specs.Int.RustNames.{bit_or}
use Rattle.std.specs.List.{range_with_len}
use Rattle.std.proofs.lemmas.Bool.{cases_eq, cases_lt, eqb-true, eq-eqb}
use Rattle.std.proofs.lemmas.List.{take_more}
use Rattle.std.proofs.lemmas.List.Elements.{All-contains, Contains-append_left, Contains-push, Contains-push_cases}
use Rattle.std.proofs.lemmas.Nat.Bits.{bit_at_and, bit_at-zero, bit_at-lt, bit_at_set_same, bit_at_set_other, bit_at-trailing_zeros, same_from_bits}
use Rattle.an_base.specs.Rows.{ArePorts, ExitsRise}
use Rattle.common_values.proofs.RangeLemmas.{Contains-kept, in_range, kept_passes, kept_range}
use Rattle.fcfc_router.specs.Router.{CanGo, Gets, IsLowest}
use Rattle.fcfc_router.specs.Shown.{ports_of}

-- the bits of a set are these ports
pub record HasBits (set : ℕ) (ports : List ℕ) : Type 0 where
  pub named : (port : ℕ) → Contains ports port → bit_at set port ≡ 1
  pub only : (port : ℕ) → bit_at set port ≡ 1 → Contains ports port

pub no_bits_yet : (ports : List ℕ) → HasBits 0 (take 0 ports)
no_bits_yet ports = record {
  named = λ port has. absurd (let low = has.1 in omega arith);
  only = λ port is. absurd (let z = bit_at-zero port in omega arith);
}

pub one_more_bit : (ports : List ℕ) (i set : ℕ) → i < length ports → get_or ports i 0 < 16 → HasBits set (take i ports) → HasBits (bit_or set (1 * 2 ^ get_or ports i 0 % 2 ^ 16)) (take (i + 1) ports)
one_more_bit ports i set low small bits = rw (take_more ports i 0 low) (record {
  named = λ port has. elim (cases_eq port (get_or ports i 0)) [
    | inl same ↦ subst (λ (p : ℕ). bit_at (bit_or set (1 * 2 ^ get_or ports i 0 % 2 ^ 16)) p ≡ 1) (sym same) (bit_at_set_same w16 set (get_or ports i 0) small)
    | inr other ↦ (bit_at_set_other w16 set (get_or ports i 0) small port other ∙ elim (Contains-push_cases (take i ports) (get_or ports i 0) port has) [
      | inl before ↦ bits.named port before
      | inr same ↦ absurd (other (sym same))
    ])
  ];
  only = λ port is. elim (cases_eq port (get_or ports i 0)) [
    | inl same ↦ subst (λ (p : ℕ). Contains (take i ports ++ (get_or ports i 0 ∷ [])) p) (sym same) (Contains-push (take i ports) (get_or ports i 0))
    | inr other ↦ Contains-append_left (take i ports) (get_or ports i 0 ∷ []) port (bits.only port (sym (bit_at_set_other w16 set (get_or ports i 0) small port other) ∙ is))
  ];
})

-- the ports of a set are the rising list that it was made of
pub ports_of_is : (set : ℕ) (ports : List ℕ) → ArePorts ports → ExitsRise ports → HasBits set ports → ports_of set ≡ ports
ports_of_is set ports are rise bits = kept_range (λ port. bit_at set port == 1) 16 0 ports rise
    (λ p has. let h = All-contains (λ port. (1 ≤ port) × (port ≤ 12)) ports p are has in (omega arith, omega arith, eq-eqb (bit_at set p) 1 (bits.named p has)))
    (λ p least most passes. bits.only p (eqb-true (bit_at set p) 1 passes))

pub lowest_is : (set : ℕ) → set ≢ 0 → set < 2 ^ 16 → IsLowest set (trailing_zeros w16 set) × (trailing_zeros w16 set < 16)
lowest_is set some fits =
    let h = bit_at-trailing_zeros w16 set (omega arith) fits in (
      record {
        is_in = h.1;
        least = λ other is. elim (cases_lt other (trailing_zeros w16 set)) [
          | inl before ↦ absurd (let z = h.2 other before in omega arith)
          | inr high ↦ high
        ];
      },
      h.0,
    )

-- no port is in the set of none
pub none_has_none : (free : ℕ) → bit_and 0 free ≡ 0
none_has_none free = same_from_bits (bit_and 0 free) 0 (λ i. let e = bit_at_and 0 free i in let z = bit_at-zero i in omega arith)

both_bits : (set free port : ℕ) → bit_at (bit_and set free) port ≡ 1 → (bit_at set port ≡ 1) × (bit_at free port ≡ 1)
both_bits set free port is = let e = bit_at_and set free port in let a = bit_at-lt set port in let b = bit_at-lt free port in (omega arith, omega arith)

bit_of_both : (set free port : ℕ) → bit_at set port ≡ 1 → bit_at free port ≡ 1 → bit_at (bit_and set free) port ≡ 1
bit_of_both set free port first second = let e = bit_at_and set free port in omega arith

bit_of : (set port : ℕ) → Contains (ports_of set) port → bit_at set port ≡ 1
bit_of set port has = eqb-true (bit_at set port) 1 (kept_passes (λ p. bit_at set p == 1) (range_with_len 0 16) port has)

has_bit : (set port : ℕ) → port < 16 → bit_at set port ≡ 1 → Contains (ports_of set) port
has_bit set port low is = Contains-kept (λ p. bit_at set p == 1) (range_with_len 0 16) port (in_range 16 0 port (omega arith) (omega arith)) (eq-eqb (bit_at set port) 1 is)

-- a request that shares no port with the free ones cannot go
pub blocked : (set free packet : ℕ) → bit_and set free ≡ 0 → CanGo free (record { packet = packet; ports = ports_of set }) → ⊥
blocked set free packet none (k, port, low, is, is_free) =
    let both = bit_of_both set free port (bit_of set port (k, low, is)) is_free in
    let z : bit_at (bit_and set free) port ≡ 0 = ap (λ (n : ℕ). bit_at n port) none ∙ bit_at-zero port in
    omega arith

-- and one that shares some gets the lowest
pub gets_lowest : (set free packet port : ℕ) → port < 16 → IsLowest (bit_and set free) port → Gets free (record { packet = packet; ports = ports_of set }) (record { packet = packet; port = port })
gets_lowest set free packet port low lowest =
    let both = both_bits set free port lowest.is_in in
    record {
      packet = refl;
      named = has_bit set port low both.0;
      is_free = both.1;
      lowest = λ other named is_free. lowest.least other (bit_of_both set free other (bit_of set other named) is_free);
    }
