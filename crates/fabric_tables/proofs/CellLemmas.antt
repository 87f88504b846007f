-- A cell that is put, and the others.
use Rattle.std.proofs.Common.{◌≡◌, ◌≢◌, ◌∙◌, sym, ap, ℕ, ◌+◌, ◌*◌, ◌/◌, ◌%◌, ◌<◌, ◌≤◌, ◌&&◌, ◌==◌, Bool, true, false, cond, eqb, ltb, Option, Some, None, List, arith, length, get_or, set, inl, inr, ◌⊎◌}
use Rattle.std.specs.Prelude.{nat_lt}
use Rattle.std.proofs.lemmas.Bool.{cases_eq, cases_lt}
use Rattle.std.proofs.lemmas.Bool.Decides.{nat_tests}
use Rattle.std.proofs.lemmas.List.{get_or-set_other, get_or-set_same, get_or_past}
use Rattle.std.proofs.Math.Nat.{mul-le-mul_right}
use Rattle.std.proofs.lemmas.Nat.{same_from_place, mul-add-lt}
use Rattle.fabric_tables.specs.Cells.{CellsOf, place_of, port_of, tables_of, with_port}

-- a place is of one switch and LID
one_place : (n s d t e : ℕ) → s < n → t < n → place_of n s d ≡ place_of n t e → (s ≡ t) × (d ≡ e)
one_place n s d t e low other same =
    let outer = same_from_place (d / 64 * n + s) (d % 64) (e / 64 * n + t) (e % 64) 64 (omega arith) (omega arith) same in
    let inner = same_from_place (d / 64) s (e / 64) t n low other outer.0 in
    let a = inner.0 in
    let b = outer.1 in
    (inner.1, omega arith)

both_same : (s d : ℕ) → (s == s && d == d) ≡ true
both_same s d = grind (arith, nat_tests)

not_both : (s d t e : ℕ) → (s ≢ t) ⊎ (d ≢ e) → (s == t && d == e) ≡ false
not_both s d t e (inl other) = grind (arith, nat_tests)
not_both s d t e (inr other) = grind (arith, nat_tests)

is_port : (port : ℕ) → port < 255 → port_of port ≡ Some port
is_port port low = let e : eqb port 255 ≡ false = grind (arith, nat_tests) in ap (λ (b : Bool). cond b None (Some port)) e

module _ (n blocks switch lid port : ℕ) (bytes : List ℕ) (low : switch < n) (here : place_of n switch lid < length bytes) (small : port < 255) where
  abbrev old : CellsOf
  old = record { switches = n; blocks = blocks; bytes = bytes }

  abbrev new : CellsOf
  new = record { switches = n; blocks = blocks; bytes = set bytes (place_of n switch lid) port }

  -- at the place that was put
  at_place : tables_of new switch lid ≡ Some port
  at_place =
      let t : ltb switch n ≡ true = grind (arith, nat_tests) in
      ap (λ (b : Bool). cond b (port_of (get_or (set bytes (place_of n switch lid) port) (place_of n switch lid) 255)) None) t
      ∙ ap port_of (get_or-set_same bytes (place_of n switch lid) port 255 here)
      ∙ is_port port small

  -- at another
  elsewhere : (s d : ℕ) → (s ≢ switch) ⊎ (d ≢ lid) → tables_of new s d ≡ tables_of old s d
  elsewhere s d differs = elim (cases_lt s n) [
    | inl within ↦ (
        let t : ltb s n ≡ true = grind (arith, nat_tests) in
        let apart : place_of n s d ≢ place_of n switch lid = λ same. (let one = one_place n s d switch lid within low same in elim differs [
          | inl other ↦ other one.0
          | inr other ↦ other one.1
        ]) in
        ap (λ (x : ℕ). cond (ltb s n) (port_of x) None) (get_or-set_other bytes (place_of n switch lid) (place_of n s d) port 255 apart))
    | inr past ↦ (
        let f : ltb s n ≡ false = grind (arith, nat_tests) in
        ap (λ (b : Bool). cond b (port_of (get_or (set bytes (place_of n switch lid) port) (place_of n s d) 255)) None) f
        ∙ sym (ap (λ (b : Bool). cond b (port_of (get_or bytes (place_of n s d) 255)) None) f))
  ]

  chosen : (s d : ℕ) (b : Bool) → (s == switch && d == lid) ≡ b → tables_of new s d ≡ cond b (Some port) (tables_of old s d) → tables_of new s d ≡ with_port (tables_of old) switch lid port s d
  chosen s d b is same = same ∙ sym (ap (λ (c : Bool). cond c (Some port) (tables_of old s d)) is)

  pub put_is : (s d : ℕ) → tables_of new s d ≡ with_port (tables_of old) switch lid port s d
  put_is s d = elim (cases_eq s switch) [
    | inl same_switch ↦ elim (cases_eq d lid) [
      | inl same_lid ↦ (
          let e : (s == switch && d == lid) ≡ true = grind (arith, nat_tests) in
          chosen s d true e (ap (λ (t : ℕ). tables_of new t d) same_switch ∙ ap (λ (t : ℕ). tables_of new switch t) same_lid ∙ at_place))
      | inr other ↦ chosen s d false (not_both s d switch lid (inr other)) (elsewhere s d (inr other))
    ]
    | inr other ↦ chosen s d false (not_both s d switch lid (inl other)) (elsewhere s d (inl other))
  ]

  -- a port that stands there is put again
  pub same_put : tables_of old switch lid ≡ Some port → (s d : ℕ) → tables_of old s d ≡ with_port (tables_of old) switch lid port s d
  same_put stands s d = elim (cases_eq s switch) [
    | inl same_switch ↦ elim (cases_eq d lid) [
      | inl same_lid ↦ (
          let e : (s == switch && d == lid) ≡ true = grind (arith, nat_tests) in
          ap (λ (t : ℕ). tables_of old t d) same_switch ∙ ap (λ (t : ℕ). tables_of old switch t) same_lid ∙ stands
          ∙ sym (ap (λ (c : Bool). cond c (Some port) (tables_of old s d)) e))
      | inr other ↦ sym (ap (λ (c : Bool). cond c (Some port) (tables_of old s d)) (not_both s d switch lid (inr other)))
    ]
    | inr other ↦ sym (ap (λ (c : Bool). cond c (Some port) (tables_of old s d)) (not_both s d switch lid (inl other)))
  ]

-- a place is one of the bytes
pub place_low : (n blocks switch lid : ℕ) (bytes : List ℕ) → switch < n → lid < 64 * blocks → length bytes ≡ blocks * n * 64 → place_of n switch lid < length bytes
place_low n blocks switch lid bytes low within count =
    let row : lid / 64 < blocks = omega arith in
    let outer = mul-add-lt (lid / 64) n switch blocks row low in
    omega arith

-- beyond all blocks there are no bytes
pub nothing_past : (n blocks switch lid : ℕ) (bytes : List ℕ) → length bytes ≡ blocks * n * 64 → 64 * blocks ≤ lid → tables_of (record { switches = n; blocks = blocks; bytes = bytes }) switch lid ≡ None
nothing_past n blocks switch lid bytes count past = elim (cases_lt switch n) [
  | inl within ↦ (
      let t : ltb switch n ≡ true = grind (arith, nat_tests) in
      let row : blocks ≤ lid / 64 = omega arith in
      let most = mul-le-mul_right n row in
      let beyond : length bytes ≤ place_of n switch lid = omega arith in
      ap (λ (b : Bool). cond b (port_of (get_or bytes (place_of n switch lid) 255)) None) t ∙ ap port_of (get_or_past bytes (place_of n switch lid) 255 beyond))
  | inr high ↦ (
      let f : ltb switch n ≡ false = grind (arith, nat_tests) in
      ap (λ (b : Bool). cond b (port_of (get_or bytes (place_of n switch lid) 255)) None) f)
]
