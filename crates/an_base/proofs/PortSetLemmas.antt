-- Sets of ports, as bits of a number, and the lists of their ports.
use Rattle.std.proofs.Common.{◌≡◌, ◌≢◌, ◌∙◌, sym, ap, subst, refl, ℕ, zero, suc, ◌+◌, ◌*◌, ◌%◌, ◌^◌, ◌<◌, ◌≤◌, ◌==◌, List, [], ◌∷◌, ◌++◌, Bool, arith, length, inl, inr, ◌⊎◌, ◌↔◌}
use Rattle.std.specs.Prelude.{All, Contains}
use Rattle.std.specs.Int.{bit_at, bit_not, w16, trailing_zeros}
use Rattle.std.specs.Int.RustNames.{bit_and, bit_or}
use Rattle.std.specs.List.{range_with_len}
use Rattle.std.proofs.lemmas.Bool.{cases_Bool, cases_eq, cases_lt, eq-eqb, eqb-true}
use Rattle.std.proofs.lemmas.List.Elements.{All-contains, Contains-append_left, Contains-push, Contains-push_cases}
use Rattle.std.proofs.lemmas.List.Quantifiers.{all_pairs_push}
use Rattle.std.proofs.lemmas.Nat.{and_le_l}
use Rattle.std.proofs.lemmas.Nat.Bits.{bit_at-zero, bit_at_above, bit_at_and, bit_at_mask_inside, bit_at_mask_below, bit_at_mask_above, bit_at_set_same, bit_at_set_other, bit_at_clear_same, bit_at_clear_other, bit_at-lt, bit_at-trailing_zeros, same_from_bits}
use Rattle.an_base.specs.Rows.{ArePorts, ExitsRise, HasPortsAlone, IsWithout, ports_of}
use Rattle.common_values.proofs.ListLemmas.{AllPairs-head, AllPairs-tail, All-from_members}
use Rattle.common_values.proofs.MemberLemmas.{Contains-here, Contains-later}
use Rattle.common_values.proofs.RangeLemmas.{Contains-kept, in_range, kept_member, kept_passes, kept_range, range_rises, within_range}

-- the ports of a set are those whose bits are set
pub port_is : (set p : ℕ) → Contains (ports_of set) p → (1 ≤ p) × (p ≤ 12) × (bit_at set p ≡ 1)
unfolding ports_of
port_is set p has =
    let test : ℕ → Bool = λ port. bit_at set port == 1 in
    let within = within_range 12 1 p (kept_member test (range_with_len 1 12) p has) in
    (within.0, (let most = within.1 in omega arith), eqb-true (bit_at set p) 1 (kept_passes test (range_with_len 1 12) p has))

pub is_port : (set p : ℕ) → 1 ≤ p → p ≤ 12 → bit_at set p ≡ 1 → Contains (ports_of set) p
unfolding ports_of
is_port set p least most is = Contains-kept (λ port. bit_at set port == 1) (range_with_len 1 12) p (in_range 12 1 p least (omega arith)) (eq-eqb (bit_at set p) 1 is)

pub ports_rise : (set : ℕ) → ExitsRise (ports_of set)
unfolding ports_of
ports_rise set = range_rises (λ port. bit_at set port == 1) 12 1

pub ports_are : (set : ℕ) → ArePorts (ports_of set)
ports_are set = All-from_members (λ port. (1 ≤ port) × (port ≤ 12)) (ports_of set) (λ p has. let h = port_is set p has in (h.0, h.1))

-- a rising list of the same ports is the same
pub same_ports : (set : ℕ) (xs : List ℕ) → ExitsRise xs → ((p : ℕ) → Contains xs p → (1 ≤ p) × (p ≤ 12) × (bit_at set p ≡ 1)) → ((p : ℕ) → 1 ≤ p → p ≤ 12 → bit_at set p ≡ 1 → Contains xs p) → ports_of set ≡ xs
unfolding ports_of
same_ports set xs rise has only = kept_range (λ port. bit_at set port == 1) 12 1 xs rise
    (λ p there. let h = has p there in (h.0, (let most = h.1 in omega arith), eq-eqb (bit_at set p) 1 h.2))
    (λ p least most passes. only p least (omega arith) (eqb-true (bit_at set p) 1 passes))

-- where a set has ports alone, each bit is a port
pub bit_ports : (set p : ℕ) → HasPortsAlone set → ((bit_at set p ≡ 1) ↔ Contains (ports_of set) p)
bit_ports set p alone = (λ is. let h = alone p is in is_port set p h.0 h.1 is, λ has. (port_is set p has).2)

-- no bit of the empty set
pub no_bit : (set p : ℕ) → set ≡ 0 → bit_at set p ≡ 1 → ⊥
no_bit set p none is = absurd (let z = bit_at-zero p in let e : bit_at set p ≡ bit_at 0 p = ap (λ (n : ℕ). bit_at n p) none in omega arith)

pub no_ports : ports_of 0 ≡ []
no_ports = same_ports 0 [] (λ i j d less low. absurd (omega arith)) (λ p has. absurd (let l = has.1 in omega arith)) (λ p least most is. absurd (no_bit 0 p refl is))

pub none_alone : HasPortsAlone 0
none_alone p is = absurd (no_bit 0 p refl is)

-- the lowest port
pub lowest_is : (set : ℕ) → set ≢ 0 → set < 2 ^ 16 → (bit_at set (trailing_zeros w16 set) ≡ 1) × ((p : ℕ) → bit_at set p ≡ 1 → trailing_zeros w16 set ≤ p) × (trailing_zeros w16 set < 16)
lowest_is set some fits =
    let h = bit_at-trailing_zeros w16 set (omega arith) fits in (
      h.1,
      λ p is. elim (cases_lt p (trailing_zeros w16 set)) [
        | inl before ↦ absurd (let z = h.2 p before in omega arith)
        | inr after ↦ omega arith
      ],
      h.0,
    )

-- a set without one port
abbrev pub cleared : ℕ → ℕ → ℕ
cleared set port = bit_and set (bit_not w16 (1 * 2 ^ port % 2 ^ 16))

pub cleared_is : (set port : ℕ) → set < 2 ^ 16 → port < 16 → IsWithout set port (cleared set port)
cleared_is set port fits low p = elim (cases_eq p port) [
  | inl same ↦ (
    λ is. absurd (let z = bit_at_clear_same w16 set port low in let e : bit_at (cleared set port) p ≡ bit_at (cleared set port) port = ap (bit_at (cleared set port)) same in omega arith),
    λ both. absurd (both.1 same),
  )
  | inr other ↦ elim (cases_lt p 16) [
    | inl p_low ↦ (let e = bit_at_clear_other w16 set port low p p_low other in (λ is. (sym e ∙ is, other), λ both. e ∙ both.0))
    | inr high ↦ (
        let z = bit_at_above set 16 p fits high in
        let le = and_le_l set (bit_not w16 (1 * 2 ^ port % 2 ^ 16)) in
        let small : cleared set port < 2 ^ 16 = omega arith in
        let y = bit_at_above (cleared set port) 16 p small high in
        (λ is. absurd (omega arith), λ both. absurd (let b = both.0 in omega arith)))
  ]
]

pub cleared_less : (set port : ℕ) → port < 16 → bit_at set port ≡ 1 → cleared set port < set
cleared_less set port low has =
    let le = and_le_l set (bit_not w16 (1 * 2 ^ port % 2 ^ 16)) in
    elim (cases_eq (cleared set port) set) [
      | inl same ↦ absurd (let z = bit_at_clear_same w16 set port low in let e : bit_at (cleared set port) port ≡ bit_at set port = ap (λ (n : ℕ). bit_at n port) same in omega arith)
      | inr other ↦ omega arith
    ]

-- the ports of a set, and none of its other bits
abbrev pub ports_alone : ℕ → ℕ
ports_alone set = bit_and set 8190

pub alone_is : (set : ℕ) → HasPortsAlone (ports_alone set)
alone_is set p is =
    let e = bit_at_and set 8190 p in
    elim (cases_lt p 1) [
      | inl none ↦ absurd (let z : bit_at 8190 p ≡ 0 = bit_at_mask_below 1 13 p none in omega arith)
      | inr some ↦ elim (cases_lt p 13) [
        | inl low ↦ (omega arith, omega arith)
        | inr high ↦ absurd (let z : bit_at 8190 p ≡ 0 = bit_at_mask_above 1 13 p (omega arith) in omega arith)
      ]
    ]

alone_bit : (set p : ℕ) → 1 ≤ p → p ≤ 12 → bit_at (ports_alone set) p ≡ bit_at set p
alone_bit set p least most =
    let e = bit_at_and set 8190 p in
    let one : bit_at 8190 p ≡ 1 = bit_at_mask_inside 1 13 p least (omega arith) in
    let below = bit_at-lt set p in
    omega arith

pub alone_same : (set : ℕ) → ports_of (ports_alone set) ≡ ports_of set
alone_same set = same_ports (ports_alone set) (ports_of set) (ports_rise set)
    (λ p has. let h = port_is set p has in (h.0, h.1, alone_bit set p h.0 h.1 ∙ h.2))
    (λ p least most is. is_port set p least most (sym (alone_bit set p least most) ∙ is))

-- a set with one more port
abbrev pub added : ℕ → ℕ → ℕ
added set port = bit_or set (1 * 2 ^ port % 2 ^ 16)

added_bit : (set port p : ℕ) → port ≤ 12 → bit_at (added set port) p ≡ 1 → (bit_at set p ≡ 1) ⊎ (p ≡ port)
added_bit set port p most is = elim (cases_eq p port) [
  | inl same ↦ inr same
  | inr other ↦ inl (sym (bit_at_set_other w16 set port (omega arith) p other) ∙ is)
]

bit_added : (set port p : ℕ) → port ≤ 12 → bit_at set p ≡ 1 → bit_at (added set port) p ≡ 1
bit_added set port p most is = elim (cases_eq p port) [
  | inl same ↦ subst (λ (q : ℕ). bit_at (added set port) q ≡ 1) (sym same) (bit_at_set_same w16 set port (omega arith))
  | inr other ↦ bit_at_set_other w16 set port (omega arith) p other ∙ is
]

pub added_alone : (set port : ℕ) → HasPortsAlone set → 1 ≤ port → port ≤ 12 → HasPortsAlone (added set port)
added_alone set port alone least most p is = elim (added_bit set port p most is) [
  | inl before ↦ alone p before
  | inr here ↦ (omega arith, omega arith)
]

pub added_last : (set port : ℕ) → 1 ≤ port → port ≤ 12 → All (λ p. p < port) (ports_of set) → ports_of (added set port) ≡ ports_of set ++ port ∷ []
added_last set port least most rising = same_ports (added set port) (ports_of set ++ port ∷ [])
    (all_pairs_push (λ before after. before < after) (ports_of set) port (ports_rise set) rising)
    (λ p has. elim (Contains-push_cases (ports_of set) port p has) [
      | inl before ↦ (let h = port_is set p before in (h.0, h.1, bit_added set port p most h.2))
      | inr here ↦ (omega arith, omega arith, subst (λ (q : ℕ). bit_at (added set port) q ≡ 1) here (bit_at_set_same w16 set port (omega arith)))
    ])
    (λ p low high is. elim (added_bit set port p most is) [
      | inl before ↦ Contains-append_left (ports_of set) (port ∷ []) p (is_port set p low high before)
      | inr here ↦ subst (λ (q : ℕ). Contains (ports_of set ++ port ∷ []) q) (sym here) (Contains-push (ports_of set) port)
    ])

-- a set is empty where it has no ports
no_bits : (set : ℕ) → HasPortsAlone set → length (ports_of set) ≡ 0 → set ≡ 0
no_bits set alone none = same_from_bits set 0 bit
  where
    bit : (p : ℕ) → bit_at set p ≡ bit_at 0 p
    bit p =
        let below = bit_at-lt set p in
        let zero = bit_at-zero p in
        elim (cases_eq (bit_at set p) 1) [
          | inl is ↦ absurd (let has = (bit_ports set p alone).0 is in let low = has.1 in omega arith)
          | inr other ↦ omega arith
        ]

pub empty_is : (set : ℕ) → HasPortsAlone set → (set == 0) ≡ (length (ports_of set) == 0)
empty_is set alone = elim (cases_eq (length (ports_of set)) 0) [
  | inl none ↦ eq-eqb set 0 (no_bits set alone none) ∙ sym (eq-eqb (length (ports_of set)) 0 none)
  | inr some ↦ both_some set (length (ports_of set)) (λ none. some (ap (λ (n : ℕ). length (ports_of n)) none ∙ ap (λ (xs : List ℕ). length xs) no_ports)) some
]
  where
    both_some : (a b : ℕ) → a ≢ 0 → b ≢ 0 → (a == 0) ≡ (b == 0)
    both_some a b some other = elim (cases_Bool (a == 0)) [
      | inl none ↦ absurd (some (eqb-true a 0 none))
      | inr first ↦ elim (cases_Bool (b == 0)) [
        | inl none ↦ absurd (other (eqb-true b 0 none))
        | inr second ↦ first ∙ sym second
      ]
    ]

-- a rising list of numbers of a range is no longer than the range
pub rising_few : (n a : ℕ) (xs : List ℕ) → ExitsRise xs → ((x : ℕ) → Contains xs x → (a ≤ x) × (x < a + n)) → length xs ≤ n
rising_few zero a [] rise within = omega arith
rising_few zero a (x ∷ xs) rise within = absurd (let h = within x (Contains-here x xs) in omega arith)
rising_few (suc n) a [] rise within = omega arith
rising_few (suc n) a (x ∷ xs) rise within =
    let first = within x (Contains-here x xs) in
    let rest = rising_few n (a + 1) xs (AllPairs-tail (λ before after. before < after) x xs rise) (λ y has.
    let after : x < y = All-contains (λ (y : ℕ). x < y) xs y (AllPairs-head (λ before after. before < after) x xs rise) has in
    let h = within y (Contains-later x y xs has) in
    (omega arith, omega arith)) in
    omega arith

-- the ports of a set that are not left, one after the other
pub record IsListed (set left : ℕ) (ports : List ℕ) : Type 0 where
  pub within : (p : ℕ) → bit_at left p ≡ 1 → bit_at set p ≡ 1
  pub only : (p : ℕ) → Contains ports p → bit_at set p ≡ 1
  pub whole : (p : ℕ) → bit_at set p ≡ 1 → (bit_at left p ≡ 1) ⊎ Contains ports p
  pub before : (p q : ℕ) → Contains ports p → bit_at left q ≡ 1 → p < q
  pub rising : ExitsRise ports

pub none_listed : (set : ℕ) → IsListed set set []
none_listed set = record {
  within = λ p is. is;
  only = λ p has. absurd (let l = has.1 in omega arith);
  whole = λ p is. inl is;
  before = λ p q has is. absurd (let l = has.1 in omega arith);
  rising = λ i j d less low. absurd (omega arith);
}

-- a port that is left is above them
pub listed_below : (set left port : ℕ) (ports : List ℕ) → IsListed set left ports → bit_at left port ≡ 1 → All (λ p. p < port) ports
listed_below set left port ports listed is = All-from_members (λ (p : ℕ). p < port) ports (λ p has. listed.before p port has is)

-- so there is room for it
pub listed_room : (set left port : ℕ) (ports : List ℕ) → HasPortsAlone set → IsListed set left ports → bit_at left port ≡ 1 → length ports < 12
listed_room set left port ports alone listed is =
    let most = alone port (listed.within port is) in
    let few = rising_few 11 1 ports listed.rising (λ x has. let low = alone x (listed.only x has) in let below = listed.before x port has is in (low.0, (let high = most.1 in omega arith))) in
    omega arith

-- one more of them
pub one_listed : (set left port new : ℕ) (ports : List ℕ) → IsListed set left ports → bit_at left port ≡ 1 → ((p : ℕ) → bit_at left p ≡ 1 → port ≤ p) → IsWithout left port new → IsListed set new (ports ++ port ∷ [])
one_listed set left port new ports listed is least without = record {
  within = λ p has. listed.within p ((without p).0 has).0;
  only = λ p has. elim (Contains-push_cases ports port p has) [
    | inl earlier ↦ listed.only p earlier
    | inr here ↦ subst (λ (q : ℕ). bit_at set q ≡ 1) here (listed.within port is)
  ];
  whole = λ p has. elim (listed.whole p has) [
    | inl still ↦ elim (cases_eq p port) [
      | inl here ↦ inr (subst (λ (q : ℕ). Contains (ports ++ port ∷ []) q) (sym here) (Contains-push ports port))
      | inr other ↦ inl ((without p).1 (still, other))
    ]
    | inr earlier ↦ inr (Contains-append_left ports (port ∷ []) p earlier)
  ];
  before = λ p q has later.
      let left_q = (without q).0 later in
      elim (Contains-push_cases ports port p has) [
        | inl earlier ↦ listed.before p q earlier left_q.0
        | inr here ↦ (let at_least = least q left_q.0 in let other = left_q.1 in omega arith)
      ];
  rising = all_pairs_push (λ before after. before < after) ports port listed.rising (listed_below set left port ports listed is);
}

-- where none is left they are the ports of the set
pub all_listed : (set left : ℕ) (ports : List ℕ) → HasPortsAlone set → IsListed set left ports → left ≡ 0 → ports ≡ ports_of set
all_listed set left ports alone listed none = sym (same_ports set ports listed.rising
    (λ p has. let is = listed.only p has in let h = alone p is in (h.0, h.1, is))
    (λ p least most is. elim (listed.whole p is) [
      | inl still ↦ absurd (no_bit left p none still)
      | inr has ↦ has
    ]))
