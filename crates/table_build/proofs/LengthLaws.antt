use Rattle.std.proofs.Common.{◌≡◌, ◌≢◌, sym, ap, subst, refl, ℕ, zero, suc, ◌+◌, ◌-◌, ◌*◌, ◌<◌, ◌≤◌, List, [], ◌∷◌, ◌++◌, Some, Bool, true, false, cond, arith, length, length-append, append_assoc, inl, inr}
use Rattle.std.proofs.lemmas.List.{append-nil}
use Rattle.std.proofs.lemmas.Bool.{cases_Bool, cases_eq}
use Rattle.std.specs.Ordering.{is_lt}
use Rattle.an_base.specs.Values.{EntryOf}
use Rattle.common_values.proofs.OrderingLemmas.{less_is}
use Rattle.topo_graph.specs.Topology.{far_of, IsGraph, IsTree}
use Rattle.updown.specs.Routes.{is_up_end, height_cmp, LegalRoute, DownRoute}
use Rattle.updown.proofs.RouteLemmas.{height_total, not_both_higher, leads_down, legal_first, legal_none, down_first, down_legal, down_none}
use Rattle.table_build.specs.Exits.{LeadsTo, Begins, may_go_up}
use Rattle.table_build.specs.Laws.{Follows, IsShortest}
use Rattle.table_build.proofs.WayLaws.{entry_up, way_far, way_next, follow_way, follow_nearer, shortest_exit}
use Rattle.table_build.proofs.ShortestLaws.{has_shortest, shortest_route}
use Rattle.table_build.proofs.TreeRoutes.{joined}

-- how many numbers below n pass a test
abbrev count : (ℕ → Bool) → ℕ → ℕ
count P zero = 0
count P (suc n) = cond (P n) 1 0 + count P n

count_le : (P Q : ℕ → Bool) (n : ℕ) → ((i : ℕ) → P i ≡ true → Q i ≡ true) → count P n ≤ count Q n
count_le P Q zero more = omega arith
count_le P Q (suc n) more =
    let rest = count_le P Q n more in
    elim (cases_Bool (P n)) [
      | inl is ↦ (rw (is, more n is) (omega arith))
      | inr not ↦ (rw not (let h : 0 ≤ cond (Q n) 1 0 = omega arith in omega arith))
    ]

count_less : (P Q : ℕ → Bool) (n k : ℕ) → k < n → ((i : ℕ) → P i ≡ true → Q i ≡ true) → P k ≡ false → Q k ≡ true → count P n < count Q n
count_less P Q zero k low more fails holds = absurd (omega arith)
count_less P Q (suc n) k low more fails holds = elim (cases_eq k n) [
  | inl same ↦ (
      let not : P n ≡ false = subst (λ i. P i ≡ false) same fails in
      let is : Q n ≡ true = subst (λ i. Q i ≡ true) same holds in
      let rest = count_le P Q n more in
      rw (not, is) (omega arith))
  | inr other ↦ (
      let rest = count_less P Q n k (omega arith) more fails holds in
      elim (cases_Bool (P n)) [
        | inl is ↦ (rw (is, more n is) (omega arith))
        | inr not ↦ (rw not (let h : 0 ≤ cond (Q n) 1 0 = omega arith in omega arith))
      ])
]

count_all : (n : ℕ) → count (λ i. true) n ≡ n
count_all zero = refl
count_all (suc n) = let e = count_all n in omega arith

-- how many places are higher than x
abbrev higher : List EntryOf → ℕ → ℕ → Bool
higher es x y = is_up_end es y x

abbrev depth : List EntryOf → ℕ → ℕ
depth es x = count (higher es x) (length es)

-- what is higher than a place above x is higher than x
up_more : (es : List EntryOf) (y z x : ℕ) → is_up_end es y z ≡ true → is_up_end es z x ≡ true → is_up_end es y x ≡ true
up_more es y z x first second =
    ap is_lt ((height_total es).trans y z x (less_is (height_cmp es y z) first) (less_is (height_cmp es z x) second))

not_above_itself : (es : List EntryOf) (x : ℕ) → is_up_end es x x ≡ false
not_above_itself es x = elim (cases_Bool (is_up_end es x x)) [
  | inl up ↦ not_both_higher es x x up
  | inr not ↦ not
]

-- a place is below fewer than all, and below more than a place above it
depth_low : (es : List EntryOf) (x : ℕ) → x < length es → depth es x < length es
depth_low es x low = let h = count_less (higher es x) (λ i. true) (length es) x low (λ i _. refl) (not_above_itself es x) refl in let e = count_all (length es) in omega arith

deeper : (es : List EntryOf) (z x : ℕ) → z < length es → is_up_end es z x ≡ true → depth es z < depth es x
deeper es z x low up = count_less (higher es z) (higher es x) (length es) z low (λ i above. up_more es i z x above up) (not_above_itself es z) up

-- a route downward is no longer than the places below its start
down_short : (es : List EntryOf) (x y : ℕ) (ps : List ℕ) → IsGraph es → x < length es → DownRoute es x ps y → length ps + depth es x < length es
down_short es x y [] graph low route = let h = depth_low es x low in omega arith
down_short es x y (p ∷ ps) graph low route =
    let f = down_first es x p ps y route in
    let within = graph.within x p (f.0, f.1) f.2 in
    let less = deeper es x f.0 low (leads_down es x p f.0 f.1 graph f.2 f.3) in
    let rest = down_short es f.0 y ps graph within.far_place f.4 in
    omega arith

-- a legal route is no longer than the places above its start, and then all but one
legal_short : (es : List EntryOf) (x y : ℕ) (ps : List ℕ) → IsGraph es → x < length es → LegalRoute es x ps y → length ps < length es + depth es x
legal_short es x y [] graph low route = omega arith
legal_short es x y (p ∷ ps) graph low route =
    let f = legal_first es x p ps y route in
    let within = graph.within x p (f.0, f.1) f.2 in
    elim f.3 [
      | inl up ↦ (
          let less = deeper es f.0 x within.far_place up.0 in
          let rest = legal_short es f.0 y ps graph within.far_place up.1 in
          omega arith)
      | inr down ↦ (
          let less = deeper es x f.0 low (leads_down es x p f.0 f.1 graph f.2 down.0) in
          let rest = down_short es f.0 y ps graph within.far_place down.1 in
          omega arith)
    ]

-- a way is a legal route
legal_way : (es : List EntryOf) (up : Bool) (x : ℕ) (ps : List ℕ) (y : ℕ) → LeadsTo es up x ps y → LegalRoute es x ps y
legal_way es true x ps y way = way
legal_way es false x ps y way = down_legal es x ps y way

-- no way has twice as many links as there are places
pub way_short : (es : List EntryOf) (up : Bool) (x y : ℕ) (ps : List ℕ) → IsGraph es → x < length es → LeadsTo es up x ps y → length ps < 2 * length es
way_short es up x y ps graph low way =
    let short = legal_short es x y ps graph low (legal_way es up x ps y way) in
    let few = depth_low es x low in
    omega arith

-- so whoever follows exits goes over few links
pub follow_short : (es : List EntryOf) (any : Bool) (y x entry z out : ℕ) (ps : List ℕ) → IsGraph es → x < length es → Follows es any y x entry ps z out → length ps ≤ 2 * (length es - 1)
follow_short es any y x entry z out ps graph low follows =
    let route = legal_way es (may_go_up es x entry) x ps z (follow_way es any y x entry z out ps graph follows) in
    let short = legal_short es x z ps graph low route in
    let few = depth_low es x low in
    omega arith

-- where a way leads from the start, one leads from wherever it is followed to
follow_on : (es : List EntryOf) (any : Bool) (y x entry z out : ℕ) (ps qs : List ℕ) → IsGraph es → LeadsTo es (may_go_up es x entry) x qs y → Follows es any y x entry ps z out → (rs : List ℕ) × LeadsTo es (may_go_up es z out) z rs y
follow_on es any y x entry z out [] qs graph way (same, at) = (qs, subst (λ (w : ℕ). LeadsTo es (may_go_up es w out) w qs y) same (subst (λ (o : ℕ). LeadsTo es (may_go_up es x o) x qs y) at way))
follow_on es any y x entry z out (p ∷ ps) qs graph way (begins, (w, q, e, rest)) =
    let next = way_next es (may_go_up es x entry) x y p w q begins.rest e begins.way in
    follow_on es any y w q z out ps begins.rest graph (subst (λ (u : Bool). LeadsTo es u w begins.rest y) (sym (entry_up es x p w q graph e)) next.0) rest

-- and has an exit there, before the target
pub follow_exit : (es : List EntryOf) (any : Bool) (y x z out : ℕ) (ps : List ℕ) → IsGraph es → IsTree es → x < length es → y < length es → Follows es any y x 0 ps z out → z ≢ y → (p : ℕ) × Begins es any (may_go_up es z out) z y p
follow_exit es any y x z out ps graph tree low low' follows other =
    let route = (joined es x y graph tree low low').1 in
    let on = follow_on es any y x 0 z out ps route.0 graph route.2 follows in
    let shortest = has_shortest es (may_go_up es z out) z y on.0 graph on.1 in
    shortest_exit es any (may_go_up es z out) z y shortest.0 other shortest.1

-- one exit more is followed
follow_more : (es : List EntryOf) (any : Bool) (y x entry z out p w q : ℕ) (ps : List ℕ) → Follows es any y x entry ps z out → Begins es any (may_go_up es z out) z y p → far_of es z p ≡ Some (w, q) → Follows es any y x entry (ps ++ p ∷ []) w q
follow_more es any y x entry z out p w q [] (same, at) begins e =
    let here : Begins es any (may_go_up es x entry) x y p = subst (λ (n : ℕ). Begins es any (may_go_up es n entry) n y p) (sym same) (subst (λ (o : ℕ). Begins es any (may_go_up es z o) z y p) (sym at) begins) in
    (here, (w, q, subst (λ (n : ℕ). far_of es n p ≡ Some (w, q)) (sym same) e, (refl, refl)))
follow_more es any y x entry z out p w q (p' ∷ ps) (first, (v, r, there, rest)) begins e = (first, (v, r, there, follow_more es any y v r z out p w q ps rest begins e))

-- so whoever follows exits from entry 0 comes to the target
module _ (es : List EntryOf) (any : Bool) (x y : ℕ) (graph : IsGraph es) (tree : IsTree es) (low : x < length es) (low' : y < length es) where
  comes_in : (left z out : ℕ) (ps : List ℕ) → 2 * length es ≤ length ps + left → Follows es any y x 0 ps z out → (qs : List ℕ) × (last : ℕ) × Follows es any y x 0 (ps ++ qs) y last
  comes_in zero z out ps few follows = let short = follow_short es any y x 0 z out ps graph low follows in absurd (omega arith)
  comes_in (suc left) z out ps few follows = elim (cases_eq z y) [
    | inl there ↦ ([], out, rw append-nil (subst (λ (n : ℕ). Follows es any y x 0 ps n out) there follows))
    | inr before ↦ (
        let exit = follow_exit es any y x z out ps graph tree low low' follows before in
        let far = way_far es (may_go_up es z out) z y exit.0 exit.1.rest exit.1.way in
        let size = length-append ps (exit.0 ∷ []) in
        let rest = comes_in left far.0 far.1 (ps ++ exit.0 ∷ []) (omega arith) (follow_more es any y x 0 z out exit.0 far.0 far.1 ps follows exit.1 far.2) in
        (exit.0 ∷ rest.0, rest.1, rw append_assoc at rest.2))
  ]

  pub follow_comes : (z out : ℕ) (ps : List ℕ) → Follows es any y x 0 ps z out → (qs : List ℕ) × (last : ℕ) × Follows es any y x 0 (ps ++ qs) y last
  follow_comes z out ps follows = comes_in (2 * length es) z out ps (omega arith) follows

  pub follow_done : (z out : ℕ) (ps : List ℕ) → Follows es any y x 0 ps z out → ((p : ℕ) → Begins es any (may_go_up es z out) z y p → ⊥) → z ≡ y
  follow_done z out ps follows none = elim (cases_eq z y) [
    | inl there ↦ there
    | inr before ↦ absurd (let exit = follow_exit es any y x z out ps graph tree low low' follows before in none exit.0 exit.1)
  ]

-- of shortest ways in as many links as a shortest one has
pub follow_least : (es : List EntryOf) (x y out : ℕ) (ps : List ℕ) → IsGraph es → IsTree es → x < length es → y < length es → Follows es false y x 0 ps y out → IsShortest es true x y (length ps)
follow_least es x y out ps graph tree low low' follows =
    let shortest = shortest_route es x y graph tree low low' in
    let nearer = follow_nearer es y x 0 y out shortest.0 ps graph follows shortest.1 in
    let none = nearer.2.least [] (stay es (may_go_up es y out) y) in
    let same : shortest.0 ≡ length ps = omega arith in
    subst (λ (n : ℕ). IsShortest es true x y n) same shortest.1
  where
    stay : (es : List EntryOf) (up : Bool) (y : ℕ) → LeadsTo es up y [] y
    stay es true y = legal_none es y
    stay es false y = down_none es y
