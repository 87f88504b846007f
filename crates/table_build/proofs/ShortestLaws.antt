use Rattle.std.proofs.Common.{◌≡◌, ◌≢◌, sym, subst, refl, ℕ, zero, suc, ◌<◌, ◌≤◌, List, [], ◌∷◌, Option, Some, None, Bool, true, false, arith, length, Contains, ◌⊎◌, inl, inr, ◌&&◌}
use Rattle.std.specs.Prelude.{if◌then◌else◌}
use Rattle.std.specs.List.{list_any}
use Rattle.std.specs.Option.{option_map_or}
use Rattle.std.proofs.lemmas.Bool.{cases_Bool, cases_eq, cases_lt, and_parts, and_from, eqb-true, eq-eqb}
use Rattle.std.proofs.lemmas.List.Folds.{Any-from_list_any, list_any_at}
use Rattle.an_base.specs.Values.{EntryOf}
use Rattle.topo_graph.specs.Topology.{far_of, IsGraph, IsTree}
use Rattle.updown.specs.Routes.{is_up_end}
use Rattle.updown.proofs.RouteLemmas.{legal_none, down_none}
use Rattle.table_build.specs.Exits.{LeadsTo, Begins}
use Rattle.table_build.specs.Laws.{IsShortest}
use Rattle.table_build.proofs.WayLaws.{May, way_far, way_next, way_before, shortest_exit}
use Rattle.table_build.proofs.TreeRoutes.{joined}
use Rattle.table_build.specs.Made.{exit_ports, leads_in}
use Rattle.table_build.proofs.MadeLists.{in_range}

-- whether a link goes on to y, with n links behind it
abbrev goes_on : List EntryOf → ℕ → ℕ → Bool → ℕ → ℕ × ℕ → Bool
goes_on es y n up x far = if is_up_end es far.0 x then (up && leads_in es y n true far.0) else leads_in es y n false far.0

-- whether a port does
abbrev by_port : List EntryOf → ℕ → ℕ → Bool → ℕ → ℕ → Bool
by_port es y n up x p = option_map_or (goes_on es y n up x) (far_of es x p) false

-- no ports are a way
stay : (es : List EntryOf) (up : Bool) (x y : ℕ) → x ≡ y → LeadsTo es up x [] y
stay es true x y same = subst (λ (w : ℕ). LeadsTo es true x [] w) same (legal_none es x)
stay es false x y same = subst (λ (w : ℕ). LeadsTo es false x [] w) same (down_none es x)

-- a way that is found
pub found : (es : List EntryOf) (y n : ℕ) (up : Bool) (x : ℕ) → leads_in es y n up x ≡ true → (ps : List ℕ) × (length ps ≡ n) × LeadsTo es up x ps y
found es y zero up x test = ([], refl, stay es up x y (eqb-true x y test))
found es y (suc n) up x test =
    let any = Any-from_list_any (by_port es y n up x) exit_ports test in
    go (λ u z t. found es y n u z t) any.1 (far_of es x any.1) refl any.4
  where
    go : ((u : Bool) (z : ℕ) → leads_in es y n u z ≡ true → (ps : List ℕ) × (length ps ≡ n) × LeadsTo es u z ps y) → (p : ℕ) (o : Option (ℕ × ℕ)) → far_of es x p ≡ o → option_map_or (goes_on es y n up x) o false ≡ true → (ps : List ℕ) × (length ps ≡ suc n) × LeadsTo es up x ps y
    go on p None e t = absurd (cc)
    go on p (Some (z, q)) e t = elim (cases_Bool (is_up_end es z x)) [
      | inl is ↦ (
          let f : (up && leads_in es y n true z) ≡ true = rw is at t in
          let parts = and_parts up (leads_in es y n true z) f in
          let rest = on true z parts.1 in
          (p ∷ rest.0, let l = rest.1 in omega arith, way_before es up true x y p z q rest.0 e is (λ _. parts.0) rest.2))
      | inr level ↦ (
          let f : leads_in es y n false z ≡ true = rw level at t in
          let rest = on false z f in
          (p ∷ rest.0, let l = rest.1 in omega arith, way_before es up false x y p z q rest.0 e level (λ bad. absurd (cc)) rest.2))
    ]

-- an external port
pub external : (p : ℕ) → 1 ≤ p → p ≤ 12 → Contains exit_ports p
external p least most = in_range 1 12 p least (omega arith)

-- what passes somewhere passes
pub passes_any : (q : ℕ → Bool) (xs : List ℕ) (p : ℕ) → Contains xs p → q p ≡ true → list_any q xs ≡ true
passes_any q xs p (k, low, e) t = list_any_at q xs k p low (subst (λ (r : ℕ). q r ≡ true) (sym e) t)

-- and each way is found
pub finds : (es : List EntryOf) (y : ℕ) (up : Bool) (x : ℕ) (ps : List ℕ) → IsGraph es → LeadsTo es up x ps y → leads_in es y (length ps) up x ≡ true
finds es y up x [] graph way = eq-eqb x y (here up way)
  where
    here : (u : Bool) → LeadsTo es u x [] y → x ≡ y
    here true w = w.route
    here false w = w.route
finds es y up x (p ∷ ps) graph way =
    let far = way_far es up x y p ps way in
    let within = graph.within x p (far.0, far.1) far.2 in
    let next = way_next es up x y p far.0 far.1 ps far.2 way in
    let rest = finds es y (is_up_end es far.0 x) far.0 ps graph next.0 in
    passes_any (by_port es y (length ps) up x) exit_ports p (external p within.port_least within.port_most)
    (subst (λ (o : Option (ℕ × ℕ)). option_map_or (goes_on es y (length ps) up x) o false ≡ true) (sym far.2) (go far.0 far.1 (is_up_end es far.0 x) refl next.1 rest))
  where
    go : (z q : ℕ) (u : Bool) → is_up_end es z x ≡ u → May up u → leads_in es y (length ps) u z ≡ true → goes_on es y (length ps) up x (z, q) ≡ true
    go z q true is may rest = rw is (and_from up (leads_in es y (length ps) true z) (may refl) rest)
    go z q false is may rest = rw is rest

-- the least number that passes a test, below end
search_least : (P : ℕ → Bool) (end : ℕ) → ((m : ℕ) × (P m ≡ true) × ((k : ℕ) → k < m → P k ≡ false)) ⊎ ((k : ℕ) → k < end → P k ≡ false)
search_least P zero = inr (λ k low. absurd (omega arith))
search_least P (suc end) = elim (search_least P end) [
  | inl least ↦ inl least
  | inr none ↦ elim (cases_Bool (P end)) [
    | inl here ↦ inl (end, here, none)
    | inr fails ↦ inr (λ k low. elim (cases_eq k end) [
      | inl same ↦ rw same fails
      | inr other ↦ none k (omega arith)
    ])
  ]
]

-- where a way leads, a shortest one does
pub has_shortest : (es : List EntryOf) (up : Bool) (x y : ℕ) (ps : List ℕ) → IsGraph es → LeadsTo es up x ps y → (n : ℕ) × IsShortest es up x y n
has_shortest es up x y ps graph way = elim (search_least (λ n. leads_in es y n up x) (suc (length ps))) [
  | inl least ↦ (
      let shortest = found es y least.0 up x least.1 in (
        least.0,
        record {
          ports = shortest.0;
          count = shortest.1;
          way = shortest.2;
          least = λ qs lead. elim (cases_lt (length qs) least.0) [
            | inl less ↦ absurd (let a = finds es y up x qs graph lead in let b = least.2 (length qs) less in cc)
            | inr more ↦ more
          ];
        },
      ))
  | inr none ↦ absurd (let a = finds es y up x ps graph way in let b = none (length ps) (omega arith) in cc)
]

-- so each member has exits to each other one
pub shortest_route : (es : List EntryOf) (x y : ℕ) → IsGraph es → IsTree es → x < length es → y < length es → (n : ℕ) × IsShortest es true x y n
shortest_route es x y graph tree low low' = let r = joined es x y graph tree low low' in has_shortest es true x y r.1.0 graph r.1.2

pub member_exit : (es : List EntryOf) (any : Bool) (x y : ℕ) → IsGraph es → IsTree es → x < length es → y < length es → x ≢ y → (p : ℕ) × Begins es any true x y p
member_exit es any x y graph tree low low' other = let s = shortest_route es x y graph tree low low' in shortest_exit es any true x y s.0 other s.1
