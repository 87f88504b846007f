-- Ways: their first link, what goes before and behind it, and where they may go up.
use Rattle.std.proofs.Common.{◌≡◌, ◌≢◌, ◌∙◌, sym, ap, subst, refl, ℕ, suc, ◌+◌, ◌≤◌, List, [], ◌∷◌, Some, Bool, true, false, arith, length, ◌==◌, inl, inr}
use Rattle.std.proofs.lemmas.Bool.Decides.{nat_tests}
use Rattle.an_base.specs.Values.{EntryOf}
use Rattle.topo_graph.specs.Topology.{far_of, IsGraph}
use Rattle.topo_graph.proofs.FarLemmas.{one_far, far_back}
use Rattle.updown.specs.Routes.{is_up_end}
use Rattle.updown.proofs.RouteLemmas.{legal_first, legal_up, legal_down, down_first, down_more, legal_none, down_none}
use Rattle.table_build.specs.Exits.{LeadsTo, Begins, may_go_up}
use Rattle.table_build.specs.Laws.{IsShortest, Follows}

not_zero : (q : ℕ) → 1 ≤ q → (q == 0) ≡ false
not_zero q least = grind (arith, nat_tests)

-- what a link brings may go up where it came up
pub entry_up : (es : List EntryOf) (x p z q : ℕ) → IsGraph es → far_of es x p ≡ Some (z, q) → may_go_up es z q ≡ is_up_end es z x
entry_up es x p z q graph e =
    let back = far_back es x p z q graph e in
    let within = graph.within z q (x, p) back in
    rw (not_zero q within.port_least, back) refl

-- a way goes up only where it may
abbrev pub May : Bool → Bool → Type 0
May up link = link ≡ true → up ≡ true

-- behind its first link a way is one again
pub way_next : (es : List EntryOf) (up : Bool) (x to p z q : ℕ) (ps : List ℕ) → far_of es x p ≡ Some (z, q) → LeadsTo es up x (p ∷ ps) to → LeadsTo es (is_up_end es z x) z ps to × May up (is_up_end es z x)
way_next es true x to p z q ps e way =
    let f = legal_first es x p ps to way in
    let same = one_far es x p f.0 f.1 z q f.2 e in (
      elim f.3 [
        | inl up ↦ (let is : is_up_end es z x ≡ true = subst (λ (w : ℕ). is_up_end es w x ≡ true) same up.0 in rw is (subst (λ (w : ℕ). LeadsTo es true w ps to) same up.1))
        | inr down ↦ (let is : is_up_end es z x ≡ false = subst (λ (w : ℕ). is_up_end es w x ≡ false) same down.0 in rw is (subst (λ (w : ℕ). LeadsTo es false w ps to) same down.1))
      ],
      λ _. refl,
    )
way_next es false x to p z q ps e way =
    let f = down_first es x p ps to way in
    let same = one_far es x p f.0 f.1 z q f.2 e in
    let is : is_up_end es z x ≡ false = subst (λ (w : ℕ). is_up_end es w x ≡ false) same f.3 in
    (rw is (subst (λ (w : ℕ). LeadsTo es false w ps to) same f.4), λ up. absurd (cc))

-- and a link goes before a way
pub way_before : (es : List EntryOf) (up link : Bool) (x to p z q : ℕ) (ps : List ℕ) → far_of es x p ≡ Some (z, q) → is_up_end es z x ≡ link → May up link → LeadsTo es link z ps to → LeadsTo es up x (p ∷ ps) to
way_before es true true x to p z q ps e is may way = legal_up es x p ps to z q e is way
way_before es true false x to p z q ps e is may way = legal_down es x p ps to z q e is way
way_before es false true x to p z q ps e is may way = absurd (let f = may refl in cc)
way_before es false false x to p z q ps e is may way = down_more es x p ps to z q e is way

-- the first port of a way has a link
pub way_far : (es : List EntryOf) (up : Bool) (x to p : ℕ) (ps : List ℕ) → LeadsTo es up x (p ∷ ps) to → (z q : ℕ) × (far_of es x p ≡ Some (z, q))
way_far es true x to p ps way = let f = legal_first es x p ps to way in (f.0, f.1, f.2)
way_far es false x to p ps way = let f = down_first es x p ps to way in (f.0, f.1, f.2)

-- each exit of a shortest way is one link nearer
pub nearer : (es : List EntryOf) (up : Bool) (x y p z q n : ℕ) → IsGraph es → Begins es false up x y p → far_of es x p ≡ Some (z, q) → IsShortest es up x y n → (m : ℕ) × (n ≡ m + 1) × IsShortest es (may_go_up es z q) z y m
nearer es up x y p z q n graph begins e shortest =
    let rest = begins.rest in
    let next = way_next es up x y p z q rest e begins.way in
    let low : n ≤ suc (length rest) = shortest.least (p ∷ rest) begins.way in
    let high : length rest + 1 ≤ length shortest.ports = begins.least refl shortest.ports shortest.way in
    let count : length shortest.ports ≡ n = shortest.count in
    let flag = entry_up es x p z q graph e in (
      length rest,
      omega arith,
      rw flag (record {
        ports = rest;
        count = refl;
        way = next.0;
        least = λ ps way. let h = shortest.least (p ∷ ps) (way_before es up (is_up_end es z x) x y p z q ps e refl next.1 way) in omega arith;
      }),
    )

-- a shortest way begins at an exit
pub shortest_exit : (es : List EntryOf) (any up : Bool) (x y n : ℕ) → x ≢ y → IsShortest es up x y n → (p : ℕ) × Begins es any up x y p
shortest_exit es any up x y n other shortest = go up shortest.ports refl shortest.way
  where
    nowhere : (u : Bool) → LeadsTo es u x [] y → x ≡ y
    nowhere true way = way.route
    nowhere false way = way.route

    go : (u : Bool) (ps : List ℕ) → shortest.ports ≡ ps → LeadsTo es up x ps y → (p : ℕ) × Begins es any up x y p
    go u [] is way = absurd (other (nowhere up way))
    go u (p ∷ rest) is way =
        let count : length (p ∷ rest) ≡ n = sym (ap length is) ∙ shortest.count in
        (p, record { other = other; rest = rest; way = way; least = λ _ ps lead. let h = shortest.least ps lead in omega arith })

-- what came down goes down alone
pub stays_down : (es : List EntryOf) (any : Bool) (x y p z q : ℕ) → IsGraph es → Begins es any false x y p → far_of es x p ≡ Some (z, q) → may_go_up es z q ≡ false
stays_down es any x y p z q graph begins e =
    let f = down_first es x p begins.rest y begins.way in
    let same = one_far es x p f.0 f.1 z q f.2 e in
    entry_up es x p z q graph e ∙ subst (λ (w : ℕ). is_up_end es w x ≡ false) same f.3

-- to follow exits is to go a way
pub follow_way : (es : List EntryOf) (any : Bool) (y x entry z out : ℕ) (ps : List ℕ) → IsGraph es → Follows es any y x entry ps z out → LeadsTo es (may_go_up es x entry) x ps z
follow_way es any y x entry z out [] graph (same, _) = stay (may_go_up es x entry)
  where
    stay : (u : Bool) → LeadsTo es u x [] z
    stay true = subst (λ (w : ℕ). LeadsTo es true x [] w) same (legal_none es x)
    stay false = subst (λ (w : ℕ). LeadsTo es false x [] w) same (down_none es x)
follow_way es any y x entry z out (p ∷ ps) graph (begins, (w, q, e, rest)) =
    let next = way_next es (may_go_up es x entry) x y p w q begins.rest e begins.way in
    let way : LeadsTo es (is_up_end es w x) w ps z = subst (λ (u : Bool). LeadsTo es u w ps z) (entry_up es x p w q graph e) (follow_way es any y w q z out ps graph rest) in
    way_before es (may_go_up es x entry) (is_up_end es w x) x z p w q ps e refl next.1 way

-- and comes nearer with each link
pub follow_nearer : (es : List EntryOf) (y x entry z out n : ℕ) (ps : List ℕ) → IsGraph es → Follows es false y x entry ps z out → IsShortest es (may_go_up es x entry) x y n → (m : ℕ) × (n ≡ length ps + m) × IsShortest es (may_go_up es z out) z y m
follow_nearer es y x entry z out n [] graph (same, at) shortest =
    (n, omega arith, subst (λ (w : ℕ). IsShortest es (may_go_up es w out) w y n) same (subst (λ (o : ℕ). IsShortest es (may_go_up es x o) x y n) at shortest))
follow_nearer es y x entry z out n (p ∷ ps) graph (begins, (w, q, e, rest)) shortest =
    let one = nearer es (may_go_up es x entry) x y p w q n graph begins e shortest in
    let more = follow_nearer es y w q z out one.0 ps graph rest one.2 in
    let a = one.1 in
    let b = more.1 in
    (more.0, omega arith, more.2)
