-- The sets of an exit table are those of the rows of all members.
use Rattle.std.proofs.Common.{◌≡◌, ◌≢◌, ◌∙◌, sym, ap, subst, refl, ℕ, zero, suc, ◌+◌, ◌*◌, ◌/◌, ◌%◌, ◌<◌, ◌≤◌, List, [], ◌∷◌, ◌++◌, Bool, true, false, arith, length, length-append, get_or, set, take, inl, inr, ◌⊎◌, ◌==◌, if◌then◌else◌}
use Rattle.std.specs.Prelude.{All, Any, Contains, replicate, slice_index, ◌↔◌}
use Rattle.std.specs.Int.{bit_at}
use Rattle.std.specs.List.{flat_map, list_any, range_with_len}
use Rattle.std.proofs.lemmas.Bool.{cases_eq, eq-eqb, eqb-true}
use Rattle.std.proofs.lemmas.List.{get_or-append-add, get_or-replicate, get_or-set_same, get_or-set_other, get_or_append_left, get_or_default, get_or_push, length-replicate, length-set, length_push, take_more}
use Rattle.std.proofs.lemmas.List.Elements.{All-contains, All-get_or, All-push, All-replicate, All-weaker, Contains-push_cases}
use Rattle.std.proofs.lemmas.List.Quantifiers.{Any-push}
use Rattle.std.proofs.lemmas.List.FromFn.{get_or-map-range_with_len, length-map-range_with_len}
use Rattle.std.proofs.lemmas.Nat.Bits.{bit_at-zero}
use Rattle.an_base.specs.Numbers.{AreNumbers}
use Rattle.an_base.specs.Rows.{ArePorts, RowOf}
use Rattle.an_base.specs.Values.{EntryOf}
use Rattle.common_values.proofs.ListLemmas.{Any-front}
use Rattle.common_values.proofs.RangeLemmas.{kept_member, kept_range, range_rises, within_range}
use Rattle.topo_graph.specs.Topology.{IsGraph, far_of}
use Rattle.table_build.specs.declared.way.Way.{Way}
use Rattle.table_build.specs.Exits.{Begins, IsEntry, may_go_up}
use Rattle.table_build.specs.Tables.{AreWays, IsRow, IsWay}
use Rattle.table_build.proofs.WayLaws.{way_far}
use Rattle.fcfc_router.specs.Shown.{ports_of}
use Rattle.dep_check.specs.declared.channel.Channel.{Channel}
use Rattle.dep_check.specs.Channels.{HasExit}
use Rattle.dep_check.specs.Laws.{AreTables}
use Rattle.dep_check.specs.Tables.{IsSpot, place_of}
use Rattle.dep_check.proofs.SpotLemmas.{one_spot, option_cases, place_low}
use Rattle.flow_channels.specs.Board.{exit_set}
use Rattle.flow_channels.specs.Exits.{AreExitsOf, AreSets, AreSetsBelow, LeadsOut}
use Rattle.flow_channels.specs.Sets.{AreInTurn, AreSetsOf, AreStarts, AreStartsBelow, WaysHave, all_sets, sets_from}
use Rattle.flow_channels.specs.Layout.{exits_of, has_exit, layout_of, spot}
use Rattle.flow_channels.proofs.ExitLemmas.{exit_has, has_named}

-- THE TABLE

-- the set of a spot for a number
sets_read : (starts sets : List ℕ) (k to : ℕ) → k < length starts → to < 127 → get_or (all_sets starts sets) (k * 127 + to) 0 ≡ get_or sets (get_or starts k 0 + to) 0
unfolding all_sets
sets_read [] sets k to low below = absurd (omega arith)
sets_read (start ∷ starts) sets zero to low below =
    let count = length-map-range_with_len (λ (i : ℕ). slice_index sets (start + i)) 0 127 in
    let at : 0 * 127 + to ≡ to = omega arith in
    ap (λ (i : ℕ). get_or (sets_from sets start ++ flat_map (sets_from sets) starts) i 0) at
    ∙ get_or_append_left (sets_from sets start) (flat_map (sets_from sets) starts) 0 to (omega arith)
    ∙ get_or-map-range_with_len (λ (i : ℕ). slice_index sets (start + i)) 0 127 to to 0 below (omega arith)
sets_read (start ∷ starts) sets (suc k) to low below =
    let count = length-map-range_with_len (λ (i : ℕ). slice_index sets (start + i)) 0 127 in
    let at : suc k * 127 + to ≡ length (sets_from sets start) + (k * 127 + to) = omega arith in
    ap (λ (i : ℕ). get_or (sets_from sets start ++ flat_map (sets_from sets) starts) i 0) at
    ∙ get_or-append-add (sets_from sets start) (flat_map (sets_from sets) starts) (k * 127 + to) 0
    ∙ sets_read starts sets k to (omega arith) below

pub set_is : (starts sets : List ℕ) (came : Channel) (to : ℕ) → AreStarts starts sets → IsSpot came → to < 127 → exit_set (all_sets starts sets) came to ≡ get_or sets (get_or starts (place_of came) 0 + to) 0
set_is starts sets came to are is below = let low = place_low came is in sets_read starts sets (place_of came) to (omega (arith, are.count)) below

-- the sets of a spot are there
pub set_within : (starts sets : List ℕ) (came : Channel) → AreStarts starts sets → IsSpot came → get_or starts (place_of came) 0 + 127 ≤ length sets
set_within starts sets came are is = All-get_or (λ (start : ℕ). start + 127 ≤ length sets) starts (place_of came) 0 (let low = place_low came is in omega (arith, are.count)) are.within

-- what holds of an element of a list with one more
any_push_cases : {X : Type 0} (P : X → Type 0) (xs : List X) (y : X) → Any P (xs ++ y ∷ []) → Any P xs ⊎ P y
any_push_cases P xs y (k, x, low, is, p) = elim (Contains-push_cases xs y x (k, low, is)) [
  | inl (at, inside, same) ↦ inl (at, x, inside, same, p)
  | inr same ↦ inr (subst P (sym same) p)
]

-- THE SETS OF WAYS

pub no_ways : (up : Bool) (sets : List ℕ) → sets ≡ replicate 127 0 → AreSetsOf [] up sets
no_ways up sets is = record {
  count = ap (λ (xs : List ℕ). length xs) is ∙ length-replicate {A = ℕ} 127 0;
  each = λ to port low. (
    λ bit. absurd (
        let none : get_or sets to 0 ≡ 0 = ap (λ (xs : List ℕ). get_or xs to 0) is ∙ get_or-replicate 127 to 0 0 low in
        let zero = ap (λ (set : ℕ). bit_at set port) none ∙ bit_at-zero port in
        omega arith),
    λ (k, way, below, reads, has). absurd (omega arith),
  );
}

-- one way more
abbrev with_next : List Way → ℕ → Way → List Way
with_next ways i way = take i ways ++ get_or ways i way ∷ []

pub more_ways : (ways : List Way) (up : Bool) (i : ℕ) (way : Way) (sets : List ℕ) (number had exits new : ℕ) → i < length ways → way ≡ get_or ways i way → number ≡ way.number → way.number < 127 → get_or sets number 0 ≡ had
    → ((port : ℕ) → ((bit_at new port ≡ 1) ↔ ((bit_at had port ≡ 1) ⊎ (bit_at exits port ≡ 1))))
    → ((port : ℕ) → ((bit_at exits port ≡ 1) ↔ Contains (if up then way.up else way.down) port))
    → AreSetsOf (take i ways) up sets → AreSetsOf (take (i + 1) ways) up (set sets number new)
more_ways ways up i way sets number had exits new low is number_is within read told named are = rw (take_more ways i way low) (record { count = length-set sets number new ∙ are.count; each = each })
  where
    Leads : ℕ → ℕ → Way → Type 0
    Leads to port w = (w.number ≡ to) × Contains (if up then w.up else w.down) port

    earlier : (to port : ℕ) → WaysHave (take i ways) up to port → WaysHave (with_next ways i way) up to port
    earlier to port before = Any-front (Leads to port) (take i ways) (get_or ways i way ∷ []) before

    last : (to port : ℕ) → Leads to port way → WaysHave (with_next ways i way) up to port
    last to port leads = Any-push (Leads to port) (take i ways) (get_or ways i way) (subst (Leads to port) is leads)

    split : (to port : ℕ) → WaysHave (with_next ways i way) up to port → WaysHave (take i ways) up to port ⊎ Leads to port way
    split to port has = elim (any_push_cases (Leads to port) (take i ways) (get_or ways i way) has) [
      | inl before ↦ inl before
      | inr own ↦ inr (subst (Leads to port) (sym is) own)
    ]

    each : (to port : ℕ) → to < 127 → ((bit_at (get_or (set sets number new) to 0) port ≡ 1) ↔ WaysHave (with_next ways i way) up to port)
    each to port to_low = elim (cases_eq to number) [
      | inl same ↦ (
          let got : get_or (set sets number new) to 0 ≡ new = ap (λ (k : ℕ). get_or (set sets number new) k 0) same ∙ get_or-set_same sets number new 0 (omega (arith, are.count)) in
          let was : get_or sets to 0 ≡ had = ap (λ (k : ℕ). get_or sets k 0) same ∙ read in (
            λ bit. elim ((told port).0 (ap (λ (n : ℕ). bit_at n port) (sym got) ∙ bit)) [
              | inl before ↦ earlier to port ((are.each to port to_low).0 (ap (λ (n : ℕ). bit_at n port) was ∙ before))
              | inr mine ↦ last to port (sym number_is ∙ sym same, (named port).0 mine)
            ],
            λ has. ap (λ (n : ℕ). bit_at n port) got ∙ (told port).1 (elim (split to port has) [
              | inl before ↦ inl (ap (λ (n : ℕ). bit_at n port) (sym was) ∙ (are.each to port to_low).1 before)
              | inr mine ↦ inr ((named port).1 mine.1)
            ]),
          ))
      | inr other ↦ (
          let still : get_or (set sets number new) to 0 ≡ get_or sets to 0 = get_or-set_other sets number to new 0 other in (
            λ bit. earlier to port ((are.each to port to_low).0 (ap (λ (n : ℕ). bit_at n port) (sym still) ∙ bit)),
            λ has. elim (split to port has) [
              | inl before ↦ ap (λ (n : ℕ). bit_at n port) still ∙ (are.each to port to_low).1 before
              | inr mine ↦ absurd (other (sym mine.0 ∙ sym number_is))
            ],
          ))
    ]

-- THE STARTS OF A MEMBER

pub starts_first : (es : List EntryOf) (x at up down : ℕ) (starts : List ℕ) → AreStartsBelow es x at up down 0 starts starts
starts_first es x at up down starts = record {
  count = refl;
  here = λ entry below is. absurd (omega arith);
  others = λ came is other. refl;
}

module _ (es : List EntryOf) (x at up down k : ℕ) (old now : List ℕ) (are : AreStartsBelow es x at up down k old now) where
  -- one port more, which is no entry
  pub starts_same : (IsEntry es x k → ⊥) → AreStartsBelow es x at up down (k + 1) old now
  starts_same none = record {
    count = are.count;
    here = λ entry below is. elim (cases_eq entry k) [
      | inl same ↦ absurd (none (subst (λ (e : ℕ). IsEntry es x e) same is))
      | inr other ↦ are.here entry (omega arith) is
    ];
    others = λ came is other. are.others came is (λ same below entered. other same (omega arith) entered);
  }

  -- or which is one
  pub starts_more : (place start : ℕ) → length old ≡ 1651 → at < 127 → k < 13 → IsEntry es x k → place ≡ place_of (record { at = at; port = k }) → start ≡ (if may_go_up es x k then up else down) → AreStartsBelow es x at up down (k + 1) old (set now place start)
  starts_more place start long at_low k_low entered place_is start_is = record {
    count = length-set now place start ∙ are.count;
    here = λ entry below is. elim (cases_eq entry k) [
      | inl same ↦ (
          let there : place_of (record { at = at; port = entry }) ≡ place = ap (λ (e : ℕ). place_of (record { at = at; port = e })) same ∙ sym place_is in
          ap (λ (i : ℕ). get_or (set now place start) i 0) there ∙ get_or-set_same now place start 0 (omega (arith, are.count)) ∙ start_is
          ∙ ap (λ (e : ℕ). if may_go_up es x e then up else down) (sym same))
      | inr other ↦ get_or-set_other now place (place_of (record { at = at; port = entry })) start 0 (λ same. other (omega arith)) ∙ are.here entry (omega arith) is
    ];
    others = λ came is other.
        get_or-set_other now place (place_of came) start 0 (λ same.
        let one = one_spot came (spot at k) is (record { at = at_low; port = k_low }) (same ∙ place_is) in
        let port : came.port ≡ k = ap (λ (c : Channel). c.port) one in
        other (ap (λ (c : Channel). c.at) one) (omega arith) (subst (λ (e : ℕ). IsEntry es x e) (sym port) entered))
        ∙ are.others came is (λ same below entry. other same (omega arith) entry);
  }

-- A MEMBER MORE

entry_cases : (es : List EntryOf) (x entry : ℕ) → IsEntry es x entry ⊎ (IsEntry es x entry → ⊥)
entry_cases es x entry = elim (cases_eq entry 0) [
  | inl first ↦ inl (inl first)
  | inr other ↦ elim (option_cases (far_of es x entry)) [
    | inr some ↦ inl (inr some)
    | inl none ↦ inr (λ is. elim is [
      | inl first ↦ other first
      | inr (far, e) ↦ (let gone = none in absurd (cc))
    ])
  ]
]

-- the members of a topology have different numbers
one_number : (numbers : List ℕ) (x y : ℕ) → AreNumbers numbers → x < length numbers → y < length numbers → slice_index numbers x ≡ slice_index numbers y → x ≡ y
one_number numbers x y named x_low y_low same = elim (cases_eq x y) [
  | inl is ↦ is
  | inr other ↦ absurd (elim (order x y other) [
    | inl less ↦ named.apart x y 0 less y_low same
    | inr more ↦ named.apart y x 0 more x_low (sym same)
  ])
]
  where
    order : (a b : ℕ) → a ≢ b → (a < b) ⊎ (b < a)
    order a b differ = grind arith

module _ (es : List EntryOf) (numbers : List ℕ) (any : Bool) (named : AreNumbers numbers) (count : length numbers ≡ length es) where
  -- what the ways of a member have is where it leads out
  ways_lead : (x : ℕ) (ways : List Way) (came : Channel) (to port : ℕ) → AreWays es numbers any x 127 ways → came.at ≡ slice_index numbers x → IsEntry es x came.port → WaysHave ways (may_go_up es x came.port) to port → LeadsOut es numbers any x came to port
  ways_lead x ways came to port are at entered (k, way, low, is, (number, has)) =
      let own : IsWay es numbers any x way = subst (λ (w : Way). IsWay es numbers any x w) is (are.each k way low) in
      record {
        at = at;
        entry = entered;
        target = way.place;
        low = own.low;
        number = sym number ∙ own.number;
        begins = begins (may_go_up es x came.port) own has;
      }
    where
      begins : (up : Bool) → IsWay es numbers any x way → Contains (if up then way.up else way.down) port → Begins es any up x way.place port
      begins true own there = All-contains (Begins es any true x way.place) way.up port own.up.each there
      begins false own there = All-contains (Begins es any false x way.place) way.down port own.down.each there

  lead_ways : (x : ℕ) (ways : List Way) (came : Channel) (to port : ℕ) → AreWays es numbers any x 127 ways → LeadsOut es numbers any x came to port → WaysHave ways (may_go_up es x came.port) to port
  lead_ways x ways came to port are leads =
      let within = named.within leads.target 0 (let low = leads.low in omega arith) in
      let (k, way, low, is, place) = are.whole leads.target leads.low (λ same. leads.begins.other (sym same)) (let most = within.1 in omega arith) in
      let own : IsWay es numbers any x way = subst (λ (w : Way). IsWay es numbers any x w) is (are.each k way low) in
      let begin : Begins es any (may_go_up es x came.port) x way.place port = subst (λ (y : ℕ). Begins es any (may_go_up es x came.port) x y port) (sym place) leads.begins in
      (k, way, low, is, (own.number ∙ ap (slice_index numbers) place ∙ sym leads.number, there (may_go_up es x came.port) way own begin))
    where
      there : (up : Bool) (way : Way) → IsWay es numbers any x way → Begins es any up x way.place port → Contains (if up then way.up else way.down) port
      there true way own begin = own.up.whole port begin
      there false way own begin = own.down.whole port begin

  module _ (x at up down : ℕ) (ways : List Way) (starts sets above under new : List ℕ) (low : x < length es) (are : AreStarts starts sets) (below : AreSetsBelow es numbers any x (all_sets starts sets)) (ways_are : AreWays es numbers any x 127 ways)
      (above_are : AreSetsOf ways true above) (under_are : AreSetsOf ways false under) (at_is : at ≡ slice_index numbers x) (up_is : up ≡ length sets) (down_is : down ≡ length (sets ++ above)) (placed : AreStartsBelow es x at up down 13 starts new) where
    abbrev all : List ℕ
    all = sets ++ above ++ under

    long : length all ≡ length sets + 254
    long = let a = length-append (sets ++ above) under in let b = length-append sets above in omega (arith, above_are.count, under_are.count)

    -- the sets before stay
    still : (i : ℕ) → i < length sets → get_or all i 0 ≡ get_or sets i 0
    still i inside =
        let a = length-append sets above in
        get_or_append_left (sets ++ above) under 0 i (omega arith) ∙ get_or_append_left sets above 0 i inside

    own_set : (go_up : Bool) (to : ℕ) → to < 127 → get_or all ((if go_up then up else down) + to) 0 ≡ get_or (if go_up then above else under) to 0
    own_set true to inside =
        let a = length-append sets above in
        ap (λ (i : ℕ). get_or (sets ++ above ++ under) (i + to) 0) up_is ∙ get_or_append_left (sets ++ above) under 0 (length sets + to) (omega (arith, above_are.count)) ∙ get_or-append-add sets above to 0
    own_set false to inside = ap (λ (i : ℕ). get_or (sets ++ above ++ under) (i + to) 0) down_is ∙ get_or-append-add (sets ++ above) under to 0

    own_has : (go_up : Bool) (to port : ℕ) → to < 127 → ((bit_at (get_or (if go_up then above else under) to 0) port ≡ 1) ↔ WaysHave ways go_up to port)
    own_has true to port inside = above_are.each to port inside
    own_has false to port inside = under_are.each to port inside

    starts_there : AreStarts new all
    starts_there = record { count = placed.count ∙ are.count; within = within }
      where
        one : (came : Channel) → IsSpot came → get_or new (place_of came) 0 + 127 ≤ length all
        one came is = elim (cases_eq came.at at) [
          | inr other ↦ (
              let same = placed.others came is (λ here below' entered. other here) in
              let before = set_within starts sets came are is in
              let n = long in omega arith)
          | inl here ↦ elim (entry_cases es x came.port) [
            | inr none ↦ (
                let same = placed.others came is (λ at' below' entered. none entered) in
                let before = set_within starts sets came are is in
                let n = long in omega arith)
            | inl entered ↦ (
                let start = ap (λ (a : ℕ). get_or new (place_of (spot a came.port)) 0) here ∙ placed.here came.port is.port entered in
                let room = start_room (may_go_up es x came.port) in
                omega arith)
          ]
        ]
          where
            start_room : (go_up : Bool) → (if go_up then up else down) + 127 ≤ length all
            start_room true = let n = long in omega arith
            start_room false = let n = long in let a = length-append sets above in omega (arith, above_are.count)

        within : All (λ start. start + 127 ≤ length all) new
        within k d inside =
            let n : length new ≡ 1651 = placed.count ∙ are.count in
            let c = spot (k / 13) (k % 13) in
            let is : IsSpot c = record { at = omega arith; port = omega arith } in
            let place : place_of c ≡ k = omega arith in
            let there = one c is in
            let read : get_or new (place_of c) 0 ≡ get_or new k d = ap (λ (i : ℕ). get_or new i 0) place ∙ get_or_default new k 0 d inside in
            omega arith

    -- the sets of the first members with it
    sets_more : AreSetsBelow es numbers any (x + 1) (all_sets new all)
    sets_more came to port is inside = elim (cases_eq came.at at) [
      | inr other ↦ before (λ here entered. other here)
      | inl here ↦ elim (entry_cases es x came.port) [
        | inr none ↦ before (λ at' entered. none entered)
        | inl entered ↦ mine here entered
      ]
    ]
      where
        reads : exit_set (all_sets new all) came to ≡ get_or all (get_or new (place_of came) 0 + to) 0
        reads = set_is new all came to starts_there is inside

        before : (came.at ≡ at → IsEntry es x came.port → ⊥) → ((bit_at (exit_set (all_sets new all) came to) port ≡ 1) ↔ ((place : ℕ) × (place < x + 1) × LeadsOut es numbers any place came to port))
        before none =
            let same = placed.others came is (λ here low' entered. none here entered) in
            let there = set_within starts sets came are is in
            let value : exit_set (all_sets new all) came to ≡ exit_set (all_sets starts sets) came to =
            reads ∙ ap (λ (i : ℕ). get_or all (i + to) 0) same ∙ still (get_or starts (place_of came) 0 + to) (omega arith) ∙ sym (set_is starts sets came to are is inside) in (
              λ bit. let (place, early, leads) = (below came to port is inside).0 (ap (λ (n : ℕ). bit_at n port) (sym value) ∙ bit) in (place, omega arith, leads),
              λ (place, early, leads). elim (cases_eq place x) [
                | inl last ↦ absurd (
                    let own : LeadsOut es numbers any x came to port = subst (λ (p : ℕ). LeadsOut es numbers any p came to port) last leads in
                    none (own.at ∙ sym at_is) own.entry)
                | inr other ↦ ap (λ (n : ℕ). bit_at n port) value ∙ (below came to port is inside).1 (place, omega arith, leads)
              ],
            )

        mine : came.at ≡ at → IsEntry es x came.port → ((bit_at (exit_set (all_sets new all) came to) port ≡ 1) ↔ ((place : ℕ) × (place < x + 1) × LeadsOut es numbers any place came to port))
        mine here entered =
            let go_up = may_go_up es x came.port in
            let start = ap (λ (a : ℕ). get_or new (place_of (spot a came.port)) 0) here ∙ placed.here came.port is.port entered in
            let value : exit_set (all_sets new all) came to ≡ get_or (if go_up then above else under) to 0 =
            reads ∙ ap (λ (i : ℕ). get_or all (i + to) 0) start ∙ own_set go_up to inside in (
              λ bit. (x, omega arith, ways_lead x ways came to port ways_are (here ∙ at_is) entered ((own_has go_up to port inside).0 (ap (λ (n : ℕ). bit_at n port) (sym value) ∙ bit))),
              λ (place, early, leads).
                  let place_low : place < length es = omega arith in
                  let same : place ≡ x = one_number numbers place x named (omega arith) (omega arith) (sym leads.at ∙ here ∙ at_is) in
                  let own : LeadsOut es numbers any x came to port = subst (λ (p : ℕ). LeadsOut es numbers any p came to port) same leads in
                  ap (λ (n : ℕ). bit_at n port) value ∙ (own_has go_up to port inside).1 (lead_ways x ways came to port ways_are own),
            )

    pub member_more : AreStarts new all × AreSetsBelow es numbers any (x + 1) (all_sets new all) × (length all ≡ length sets + 254)
    member_more = (starts_there, sets_more, long)

  -- ALL MEMBERS

  module _ (rows : List RowOf) (graph : IsGraph es) (tables : AreTables es numbers any rows) where
    row_leads : (came : Channel) (to port : ℕ) → HasExit rows came.at came.port to port → (place : ℕ) × (place < length es) × LeadsOut es numbers any place came to port
    row_leads came to port (k, row, low, is, (at, entry, target, has)) =
        let (place, place_low, own) = subst (λ (r : RowOf). (x : ℕ) × (x < length es) × IsRow es numbers any x r) is (tables.each k row low) in (
          place,
          place_low,
          record {
            at = sym at ∙ own.at;
            entry = subst (λ (e : ℕ). IsEntry es place e) entry own.entry;
            target = own.to;
            low = own.to_low;
            number = sym target ∙ own.number;
            begins = subst (λ (e : ℕ). Begins es any (may_go_up es place e) place own.to port) entry (All-contains (Begins es any (may_go_up es place row.entry) place own.to) row.exits port own.exits.each has);
          },
        )

    leads_row : (came : Channel) (to port place : ℕ) → place < length es → LeadsOut es numbers any place came to port → HasExit rows came.at came.port to port
    leads_row came to port place place_low leads =
        let (k, row, low, is, (at, entry, target)) = tables.whole place came.port leads.target place_low leads.entry leads.low (λ same. leads.begins.other (sym same)) in
        let (x, x_low, own) = subst (λ (r : RowOf). (x : ℕ) × (x < length es) × IsRow es numbers any x r) is (tables.each k row low) in
        let here : x ≡ place = one_number numbers x place named (omega arith) (omega arith) (sym own.at ∙ at) in
        let there : own.to ≡ leads.target = one_number numbers own.to leads.target named (let l = own.to_low in omega arith) (let l = leads.low in omega arith) (sym own.number ∙ target) in
        let begin : Begins es any (may_go_up es x row.entry) x own.to port =
        subst (λ (e : ℕ). Begins es any (may_go_up es x e) x own.to port) (sym entry)
        (subst (λ (p : ℕ). Begins es any (may_go_up es p came.port) p own.to port) (sym here)
        (subst (λ (y : ℕ). Begins es any (may_go_up es place came.port) place y port) (sym there) leads.begins)) in
        (k, row, low, is, (at ∙ sym leads.at, entry, target ∙ sym leads.number, own.exits.whole port begin))

    row_ports : (row : RowOf) (x : ℕ) → IsRow es numbers any x row → ArePorts row.exits
    row_ports row x own = All-weaker (Begins es any (may_go_up es x row.entry) x own.to) (λ port. (1 ≤ port) × (port ≤ 12)) is_port row.exits own.exits.each
      where
        is_port : (port : ℕ) → Begins es any (may_go_up es x row.entry) x own.to port → (1 ≤ port) × (port ≤ 12)
        is_port port begin =
            let (z, q, far) = way_far es (may_go_up es x row.entry) x own.to port begin.rest begin.way in
            let within = graph.within x port (z, q) far in
            (within.port_least, within.port_most)

    pub sets_all : (sets : List ℕ) (end : ℕ) → end ≡ length es → AreSetsBelow es numbers any end sets → AreExitsOf rows sets
    sets_all sets end all below = record {
      each = λ came to port is inside. (
        λ bit. let (place, low, leads) = (below came to port is inside).0 bit in leads_row came to port place (omega arith) leads,
        λ has. let (place, low, leads) = row_leads came to port has in (below came to port is inside).1 (place, omega arith, leads),
      );
      ports = λ k row low. let (x, x_low, own) = tables.each k row low in row_ports (get_or rows k row) x own;
    }

-- no sets at first
module _ (starts sets : List ℕ) (starts_are : starts ≡ replicate 1651 0) (sets_are : sets ≡ replicate 127 0) where
  pub first_starts : AreStarts starts sets
  first_starts =
      let n : length sets ≡ 127 = ap (λ (xs : List ℕ). length xs) sets_are ∙ length-replicate {A = ℕ} 127 0 in
      record {
        count = ap (λ (xs : List ℕ). length xs) starts_are ∙ length-replicate {A = ℕ} 1651 0;
        within = subst (λ (xs : List ℕ). All (λ start. start + 127 ≤ length sets) xs) (sym starts_are) (All-replicate (λ (start : ℕ). start + 127 ≤ length sets) 1651 0 (omega arith));
      }

  first_set : (came : Channel) (to : ℕ) → IsSpot came → to < 127 → exit_set (all_sets starts sets) came to ≡ 0
  first_set came to is inside =
      let start : get_or starts (place_of came) 0 ≡ 0 = ap (λ (xs : List ℕ). get_or xs (place_of came) 0) starts_are ∙ get_or-replicate 1651 (place_of came) 0 0 (place_low came is) in
      let at : get_or starts (place_of came) 0 + to ≡ to = omega arith in
      set_is starts sets came to first_starts is inside ∙ ap (λ (i : ℕ). get_or sets i 0) at ∙ ap (λ (xs : List ℕ). get_or xs to 0) sets_are ∙ get_or-replicate 127 to 0 0 inside

  pub first_sets : (es : List EntryOf) (numbers : List ℕ) (any : Bool) → AreSetsBelow es numbers any 0 (all_sets starts sets)
  first_sets es numbers any came to port is inside = (
    λ bit. absurd (let zero = ap (λ (set : ℕ). bit_at set port) (first_set came to is inside) ∙ bit_at-zero port in omega arith),
    λ (place, early, leads). absurd (omega arith),
  )

-- THE SETS OF ROWS

-- the row has an exit for what came in at a spot and goes to a number
abbrev HasTo : Channel → ℕ → ℕ → RowOf → Type 0
HasTo came to port row = (row.at ≡ came.at) × (row.entry ≡ came.port) × (row.to ≡ to) × Contains row.exits port

-- no rows have no exits
pub no_rows : (n : ℕ) (sets : List ℕ) → n ≡ 209677 → sets ≡ replicate n 0 → AreExitsOf [] sets × (length sets ≡ n)
no_rows n sets count is = (
  record {
    each = λ came to port spot low. (
      λ bit. absurd (
          let place = place_low came spot in
          let none : exit_set sets came to ≡ 0 = ap (λ (xs : List ℕ). get_or xs (place_of came * 127 + to) 0) is ∙ get_or-replicate n (place_of came * 127 + to) 0 0 (omega (arith, place, low, count)) in
          let zero = ap (λ (set : ℕ). bit_at set port) none ∙ bit_at-zero port in
          omega (arith, zero, bit)),
      λ (k, row, below, reads, has). absurd (omega arith),
    );
    ports = λ k row below. absurd (omega arith);
  },
  ap (λ (xs : List ℕ). length xs) is ∙ length-replicate {A = ℕ} n 0,
)

-- a row for what is no spot or no number
pub row_beside : (rows : List RowOf) (row : RowOf) (sets : List ℕ) → ((came : Channel) → IsSpot came → row.at ≡ came.at → row.entry ≡ came.port → row.to < 127 → ⊥) → ArePorts row.exits → AreExitsOf rows sets → AreExitsOf (rows ++ row ∷ []) sets
row_beside rows row sets beside ports are = record {
  each = λ came to port spot low. (
    λ bit. Any-front (HasTo came to port) rows (row ∷ []) ((are.each came to port spot low).0 bit),
    λ has. elim (any_push_cases (HasTo came to port) rows row has) [
      | inl before ↦ (are.each came to port spot low).1 before
      | inr (at, entry, target, own) ↦ absurd (beside came spot at entry (omega (arith, target, low)))
    ],
  );
  ports = All-push (λ (r : RowOf). ArePorts r.exits) rows row are.ports ports;
}

-- one row more, at its place
module _ (rows : List RowOf) (row : RowOf) (sets : List ℕ) (place had exits new : ℕ) (spot : IsSpot (record { at = row.at; port = row.entry })) (target : row.to < 127) (long : length sets ≡ 209677) (place_is : place ≡ place_of (record { at = row.at; port = row.entry }) * 127 + row.to) (read : had ≡ get_or sets place had)
    (told : (port : ℕ) → ((bit_at new port ≡ 1) ↔ ((bit_at had port ≡ 1) ⊎ (bit_at exits port ≡ 1)))) (named : (port : ℕ) → ((bit_at exits port ≡ 1) ↔ Contains row.exits port)) (ports : ArePorts row.exits) (are : AreExitsOf rows sets) where
  abbrev own : Channel
  own = record { at = row.at; port = row.entry }

  within : place < length sets
  within = let low = place_low own spot in omega (arith, low, target, long, place_is)

  -- what came in there and goes there
  here : (came : Channel) (to port : ℕ) → came ≡ own → to ≡ row.to → ((bit_at (exit_set (set sets place new) came to) port ≡ 1) ↔ HasExit (rows ++ row ∷ []) came.at came.port to port)
  here came to port same number =
      let at : place_of came * 127 + to ≡ place = ap (λ (c : Channel). place_of c * 127 + to) same ∙ ap (λ (n : ℕ). place_of own * 127 + n) number ∙ sym place_is in
      let got : exit_set (set sets place new) came to ≡ new = ap (λ (k : ℕ). get_or (set sets place new) k 0) at ∙ get_or-set_same sets place new 0 within in
      let was : exit_set sets came to ≡ had = ap (λ (k : ℕ). get_or sets k 0) at ∙ get_or_default sets place 0 had within ∙ sym read in
      let spot_came : IsSpot came = subst IsSpot (sym same) spot in
      let low : to < 127 = omega (arith, number, target) in
      let earlier = are.each came to port spot_came low in (
        λ bit. elim ((told port).0 (ap (λ (n : ℕ). bit_at n port) (sym got) ∙ bit)) [
          | inl before ↦ Any-front (HasTo came to port) rows (row ∷ []) (earlier.0 (ap (λ (n : ℕ). bit_at n port) was ∙ before))
          | inr mine ↦ Any-push (HasTo came to port) rows row (sym (ap (λ (c : Channel). c.at) same), sym (ap (λ (c : Channel). c.port) same), sym number, (named port).0 mine)
        ],
        λ has. ap (λ (n : ℕ). bit_at n port) got ∙ (told port).1 (elim (any_push_cases (HasTo came to port) rows row has) [
          | inl before ↦ inl (ap (λ (n : ℕ). bit_at n port) (sym was) ∙ earlier.1 before)
          | inr mine ↦ inr ((named port).1 mine.3)
        ]),
      )

  -- and what did not
  elsewhere : (came : Channel) (to port : ℕ) → IsSpot came → to < 127 → place_of came * 127 + to ≢ place → ((bit_at (exit_set (set sets place new) came to) port ≡ 1) ↔ HasExit (rows ++ row ∷ []) came.at came.port to port)
  elsewhere came to port spot_came low other =
      let still : exit_set (set sets place new) came to ≡ exit_set sets came to = get_or-set_other sets place (place_of came * 127 + to) new 0 other in
      let earlier = are.each came to port spot_came low in (
        λ bit. Any-front (HasTo came to port) rows (row ∷ []) (earlier.0 (ap (λ (n : ℕ). bit_at n port) (sym still) ∙ bit)),
        λ has. elim (any_push_cases (HasTo came to port) rows row has) [
          | inl before ↦ ap (λ (n : ℕ). bit_at n port) still ∙ earlier.1 before
          | inr (at, entry, number, mine) ↦ absurd (other (
              let there : place_of came ≡ place_of own = omega (arith, at, entry) in
              omega (arith, there, number, place_is)))
        ],
      )

  pub row_more : AreExitsOf (rows ++ row ∷ []) (set sets place new)
  row_more = record {
    each = λ came to port spot_came low. elim (cases_eq (place_of came * 127 + to) place) [
      | inr other ↦ elsewhere came to port spot_came low other
      | inl same ↦ here came to port (one_spot came own spot_came spot (omega (arith, same, place_is, low, target))) (omega (arith, same, place_is, low, target))
    ];
    ports = All-push (λ (r : RowOf). ArePorts r.exits) rows row are.ports ports;
  }

-- starts in turn lead to the sets as they stand
pub starts_of_turn : (starts sets : List ℕ) → AreInTurn 1651 starts → length sets ≡ 209677 → AreStarts starts sets
starts_of_turn starts sets turn long = record {
  count = turn.count;
  within = λ k d low. let start = get_or_default starts k 0 d low in let at = turn.each k (omega (arith, low, turn.count)) in omega (arith, start, at, low, turn.count, long);
}

pub turn_exits : (rows : List RowOf) (starts sets : List ℕ) → AreInTurn 1651 starts → length sets ≡ 209677 → AreExitsOf rows sets → AreExitsOf rows (all_sets starts sets)
turn_exits rows starts sets turn long are = record {
  each = λ came to port spot low.
      let at = turn.each (place_of came) (place_low came spot) in
      let same : exit_set (all_sets starts sets) came to ≡ exit_set sets came to = set_is starts sets came to (starts_of_turn starts sets turn long) spot low ∙ ap (λ (k : ℕ). get_or sets (k + to) 0) at in (
        λ bit. (are.each came to port spot low).0 (ap (λ (n : ℕ). bit_at n port) (sym same) ∙ bit),
        λ has. ap (λ (n : ℕ). bit_at n port) same ∙ (are.each came to port spot low).1 has,
      );
  ports = are.ports;
}

-- THE EXITS OF A LAYOUT

-- the ports of a set are the exits of the rows
pub exits_are_set : (es : List EntryOf) (numbers : List ℕ) (rows : List RowOf) (most : ℕ) (sets : List ℕ) → AreExitsOf rows sets → (came : Channel) (to : ℕ) → IsSpot came → to < 127 → ports_of (exit_set sets came to) ≡ exits_of (layout_of es numbers rows most) came to
exits_are_set es numbers rows most sets are came to spot low =
    let layout = layout_of es numbers rows most in
    let exits = exits_of layout came to in
    let test : ℕ → Bool = λ exit. list_any (has_exit came to exit) rows in
    kept_range (λ port. bit_at (exit_set sets came to) port == 1) 16 0 exits (range_rises test 13 0)
    (λ p has.
    let inside = within_range 13 0 p (kept_member test (range_with_len 0 13) p has) in
    let named = (are.each came to p spot low).1 (exit_has layout came to p has) in
    (omega arith, omega arith, eq-eqb (bit_at (exit_set sets came to) p) 1 named))
    (λ p least most passes.
    let exit = (are.each came to p spot low).0 (eqb-true (bit_at (exit_set sets came to) p) 1 passes) in
    has_named layout came to p (exit_low p exit) exit)
  where
    exit_low : (p : ℕ) → HasExit rows came.at came.port to p → p < 13
    exit_low p (k, row, below, is, has) =
        let row_ports = subst (λ (r : RowOf). ArePorts r.exits) is (are.ports k row below) in
        let named = has.3 in
        let port = row_ports named.0 p named.1 in
        let e = named.2 in
        omega arith
