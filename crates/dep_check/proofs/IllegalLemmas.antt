use Rattle.std.proofs.Common.{◌≡◌, ◌∙◌, sym, ap, subst, refl, ℕ, ◌+◌, ◌<◌, ◌≤◌, ◌↔◌, List, [], ◌∷◌, ◌++◌, Option, Some, None, Bool, true, false, arith, length, get_or, Less, Equal, Greater, inl, inr}
use Rattle.std.specs.Prelude.{Contains, IsTrue, MatchOption}
use Rattle.std.specs.Option.{option_and_then, option_map}
use Rattle.std.specs.declared.cmp.Ordering.{Ordering}
use Rattle.std.specs.Ordering.{nat_cmp, ordering_then, ordering_reverse, is_le}
use Rattle.std.specs.Cmp.{IsTotalOrder, then_total, on_total, nat_cmp_total}
use Rattle.std.specs.BTreeMap.Comparable.{le_lt_trans}
use Rattle.std.proofs.lemmas.Bool.{cases_eq, cases_lt}
use Rattle.std.proofs.lemmas.Bool.Decides.{nat_tests}
use Rattle.std.specs.List.{list_all}
use Rattle.std.proofs.lemmas.List.{get_or_default}
use Rattle.std.proofs.lemmas.List.Folds.{list_all_at}
use Rattle.std.proofs.lemmas.Option.{same_Some}
use Rattle.topo_graph.specs.Topology.{far_of}
use Rattle.an_base.specs.Values.{EntryOf}
use Rattle.an_base.specs.Rows.{RowOf, ExitsRise}
use Rattle.dep_check.specs.declared.channel.Channel.{Channel}
use Rattle.dep_check.specs.declared.illegal.RowExit.{RowExit}
use Rattle.dep_check.specs.Channels.{by_number, far_at, place_in}
use Rattle.dep_check.specs.Packets.{four_cmp}
use Rattle.dep_check.specs.Illegal.{IsBad, IsIllegal, AllAreLegal, IsLeastIllegal, LeadsUp}
use Rattle.dep_check.specs.Tables.{AreExitsBelow, HasBelow, IsSpot, is_spot, place_of, row_at, wire_at}
use Rattle.dep_check.specs.Worst.{AreLegalBy, is_at_spot, AreSides, AreUpBelow, IsBadExit, IsBadOf, FirstBad, IsNotAfter, LeadsUpAt, LeastBelow, up_at}
use Rattle.dep_check.proofs.SpotLemmas.{place_low, spot_cases, spot_true}
use Rattle.dep_check.proofs.BridgeLemmas.{wire_spot}
use Rattle.dep_check.proofs.PushLemmas.{push_count, pushed}

-- a port of the switch that has a number leads up
pub up_some : (es : List EntryOf) (numbers : List ℕ) (s : Channel) (place : ℕ) (b : Bool) → place_in numbers s.at ≡ Some place → (IsTrue b ↔ LeadsUp es place s.port) → (IsTrue b ↔ LeadsUpAt es numbers s)
up_some es numbers s place b is told = (
  λ t. (place, is, told.0 t),
  λ up. told.1 (subst (λ (x : ℕ). LeadsUp es x s.port) (same_Some up.0 place (sym up.1 ∙ is)) up.2),
)

pub up_none : (es : List EntryOf) (numbers : List ℕ) (s : Channel) → place_in numbers s.at ≡ None → LeadsUpAt es numbers s → ⊥
up_none es numbers s none up = absurd (let gone : None ≡ Some up.0 = sym none ∙ up.1 in cc)

-- the table of what leads up, with one spot more
pub up_more : (es : List EntryOf) (numbers : List ℕ) (end : ℕ) (up : List Bool) (spot : Channel) (v : Bool) → AreUpBelow es numbers end up → IsSpot spot → place_of spot ≡ end → (IsTrue v ↔ LeadsUpAt es numbers spot) → AreUpBelow es numbers (end + 1) (up ++ v ∷ [])
up_more es numbers end up spot v so_far is at told = record {
  count = push_count up v end so_far.count;
  each = λ s s_spot low. elim (pushed up v false s spot end so_far.count s_spot is at low) [
    | inl before ↦ (let was = so_far.each s s_spot before.0 in (λ t. was.0 (sym before.1 ∙ t), λ leads. before.1 ∙ was.1 leads))
    | inr last ↦ (
      λ t. subst (λ (x : Channel). LeadsUpAt es numbers x) (sym last.0) (told.0 (sym last.1 ∙ t)),
      λ leads. last.1 ∙ told.1 (subst (λ (x : Channel). LeadsUpAt es numbers x) last.0 leads),
    )
  ];
}

-- what leads up has a link
up_linked : (es : List EntryOf) (numbers : List ℕ) (s : Channel) → LeadsUpAt es numbers s → (far : Channel) × (far_at es numbers s ≡ Some far)
up_linked es numbers s (place, is, (far, port, link, up)) =
    let there : far_at es numbers s ≡ option_map (by_number numbers) (far_of es place s.port) = ap (λ (o : Option ℕ). option_and_then (λ x. option_map (by_number numbers) (far_of es x s.port)) o) is in
    (by_number numbers (far, port), there ∙ ap (option_map (by_number numbers)) link)

pub all_sides : (es : List EntryOf) (numbers : List ℕ) (wires : List (Option Channel)) (up : List Bool) → ((s : Channel) → wire_at wires s ≡ far_at es numbers s) → AreUpBelow es numbers 1651 up → AreSides es numbers wires up
all_sides es numbers wires up far below = record {
  far = far;
  leads_up = λ s. elim (spot_cases s) [
    | inl spot ↦ rw (spot_true s spot) (below.each s spot (place_low s spot))
    | inr other ↦ (
      λ t. absurd (let no : up_at up s ≡ false = rw other refl in cc),
      λ leads. absurd (let there = up_linked es numbers s leads in let spot = wire_spot wires s there.0 (far s ∙ there.1) in let t = spot_true s spot in cc),
    )
  ];
}

-- an exit is illegal just where the tables say so
pub bad_told : (es : List EntryOf) (numbers : List ℕ) (wires : List (Option Channel)) (up : List Bool) (at entry exit : ℕ) (came_down : Bool) → AreSides es numbers wires up → came_down ≡ up_at up (record { at = at; port = entry }) → (IsBadExit wires up at came_down exit ↔ IsBad es numbers at entry exit)
bad_told es numbers wires up at entry exit came_down sides came = (
  λ bad. elim bad [
    | inl loose ↦ inl (sym (sides.far (record { at = at; port = exit })) ∙ loose)
    | inr turns ↦ (
        let came_up = (sides.leads_up (record { at = at; port = entry })).0 (sym came ∙ turns.0) in
        let goes_up = (sides.leads_up (record { at = at; port = exit })).0 turns.1 in
        inr (record {
          place = came_up.0;
          is = came_up.1;
          came_down = came_up.2;
          goes_up = subst (λ (x : ℕ). LeadsUp es x exit) (same_Some goes_up.0 came_up.0 (sym goes_up.1 ∙ came_up.1)) goes_up.2;
        }))
  ],
  λ bad. elim bad [
    | inl loose ↦ inl (sides.far (record { at = at; port = exit }) ∙ loose)
    | inr turns ↦ inr (
      came ∙ (sides.leads_up (record { at = at; port = entry })).1 (turns.place, turns.is, turns.came_down),
      (sides.leads_up (record { at = at; port = exit })).1 (turns.place, turns.is, turns.goes_up),
    )
  ],
)

-- the order of four numbers
pub four_total : IsTotalOrder four_cmp
four_total = then_total (on_total (λ x. x.0) nat_cmp_total) (then_total (on_total (λ x. x.1) nat_cmp_total) (then_total (on_total (λ x. x.2) nat_cmp_total) (on_total (λ x. x.3) nat_cmp_total)))

less_le : (o : Ordering) → o ≡ Less → is_le o ≡ true
less_le o e = rw e refl

le_through : (x y z : ℕ × ℕ × ℕ × ℕ) (o : Ordering) → four_cmp y z ≡ o → is_le (four_cmp x y) ≡ true → is_le o ≡ true → is_le (four_cmp x z) ≡ true
le_through x y z Less e a b = less_le (four_cmp x z) (le_lt_trans four_total x y z a e)
le_through x y z Equal e a b =
    let same : four_cmp x z ≡ four_cmp x y = four_total.antisymm x z ∙ ap ordering_reverse (sym (four_total.congr y z x e)) ∙ sym (four_total.antisymm x y) in
    ap is_le same ∙ a
le_through x y z Greater e a b = absurd (cc)

not_after_trans : (i j k : RowExit) → IsNotAfter i j → IsNotAfter j k → IsNotAfter i k
not_after_trans i j k a b = le_through (i.at, i.entry, i.to, i.exit) (j.at, j.entry, j.to, j.exit) (k.at, k.entry, k.to, k.exit) (four_cmp (j.at, j.entry, j.to, j.exit) (k.at, k.entry, k.to, k.exit)) refl a b

reversed : (x y : ℕ × ℕ × ℕ × ℕ) (o : Ordering) → four_cmp x y ≡ o → (is_le o ≡ true → ⊥) → is_le (four_cmp y x) ≡ true
reversed x y Less e not_le = absurd (not_le refl)
reversed x y Equal e not_le = absurd (not_le refl)
reversed x y Greater e not_le = less_le (four_cmp y x) (four_total.antisymm y x ∙ ap ordering_reverse e)

after_reversed : (i j : RowExit) → (IsNotAfter i j → ⊥) → IsNotAfter j i
after_reversed i j not_le = reversed (i.at, i.entry, i.to, i.exit) (j.at, j.entry, j.to, j.exit) (four_cmp (i.at, i.entry, i.to, i.exit) (j.at, j.entry, j.to, j.exit)) refl not_le

-- exits of one row
four_last : (a b c d x y z w : ℕ) → a ≡ x → b ≡ y → c ≡ z → d ≤ w → is_le (ordering_then (nat_cmp a x) (ordering_then (nat_cmp b y) (ordering_then (nat_cmp c z) (nat_cmp d w)))) ≡ true
four_last a b c d x y z w e f g le = grind (arith, nat_tests)

same_row : (es : List EntryOf) (numbers : List ℕ) (r : RowOf) (i j : RowExit) → IsBadOf es numbers r i → IsBadOf es numbers r j → i.exit ≤ j.exit → IsNotAfter i j
same_row es numbers r i j a b le = four_last i.at i.entry i.to i.exit j.at j.entry j.to j.exit (sym a.at ∙ b.at) (sym a.entry ∙ b.entry) (sym a.to ∙ b.to) le

-- the least, with one row more
module _ (es : List EntryOf) (numbers : List ℕ) (rows : List RowOf) (k : ℕ) where
  row_moved : (n : ℕ) (j : RowExit) → n ≡ k → IsBadOf es numbers (row_at rows n) j → IsBadOf es numbers (row_at rows k) j
  row_moved n j e bad = subst (λ (m : ℕ). IsBadOf es numbers (row_at rows m) j) e bad

  pub least_same : (best : Option RowExit) → LeastBelow es numbers rows k best → FirstBad es numbers (row_at rows k) None → LeastBelow es numbers rows (k + 1) best
  least_same None so_far none = λ n j low bad. elim (cases_eq n k) [
    | inl last ↦ none j (row_moved n j last bad)
    | inr before ↦ so_far n j (omega arith) bad
  ]
  least_same (Some i) so_far none = (
    (so_far.0.0, (let low = so_far.0.1 in omega arith), so_far.0.2),
    λ n j low bad. elim (cases_eq n k) [
      | inl last ↦ absurd (none j (row_moved n j last bad))
      | inr before ↦ so_far.1 n j (omega arith) bad
    ],
  )

  pub least_kept : (i next : RowExit) → IsNotAfter i next → LeastBelow es numbers rows k (Some i) → FirstBad es numbers (row_at rows k) (Some next) → LeastBelow es numbers rows (k + 1) (Some i)
  least_kept i next le so_far first = (
    (so_far.0.0, (let low = so_far.0.1 in omega arith), so_far.0.2),
    λ n j low bad. elim (cases_eq n k) [
      | inl last ↦ (let here = row_moved n j last bad in not_after_trans i next j le (same_row es numbers (row_at rows k) next j first.0 here (first.1 j here)))
      | inr before ↦ so_far.1 n j (omega arith) bad
    ],
  )

  pub least_first : (next : RowExit) → LeastBelow es numbers rows k None → FirstBad es numbers (row_at rows k) (Some next) → LeastBelow es numbers rows (k + 1) (Some next)
  least_first next so_far first = (
    (k, omega arith, first.0),
    λ n j low bad. elim (cases_eq n k) [
      | inl last ↦ (let here = row_moved n j last bad in same_row es numbers (row_at rows k) next j first.0 here (first.1 j here))
      | inr before ↦ absurd (so_far n j (omega arith) bad)
    ],
  )

  pub least_less : (i next : RowExit) → (IsNotAfter i next → ⊥) → LeastBelow es numbers rows k (Some i) → FirstBad es numbers (row_at rows k) (Some next) → LeastBelow es numbers rows (k + 1) (Some next)
  least_less i next not_le so_far first = (
    (k, omega arith, first.0),
    λ n j low bad. elim (cases_eq n k) [
      | inl last ↦ (let here = row_moved n j last bad in same_row es numbers (row_at rows k) next j first.0 here (first.1 j here))
      | inr before ↦ not_after_trans next i j (after_reversed i next not_le) (so_far.1 n j (omega arith) bad)
    ],
  )

-- the first bad exit of a row
pub first_bad : (es : List EntryOf) (numbers : List ℕ) (r : RowOf) (exits : List ℕ) (k : ℕ) → exits ≡ r.exits → ExitsRise r.exits → k < length exits → ((n : ℕ) → n < k → IsBad es numbers r.at r.entry (get_or exits n 0) → ⊥) → IsBad es numbers r.at r.entry (get_or exits k 0) → FirstBad es numbers r (Some (record { at = r.at; entry = r.entry; to = r.to; exit = get_or exits k 0 }))
first_bad es numbers r exits k all rising low before bad = (
  record { at = refl; entry = refl; to = refl; has = subst (λ (xs : List ℕ). Contains xs (get_or exits k 0)) all (k, low, get_or_default exits k (get_or exits k 0) 0 low); bad = bad },
  λ j is.
      let has : Contains exits j.exit = subst (λ (xs : List ℕ). Contains xs j.exit) (sym all) is.has in
      let rises : ExitsRise exits = subst (λ (xs : List ℕ). ExitsRise xs) (sym all) rising in
      let there : get_or exits has.0 0 ≡ j.exit = get_or_default exits has.0 0 j.exit has.1 ∙ has.2 in
      elim (cases_lt has.0 k) [
        | inl less ↦ absurd (before has.0 less (moved r.at j.at r.entry j.entry j.exit (get_or exits has.0 0) (sym is.at) (sym is.entry) (sym there) is.bad))
        | inr more ↦ elim (cases_eq k has.0) [
          | inl same ↦ (let e : get_or exits k 0 ≡ j.exit = ap (λ (n : ℕ). get_or exits n 0) same ∙ there in omega arith)
          | inr other ↦ (let lt = rises k has.0 0 (omega arith) has.1 in omega arith)
        ]
      ],
)
  where
    moved : (a b c d e f : ℕ) → b ≡ a → d ≡ c → e ≡ f → IsBad es numbers b d e → IsBad es numbers a c f
    moved a b c d e f x y z bad = subst (λ (n : ℕ). IsBad es numbers a c n) z (subst (λ (n : ℕ). IsBad es numbers a n e) y (subst (λ (n : ℕ). IsBad es numbers n d e) x bad))

-- and none
pub no_bad : (es : List EntryOf) (numbers : List ℕ) (r : RowOf) (exits : List ℕ) → exits ≡ r.exits → ((n : ℕ) → n < length exits → IsBad es numbers r.at r.entry (get_or exits n 0) → ⊥) → FirstBad es numbers r None
no_bad es numbers r exits all none = λ j is.
    let has : Contains exits j.exit = subst (λ (xs : List ℕ). Contains xs j.exit) (sym all) is.has in
    let there : get_or exits has.0 0 ≡ j.exit = get_or_default exits has.0 0 j.exit has.1 ∙ has.2 in
    none has.0 has.1 (subst (λ (n : ℕ). IsBad es numbers r.at r.entry n) (sym there) (subst (λ (n : ℕ). IsBad es numbers r.at n j.exit) (sym is.entry) (subst (λ (n : ℕ). IsBad es numbers n j.entry j.exit) (sym is.at) is.bad)))

-- an illegal exit is that of a row of the list
index_of : (es : List EntryOf) (numbers : List ℕ) (rows : List RowOf) (at entry to exit : ℕ) → IsIllegal es numbers rows at entry to exit → (k : ℕ) × (k < length rows) × IsBadOf es numbers (row_at rows k) (record { at = at; entry = entry; to = to; exit = exit })
index_of es numbers rows at entry to exit illegal =
    let h = illegal.has in
    let here = get_or_default rows h.0 (record { at = 0; entry = 0; to = 0; exits = [] }) h.1 h.2 ∙ h.3 in (
      h.0,
      h.2,
      record {
        at = ap (λ (r : RowOf). r.at) here ∙ h.4.0;
        entry = ap (λ (r : RowOf). r.entry) here ∙ h.4.1;
        to = ap (λ (r : RowOf). r.to) here ∙ h.4.2;
        has = subst (λ (r : RowOf). Contains r.exits exit) (sym here) h.4.3;
        bad = illegal.bad;
      },
    )

-- the least of all rows
pub all_rows : (es : List EntryOf) (numbers : List ℕ) (rows : List RowOf) (end : ℕ) (best : Option RowExit) → end ≡ length rows → LeastBelow es numbers rows end best → MatchOption best (AllAreLegal es numbers rows) (λ i. IsLeastIllegal es numbers rows i.at i.entry i.to i.exit)
all_rows es numbers rows end None all so_far = λ at entry to exit illegal. let i = index_of es numbers rows at entry to exit illegal in so_far i.0 (record { at = at; entry = entry; to = to; exit = exit }) (let low = i.1 in omega arith) i.2
all_rows es numbers rows end (Some i) all so_far = record {
  illegal = record {
    has = (let k = so_far.0.0 in let low = so_far.0.1 in let bad = so_far.0.2 in (k, row_at rows k, omega arith, get_or_default rows k (row_at rows k) (record { at = 0; entry = 0; to = 0; exits = [] }) (omega arith), (bad.at, bad.entry, bad.to, bad.has)));
    bad = so_far.0.2.bad;
  };
  least = λ a e t p illegal. let j = index_of es numbers rows a e t p illegal in so_far.1 j.0 (record { at = a; entry = e; to = t; exit = p }) (let low = j.1 in omega arith) j.2;
}

-- no exit is illegal where none of a table of the exits of all rows is, and each row is for what came in at a spot
pub none_illegal : (es : List EntryOf) (numbers : List ℕ) (rows : List RowOf) (wires : List (Option Channel)) (up : List Bool) (table : List ℕ) → AreSides es numbers wires up → AreExitsBelow rows None (length rows) table → AreLegalBy wires up table → list_all is_at_spot rows ≡ true → AllAreLegal es numbers rows
none_illegal es numbers rows wires up table sides below legal all = λ at entry to exit illegal.
    let i = index_of es numbers rows at entry to exit illegal in
    let s : Channel = record { at = at; port = entry } in
    let there : record { at = (row_at rows i.0).at; port = (row_at rows i.0).entry } ≡ s = ap (λ (n : ℕ). record { at = n; port = (row_at rows i.0).entry }) i.2.at ∙ ap (λ (n : ℕ). record { at = at; port = n }) i.2.entry in
    elim (spot_cases s) [
      | inl spot ↦ (
          let here : HasBelow rows None (length rows) s exit = record { index = i.0; below = i.1; counts = refl; at = i.2.at; entry = i.2.entry; has = i.2.has } in
          let low = below.ports s exit spot here in
          legal s exit spot low ((below.each s exit spot low).1 here) ((bad_told es numbers wires up at entry exit (up_at up s) sides refl).1 i.2.bad))
      | inr out ↦ absurd (
          let f = list_all_at is_at_spot rows i.0 (record { at = 0; entry = 0; to = 0; exits = [] }) i.1 (ap is_spot there ∙ out) in
          cc)
    ]
