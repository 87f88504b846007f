-- Rows that are kept once: one that is told, one that is put, and the others.
use Rattle.std.proofs.Common.{◌≡◌, ◌≢◌, ◌∙◌, sym, ap, refl, subst, ℕ, ◌+◌, ◌*◌, ◌<◌, ◌≤◌, ◌&&◌, ◌++◌, [], ◌∷◌, Bool, true, false, cond, eqb, ltb, max, Some, None, List, arith, length, length-append, get_or, set, inl, inr, ◌⊎◌}
use Rattle.std.specs.Prelude.{slice_get, position, nat_eq, nat_lt, ◌==◌}
use Rattle.std.proofs.lemmas.Bool.{and_parts, cases_eq, cases_lt, ltb-true, eqb-true, false≢true}
use Rattle.std.proofs.lemmas.Bool.Decides.{nat_tests}
use Rattle.std.proofs.lemmas.List.{get_or-set_other, get_or-set_same, get_or_append_left, get_or_past, length-set}
use Rattle.std.proofs.lemmas.List.Quantifiers.{position-Some}
use Rattle.std.proofs.lemmas.Nat.{same_from_place, mul-add-lt}
use Rattle.std.proofs.lemmas.Option.{slice_get-get_or, slice_get_past, slice_get_within}
use Rattle.fabric_lane_tables.specs.Lanes.{AreLaneRows, HasRowAt, IsCountOf, IsLaneCount, IsPlace, IsRowPut, KeepsRows, LaneRowsOf, RowsOf, index_of, lane_by, lane_in, lanes_by, lanes_of, told_row}

-- a row that stands there already
pub found_at : (rows : List ℕ) (row place : ℕ) → position (nat_eq row) rows ≡ Some place → HasRowAt rows row place
found_at rows row place at =
    let here = position-Some (nat_eq row) rows place 0 at in
    slice_get-get_or rows place 0 here.0 ∙ ap (λ (n : ℕ). Some n) (sym (eqb-true row (get_or rows place 0) here.1))

-- a row more
kept_left : (old : List ℕ) (row place : ℕ) → place < length old → slice_get (old ++ row ∷ []) place ≡ slice_get old place
kept_left old row place low =
    let more : place < length (old ++ row ∷ []) = omega (arith, length-append old (row ∷ [])) in
    slice_get-get_or (old ++ row ∷ []) place 0 more
    ∙ ap (λ (n : ℕ). Some n) (get_or_append_left old (row ∷ []) 0 place low)
    ∙ sym (slice_get-get_or old place 0 low)

kept_by : (old : List ℕ) (row : ℕ) (b : Bool) → length old < 65535 → KeepsRows old (cond b old (old ++ row ∷ []))
kept_by old row true few = record { same = λ place low. refl; more = omega arith; few = omega arith }
kept_by old row false few = record {
  same = kept_left old row;
  more = omega (arith, length-append old (row ∷ []));
  few = omega (arith, length-append old (row ∷ []));
}

pub rows_kept : (old new : List ℕ) (row : ℕ) (b : Bool) → new ≡ cond b old (old ++ row ∷ []) → length old < 65535 → KeepsRows old new
rows_kept old new row b is few = subst (λ (rows : List ℕ). KeepsRows old rows) (sym is) (kept_by old row b few)

pub none_more : (rows : List ℕ) → length rows ≤ 65535 → KeepsRows rows rows
none_more rows few = record { same = λ place low. refl; more = omega arith; few = few }

-- an index is of one switch, port in and port out
one_index : (most s e p t f q : ℕ) → e < most + 1 → p < most + 1 → f < most + 1 → q < most + 1 → index_of most s e p ≡ index_of most t f q → (s ≡ t) × (e ≡ f) × (p ≡ q)
one_index most s e p t f q low_e low_p low_f low_q same =
    let b = same_from_place (s * (most + 1) + e) p (t * (most + 1) + f) q (most + 1) low_p low_q same in
    let c = same_from_place s e t f (most + 1) low_e low_f b.0 in
    (c.0, c.1, b.1)

-- .. and one of the places
pub index_low : (n most s e p count : ℕ) → s < n → e < most + 1 → p < most + 1 → count ≡ n * (most + 1) * (most + 1) → index_of most s e p < count
index_low n most s e p count low low_e low_p size =
    let a = mul-add-lt s (most + 1) e n low low_e in
    let b = mul-add-lt (s * (most + 1) + e) (most + 1) p (n * (most + 1)) (omega arith) low_p in
    omega arith

has_it : (table : LaneRowsOf) (e p : ℕ) → e < table.most + 1 → p < table.most + 1 → (nat_lt e (table.most + 1) && nat_lt p (table.most + 1)) ≡ true
has_it table e p low_e low_p = grind (arith, nat_tests)

pub told_at : (table : LaneRowsOf) (s e p : ℕ) → e < table.most + 1 → p < table.most + 1 → told_row table s e p ≡ slice_get table.rows (get_or table.places (index_of table.most s e p) 65535)
told_at table s e p low_e low_p = ap (λ (b : Bool). cond b (slice_get table.rows (get_or table.places (index_of table.most s e p) 65535)) None) (has_it table e p low_e low_p)

pub told_none : (table : LaneRowsOf) (s e p : ℕ) → (table.most + 1 ≤ e) ⊎ (table.most + 1 ≤ p) → told_row table s e p ≡ None
told_none table s e p past =
    let f : (nat_lt e (table.most + 1) && nat_lt p (table.most + 1)) ≡ false = elim past [
      | inl high ↦ grind (arith, nat_tests)
      | inr high ↦ grind (arith, nat_tests)
    ] in
    ap (λ (b : Bool). cond b (slice_get table.rows (get_or table.places (index_of table.most s e p) 65535)) None) f

-- a row that is put, at a place at which it stands
module _ (table : LaneRowsOf) (ok : AreLaneRows table) (rows : List ℕ) (switch entry port row place : ℕ) (kept : KeepsRows table.rows rows) (at : HasRowAt rows row place) (low : switch < table.switches) (low_e : entry < table.most + 1) (low_p : port < table.most + 1) (count : ℕ) where
  abbrev new : LaneRowsOf
  new = record { switches = table.switches; most = table.most; count = count; rows = rows; places = set table.places (index_of table.most switch entry port) place }

  here : index_of table.most switch entry port < length table.places
  here = index_low table.switches table.most switch entry port (length table.places) low low_e low_p ok.size

  there : told_row new switch entry port ≡ Some row
  there = told_at new switch entry port low_e low_p ∙ ap (slice_get rows) (get_or-set_same table.places (index_of table.most switch entry port) place 65535 here) ∙ at

  -- what stood at a place stands there
  same_place : (k : ℕ) → IsPlace table.rows k → slice_get rows k ≡ slice_get table.rows k
  same_place k (inl none) =
      let few = kept.few in
      let less = ok.rows in
      slice_get_past rows k (omega arith) ∙ sym (slice_get_past table.rows k (omega arith))
  same_place k (inr within) = kept.same k within

  any_place : (k : ℕ) → IsPlace table.rows (get_or table.places k 65535)
  any_place k = elim (cases_lt k (length table.places)) [
    | inl within ↦ ok.each k within
    | inr past ↦ inl (past_places k past)
  ]
    where
      past_places : (k : ℕ) → length table.places ≤ k → get_or table.places k 65535 ≡ 65535
      past_places k past = get_or_past table.places k 65535 past

  elsewhere : (s e p : ℕ) → (s ≢ switch) ⊎ (e ≢ entry) ⊎ (p ≢ port) → told_row new s e p ≡ told_row table s e p
  elsewhere s e p other = by (nat_lt e (table.most + 1) && nat_lt p (table.most + 1)) refl
    where
      apart : (nat_lt e (table.most + 1) && nat_lt p (table.most + 1)) ≡ true → index_of table.most s e p ≢ index_of table.most switch entry port
      apart is same =
          let both = and_parts (nat_lt e (table.most + 1)) (nat_lt p (table.most + 1)) is in
          let one = one_index table.most s e p switch entry port (ltb-true e (table.most + 1) both.0) (ltb-true p (table.most + 1) both.1) low_e low_p same in
          elim other [
            | inl a ↦ a one.0
            | inr (inl a) ↦ a one.1
            | inr (inr a) ↦ a one.2
          ]

      by : (b : Bool) → (nat_lt e (table.most + 1) && nat_lt p (table.most + 1)) ≡ b → cond b (slice_get rows (get_or (set table.places (index_of table.most switch entry port) place) (index_of table.most s e p) 65535)) None ≡ cond b (slice_get table.rows (get_or table.places (index_of table.most s e p) 65535)) None
      by false is = refl
      by true is =
          ap (slice_get rows) (get_or-set_other table.places (index_of table.most switch entry port) (index_of table.most s e p) place 65535 (apart is))
          ∙ same_place (get_or table.places (index_of table.most s e p) 65535) (any_place (index_of table.most s e p))

  chosen : (s e p : ℕ) (b : Bool) → (s == switch && (e == entry && p == port)) ≡ b → told_row new s e p ≡ cond b (Some row) (told_row table s e p)
  chosen s e p true is =
      let a = and_parts (eqb s switch) (eqb e entry && eqb p port) is in
      let b = and_parts (eqb e entry) (eqb p port) a.1 in
      let same_s = eqb-true s switch a.0 in
      let same_e = eqb-true e entry b.0 in
      let same_p = eqb-true p port b.1 in
      ap (λ (n : ℕ). told_row new n e p) same_s ∙ ap (λ (n : ℕ). told_row new switch n p) same_e ∙ ap (λ (n : ℕ). told_row new switch entry n) same_p ∙ there
  chosen s e p false is = elsewhere s e p (elim (cases_eq s switch) [
    | inl same_s ↦ elim (cases_eq e entry) [
      | inl same_e ↦ inr (inr (λ same_p. false≢true (sym is ∙ grind (arith, nat_tests))))
      | inr other ↦ inr (inl other)
    ]
    | inr other ↦ inl other
  ])

  pub row_put : IsRowPut (told_row table) (told_row new) switch entry port row
  row_put s e p = chosen s e p (s == switch && (e == entry && p == port)) refl

  pub rows_fit : count ≤ 15 → IsLaneCount (lanes_of new) count → AreLaneRows new
  rows_fit few_lanes lanes =
      let low_place = slice_get_within rows place row at in
      record {
        size = length-set table.places (index_of table.most switch entry port) place ∙ ok.size;
        few = ok.few;
        low = ok.low;
        rows = kept.few;
        few_lanes = few_lanes;
        lanes = lanes;
        each = λ k within. elim (cases_eq k (index_of table.most switch entry port)) [
          | inl same ↦ inr (subst (λ (n : ℕ). n < length rows) (sym (ap (λ (j : ℕ). get_or (set table.places (index_of table.most switch entry port) place) j 65535) same ∙ get_or-set_same table.places (index_of table.most switch entry port) place 65535 here)) low_place)
          | inr other ↦ elim (ok.each k (omega (arith, length-set table.places (index_of table.most switch entry port) place))) [
            | inl none ↦ inl (get_or-set_other table.places (index_of table.most switch entry port) k place 65535 other ∙ none)
            | inr less ↦ (let more = kept.more in inr (subst (λ (n : ℕ). n < length rows) (sym (get_or-set_other table.places (index_of table.most switch entry port) k place 65535 other)) (omega arith)))
          ]
        ];
      }

-- the lane of a level that there is
lane_there : (row level : ℕ) → level < 16 → lane_by level (Some row) ≡ lane_in row level
lane_there row level low =
    let b : ltb level 16 ≡ true = grind (arith, nat_tests) in
    ap (λ (t : Bool). cond t (lane_in row level) 15) b

lane_of_row : (row count level : ℕ) → IsCountOf row count → (lane_by level (Some row) ≡ 15) ⊎ (lane_by level (Some row) < count)
lane_of_row row count level of = elim (cases_lt level 16) [
  | inl low ↦ elim (of.each level low) [
    | inl none ↦ inl (lane_there row level low ∙ none)
    | inr less ↦ inr (subst (λ (n : ℕ). n < count) (sym (lane_there row level low)) less)
  ]
  | inr past ↦ (let b : ltb level 16 ≡ false = grind (arith, nat_tests) in inl (ap (λ (t : Bool). cond t (lane_in row level) 15) b))
]

-- how many lanes there are with one row more
module _ (old next : RowsOf) (switch entry port row : ℕ) (none : old switch entry port ≡ None) (put : IsRowPut old next switch entry port row) (count more : ℕ) (is : IsLaneCount (lanes_by old) count) (of : IsCountOf row more) where
  each_by : (s e p l : ℕ) (b : Bool) → (s == switch && (e == entry && p == port)) ≡ b → (lanes_by next s e p l ≡ 15) ⊎ (lanes_by next s e p l < max count more)
  each_by s e p l true at =
      let same : lanes_by next s e p l ≡ lane_by l (Some row) = ap (lane_by l) (put s e p ∙ ap (λ (b : Bool). cond b (Some row) (old s e p)) at) in
      elim (lane_of_row row more l of) [
        | inl last ↦ inl (same ∙ last)
        | inr less ↦ inr (omega arith)
      ]
  each_by s e p l false at =
      let same : lanes_by next s e p l ≡ lanes_by old s e p l = ap (lane_by l) (put s e p ∙ ap (λ (b : Bool). cond b (Some row) (old s e p)) at) in
      elim (is.each s e p l) [
        | inl last ↦ inl (same ∙ last)
        | inr less ↦ inr (omega arith)
      ]

  at_once : next switch entry port ≡ Some row
  at_once =
      let b : (switch == switch && (entry == entry && port == port)) ≡ true = grind (arith, nat_tests) in
      put switch entry port ∙ ap (λ (t : Bool). cond t (Some row) (old switch entry port)) b

  -- where a lane was told before, it is told still
  kept_lane : (s e p l : ℕ) (b : Bool) → (s == switch && (e == entry && p == port)) ≡ b → lanes_by old s e p l < 15 → lanes_by next s e p l ≡ lanes_by old s e p l
  kept_lane s e p l true at low =
      let a = and_parts (eqb s switch) (eqb e entry && eqb p port) at in
      let b = and_parts (eqb e entry) (eqb p port) a.1 in
      let same : old s e p ≡ None = ap (λ (n : ℕ). old n e p) (eqb-true s switch a.0) ∙ ap (λ (n : ℕ). old switch n p) (eqb-true e entry b.0) ∙ ap (λ (n : ℕ). old switch entry n) (eqb-true p port b.1) ∙ none in
      let last : lanes_by old s e p l ≡ 15 = ap (lane_by l) same in
      absurd (omega arith)
  kept_lane s e p l false at low = ap (lane_by l) (put s e p ∙ ap (λ (b : Bool). cond b (Some row) (old s e p)) at)

  pub count_put : IsLaneCount (lanes_by next) (max count more)
  count_put = record {
    each = λ s e p l. each_by s e p l (s == switch && (e == entry && p == port)) refl;
    some = elim (cases_lt count more) [
      | inl grows ↦ elim of.some [
        | inl bare ↦ absurd (omega arith)
        | inr (l, low_l, low, last) ↦ (
            let lane : lanes_by next switch entry port l ≡ lane_in row l = ap (lane_by l) at_once ∙ lane_there row l low_l in
            inr (switch, entry, port, l, omega arith, omega arith))
      ]
      | inr stays ↦ elim is.some [
        | inl bare ↦ inl (omega arith)
        | inr (s, e, p, l, low, last) ↦ (
            let lane = kept_lane s e p l (s == switch && (e == entry && p == port)) refl low in
            inr (s, e, p, l, omega arith, omega arith))
      ]
    ];
  }

-- where no row is told there is no lane
pub no_lanes : (told : RowsOf) → ((switch entry port : ℕ) → told switch entry port ≡ None) → IsLaneCount (lanes_by told) 0
no_lanes told none = record { each = λ s e p l. inl (ap (lane_by l) (none s e p)); some = inl refl }

count_low : (row count : ℕ) → IsCountOf row count → count ≤ 15
count_low row count of = elim of.some [
  | inl bare ↦ omega arith
  | inr (l, low_l, low, last) ↦ omega arith
]

-- a row more fits
pub put_fits : (table : LaneRowsOf) → AreLaneRows table → (rows : List ℕ) (switch entry port row place count more : ℕ) → KeepsRows table.rows rows → HasRowAt rows row place → switch < table.switches → entry < table.most + 1 → port < table.most + 1 → told_row table switch entry port ≡ None → IsCountOf row more → count ≡ max table.count more → AreLaneRows (record { switches = table.switches; most = table.most; count = count; rows = rows; places = set table.places (index_of table.most switch entry port) place })
put_fits table ok rows switch entry port row place count more kept at low low_e low_p none of are =
    let after : LaneRowsOf = record { switches = table.switches; most = table.most; count = count; rows = rows; places = set table.places (index_of table.most switch entry port) place } in
    let few = ok.few_lanes in
    let little = count_low row more of in
    let put = row_put table ok rows switch entry port row place kept at low low_e low_p count in
    let lanes = count_put (told_row table) (told_row after) switch entry port row none put table.count more ok.lanes of in
    rows_fit table ok rows switch entry port row place kept at low low_e low_p count (omega arith) (subst (λ (n : ℕ). IsLaneCount (lanes_of after) n) (sym are) lanes)
