use Rattle.std.proofs.Common.{◌≡◌, ◌≢◌, ◌∙◌, sym, ap, subst, refl, ℕ, ◌+◌, ◌<◌, List, [], ◌∷◌, ◌++◌, Option, Some, None, Bool, true, false, arith, length, get_or, map, ◌⊎◌, inl, inr}
use Rattle.std.specs.Prelude.{slice_index}
use Rattle.std.proofs.lemmas.Bool.{cases_eq}
use Rattle.std.proofs.lemmas.Option.{same_Some}
use Rattle.std.proofs.lemmas.List.Elements.{All-nil, All-push, All-weaker, All-append, All-map}
use Rattle.std.proofs.lemmas.List.Quantifiers.{all_pairs_push, Any-push}
use Rattle.an_base.specs.Values.{EntryOf}
use Rattle.an_base.specs.Rows.{RowOf}
use Rattle.an_base.specs.Numbers.{AreNumbers}
use Rattle.topo_graph.specs.Topology.{IsGraph}
use Rattle.table_build.specs.declared.way.Way.{Way}
use Rattle.table_build.specs.Exits.{AreExits, IsEntry, may_go_up}
use Rattle.table_build.specs.Routing.{place_at, ArePlaces, row_of}
use Rattle.table_build.specs.Tables.{IsRow, IsBefore, IsTable, IsWay, AreWays, AreRowsBelow}
use Rattle.common_values.proofs.PairLemmas.{AllPairs-map, AllPairs-append}
use Rattle.common_values.proofs.ListLemmas.{Any-front, Any-back, Any-map}

-- a number that no place has is no other member's
pub no_member : (es : List EntryOf) (numbers : List ℕ) (places : List (Option ℕ)) (x n : ℕ) → ArePlaces numbers (length es) places → (place_at places n ≡ None) ⊎ (place_at places n ≡ Some x) → (y : ℕ) → y < length es → y ≢ x → slice_index numbers y ≢ n
no_member es numbers places x n are (inl none) y low other same = absurd (let at = are.whole y low in let e : place_at places n ≡ Some y = subst (λ (m : ℕ). place_at places m ≡ Some y) same at in cc)
no_member es numbers places x n are (inr here) y low other same =
    let at = are.whole y low in
    let e : place_at places n ≡ Some y = subst (λ (m : ℕ). place_at places m ≡ Some y) same at in
    other (same_Some y x (sym e ∙ here))

-- at first there are no ways
pub no_ways : (es : List EntryOf) (numbers : List ℕ) (any : Bool) (x : ℕ) → AreWays es numbers any x 0 []
no_ways es numbers any x = record {
  each = All-nil (IsWay es numbers any x);
  below = All-nil (λ w. w.number < 0);
  whole = λ y low other less. absurd (omega arith);
  rising = λ i j d lt low. absurd (omega arith);
}

-- a number that no other member has
pub ways_same : (es : List EntryOf) (numbers : List ℕ) (any : Bool) (x n : ℕ) (ways : List Way) → AreWays es numbers any x n ways → ((y : ℕ) → y < length es → y ≢ x → slice_index numbers y ≢ n) → AreWays es numbers any x (n + 1) ways
ways_same es numbers any x n ways so_far none = record {
  each = so_far.each;
  below = All-weaker (λ w. w.number < n) (λ w. w.number < n + 1) (λ w low. omega arith) ways so_far.below;
  whole = λ y low other less. elim (cases_eq (slice_index numbers y) n) [
    | inl same ↦ absurd (none y low other same)
    | inr differ ↦ so_far.whole y low other (omega arith)
  ];
  rising = so_far.rising;
}

-- two numbers differ
order : (i j : ℕ) → i ≢ j → (i < j) ⊎ (j < i)
order i j differ = grind arith

-- one place has a number
pub one_number : (ns : List ℕ) (a b : ℕ) → AreNumbers ns → a < length ns → b < length ns → slice_index ns a ≡ slice_index ns b → a ≡ b
one_number ns a b is low low' same = elim (cases_eq a b) [
  | inl e ↦ e
  | inr differ ↦ elim (order a b differ) [
    | inl lt ↦ absurd (is.apart a b 0 lt low' same)
    | inr gt ↦ absurd (is.apart b a 0 gt low (sym same))
  ]
]

-- a number that another member has
pub ways_more : (es : List EntryOf) (numbers : List ℕ) (any : Bool) (x n : ℕ) (ways : List Way) (w : Way) → AreNumbers numbers → length numbers ≡ length es → AreWays es numbers any x n ways → w.number ≡ n → IsWay es numbers any x w → AreWays es numbers any x (n + 1) (ways ++ w ∷ [])
ways_more es numbers any x n ways w are count so_far at is = record {
  each = All-push (IsWay es numbers any x) ways w so_far.each is;
  below = All-push (λ v. v.number < n + 1) ways w (All-weaker (λ v. v.number < n) (λ v. v.number < n + 1) (λ v low. omega arith) ways so_far.below) (omega arith);
  whole = λ y low other less. elim (cases_eq (slice_index numbers y) n) [
    | inl same ↦ Any-push (λ v. v.place ≡ y) ways w (one_number numbers w.place y are (let h = is.low in omega arith) (omega arith) (sym is.number ∙ at ∙ sym same))
    | inr differ ↦ Any-front (λ v. v.place ≡ y) ways (w ∷ []) (so_far.whole y low other (omega arith))
  ];
  rising = all_pairs_push (λ a b. a.number < b.number) ways w so_far.rising (λ k d low. let h = so_far.below k d low in omega arith);
}

-- at first there are no rows
pub no_rows : (es : List EntryOf) (numbers : List ℕ) (any : Bool) (x : ℕ) → AreRowsBelow es numbers any x 0 []
no_rows es numbers any x = record {
  each = All-nil (IsRow es numbers any x);
  below = All-nil (λ r. r.entry < 0);
  whole = λ entry y less is low other. absurd (omega arith);
  rising = λ i j d lt low. absurd (omega arith);
}

-- nothing comes in here
pub rows_same : (es : List EntryOf) (numbers : List ℕ) (any : Bool) (x entry : ℕ) (rows : List RowOf) → AreRowsBelow es numbers any x entry rows → (IsEntry es x entry → ⊥) → AreRowsBelow es numbers any x (entry + 1) rows
rows_same es numbers any x entry rows so_far none = record {
  each = so_far.each;
  below = All-weaker (λ r. r.entry < entry) (λ r. r.entry < entry + 1) (λ r low. omega arith) rows so_far.below;
  whole = λ e y less is low other. elim (cases_eq e entry) [
    | inl same ↦ absurd (none (subst (λ (n : ℕ). IsEntry es x n) same is))
    | inr differ ↦ so_far.whole e y (omega arith) is low other
  ];
  rising = so_far.rising;
}

-- the row of a way
way_row : (es : List EntryOf) (numbers : List ℕ) (any : Bool) (x at entry : ℕ) (up : Bool) (w : Way) → at ≡ slice_index numbers x → IsEntry es x entry → up ≡ may_go_up es x entry → IsWay es numbers any x w → IsRow es numbers any x (row_of at entry up w)
way_row es numbers any x at entry up w number is_entry may is = record {
  at = number;
  entry = is_entry;
  to = w.place;
  to_low = is.low;
  to_other = is.other;
  number = is.number;
  exits = rw (← may) (go up);
}
  where
    go : (u : Bool) → AreExits es any u x w.place (row_of at entry u w).exits
    go true = is.up
    go false = is.down

-- the rows of one entry more
pub rows_more : (es : List EntryOf) (numbers : List ℕ) (any : Bool) (x at entry : ℕ) (up : Bool) (rows : List RowOf) (ways : List Way) → at ≡ slice_index numbers x → IsEntry es x entry → up ≡ may_go_up es x entry → AreNumbers numbers → length numbers ≡ length es → AreWays es numbers any x 127 ways → AreRowsBelow es numbers any x entry rows → AreRowsBelow es numbers any x (entry + 1) (rows ++ map (row_of at entry up) ways)
rows_more es numbers any x at entry up rows ways number is_entry may are count all so_far =
    let f = row_of at entry up in
    record {
      each = All-append (IsRow es numbers any x) rows (map f ways) so_far.each
          (All-map (IsRow es numbers any x) f ways (All-weaker (IsWay es numbers any x) (λ w. IsRow es numbers any x (f w)) (λ w is. way_row es numbers any x at entry up w number is_entry may is) ways all.each));
      below = All-append (λ r. r.entry < entry + 1) rows (map f ways)
          (All-weaker (λ r. r.entry < entry) (λ r. r.entry < entry + 1) (λ r low. omega arith) rows so_far.below)
          (All-map (λ r. r.entry < entry + 1) f ways (λ k d low. omega arith));
      whole = λ e y less is low other. elim (cases_eq e entry) [
        | inl same ↦ (
            let to = all.whole y low other (let m = (are.within y 0 (omega arith)).1 in omega arith) in
            let w_is = all.each to.0 to.1 to.2 in
            let w_number : to.1.number ≡ slice_index numbers y = subst (λ (v : Way). v.number ≡ slice_index numbers v.place) to.3 w_is.number ∙ ap (slice_index numbers) to.4 in
            Any-back (λ r. (r.entry ≡ e) × (r.to ≡ slice_index numbers y)) rows (map f ways)
            (Any-map (λ r. (r.entry ≡ e) × (r.to ≡ slice_index numbers y)) f ways (to.0, to.1, to.2, to.3, (sym same, w_number))))
        | inr differ ↦ Any-front (λ r. (r.entry ≡ e) × (r.to ≡ slice_index numbers y)) rows (map f ways) (so_far.whole e y (omega arith) is low other)
      ];
      rising = AllPairs-append IsBefore rows (map f ways) so_far.rising
          (AllPairs-map IsBefore f ways (λ i j d lt low. inr (refl, all.rising i j d lt low)))
          (λ k d low. let h = so_far.below k d low in All-map (IsBefore (get_or rows k d)) f ways (λ m e less. inl h));
    }

-- after the last entry all rows are there
pub all_rows : (es : List EntryOf) (numbers : List ℕ) (any : Bool) (x number : ℕ) (rows : List RowOf) → IsGraph es → number ≡ slice_index numbers x → AreRowsBelow es numbers any x 13 rows → IsTable es numbers any x (record { number = number; rows = rows })
all_rows es numbers any x number rows graph at so_far = record {
  number = at;
  each = so_far.each;
  whole = λ entry y is low other. so_far.whole entry y (entry_low entry is) is low other;
  rising = so_far.rising;
}
  where
    entry_low : (entry : ℕ) → IsEntry es x entry → entry < 13
    entry_low entry (inl first) = omega arith
    entry_low entry (inr (far, e)) = let w = graph.within x entry far e in omega (arith, w.port_most)
