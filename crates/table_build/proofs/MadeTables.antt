-- The table that is computed is the table of its member.
use Rattle.std.proofs.Common.{◌≡◌, ◌≢◌, ◌∙◌, sym, ap, subst, refl, ℕ, ◌<◌, ◌≤◌, List, [], ◌∷◌, Option, Some, None, Bool, true, false, arith, length, Contains, All, AllPairs, inl, inr, ◌==◌, ◌||◌}
use Rattle.common_values.proofs.RangeLemmas.{Contains-kept}
use Rattle.std.specs.Prelude.{filter, position, slice_index, Any, is_some}
use Rattle.std.specs.List.{flat_map, range_with_len}
use Rattle.std.specs.Option.{option_map_or}
use Rattle.std.proofs.lemmas.Bool.{cases_Bool, cases_eq, eqb-true, eq-eqb}
use Rattle.std.proofs.lemmas.Bool.Decides.{nat_tests}
use Rattle.std.proofs.lemmas.List.Elements.{All-nil, All-cons, All-weaker, All-contains, filter_passes}
use Rattle.std.proofs.lemmas.List.Kept.{AllPairs-filter}
use Rattle.std.proofs.lemmas.List.Quantifiers.{position-Some}
use Rattle.std.proofs.lemmas.List.Sums.{position_or_len_is}
use Rattle.an_base.specs.Values.{LifeId, EntryOf, TopoOf}
use Rattle.an_base.specs.Rows.{RowOf}
use Rattle.an_base.specs.Numbers.{AreNumbers}
use Rattle.topo_graph.specs.Topology.{far_of, place_of, IsGraph}
use Rattle.topo_graph.proofs.PlaceLemmas.{place_is}
use Rattle.updown.proofs.PlaceLemmas.{life_here}
use Rattle.table_build.specs.Exits.{AreExits, IsEntry, is_entry, may_go_up}
use Rattle.table_build.specs.Tables.{TableOf, IsRow, IsBefore, IsTable, IsTableOf}
use Rattle.table_build.proofs.TableLemmas.{one_number}
use Rattle.table_build.specs.Made.{exits_to, row_to, rows_for, rows_of, table_of}
use Rattle.table_build.proofs.MadeLists.{in_flat, flat_rising, in_range, range_rising}
use Rattle.table_build.proofs.MadeExits.{made_exits, one_exits}
use Rattle.common_values.proofs.FlatMapLemmas.{All-flat_map}
use Rattle.common_values.proofs.MemberLemmas.{one_rising}

differ : (x y : ℕ) → x ≢ y → (x == y) ≡ false
differ x y other = grind (arith, nat_tests)

-- the place of a number
number_at : (ns : List ℕ) (y : ℕ) → AreNumbers ns → y < length ns → position (λ m. m == slice_index ns y) ns ≡ Some y
number_at ns y are low =
    let first = position_or_len_is (λ m. m == slice_index ns y) ns y 0 (omega arith)
    (λ k lt. differ (slice_index ns k) (slice_index ns y) (are.apart k y 0 lt low))
    (λ _. eq-eqb (slice_index ns y) (slice_index ns y) refl) in
    rw first (grind (arith, nat_tests))

-- the row to another member
abbrev the_row : TopoOf → Bool → ℕ → ℕ → ℕ → ℕ → RowOf
the_row t any x entry n y = record { at = slice_index t.numbers x; entry = entry; to = n; exits = exits_to t.entries any (may_go_up t.entries x entry) x y }

abbrev IsKey : ℕ → ℕ → RowOf → Type 0
IsKey entry n r = (r.entry ≡ entry) × (r.to ≡ n)

row_to_other : (t : TopoOf) (any : Bool) (x entry n y : ℕ) → x ≢ y → row_to t any x entry n y ≡ the_row t any x entry n y ∷ []
row_to_other t any x entry n y other = rw (differ x y other) refl

row_to_same : (t : TopoOf) (any : Bool) (x entry n y : ℕ) → x ≡ y → row_to t any x entry n y ≡ []
row_to_same t any x entry n y same = rw (eq-eqb x y same) refl

-- the rows of one entry and number, of which there is at most one
each_for : (P : RowOf → Type 0) (t : TopoOf) (any : Bool) (x entry n : ℕ) → ((y : ℕ) → y < length t.numbers → slice_index t.numbers y ≡ n → x ≢ y → P (the_row t any x entry n y)) → All P (rows_for t any x entry n)
each_for P t any x entry n holds = go (position (λ m. m == n) t.numbers) refl
  where
    go : (o : Option ℕ) → position (λ m. m == n) t.numbers ≡ o → All P (option_map_or (row_to t any x entry n) o [])
    go None e = All-nil P
    go (Some y) e =
        let at = position-Some (λ m. m == n) t.numbers y 0 e in
        elim (cases_eq x y) [
          | inl same ↦ subst (All P) (sym (row_to_same t any x entry n y same)) (All-nil P)
          | inr other ↦ subst (All P) (sym (row_to_other t any x entry n y other)) (All-cons P (the_row t any x entry n y) [] (holds y at.0 (eqb-true (slice_index t.numbers y) n at.1) other) (All-nil P))
        ]

few_for : (t : TopoOf) (any : Bool) (x entry n : ℕ) → AllPairs IsBefore (rows_for t any x entry n)
few_for t any x entry n = go (position (λ m. m == n) t.numbers)
  where
    go : (o : Option ℕ) → AllPairs IsBefore (option_map_or (row_to t any x entry n) o [])
    go None = λ i j d lt low. absurd (omega arith)
    go (Some y) = elim (cases_eq x y) [
      | inl same ↦ subst (AllPairs IsBefore) (sym (row_to_same t any x entry n y same)) (λ i j d lt low. absurd (omega arith))
      | inr other ↦ subst (AllPairs IsBefore) (sym (row_to_other t any x entry n y other)) (λ i j d lt low. absurd (omega arith))
    ]

keys_for : (t : TopoOf) (any : Bool) (x entry n : ℕ) → All (IsKey entry n) (rows_for t any x entry n)
keys_for t any x entry n = each_for (IsKey entry n) t any x entry n (λ y low at other. (refl, refl))

there_for : (t : TopoOf) (any : Bool) (x entry y : ℕ) → AreNumbers t.numbers → y < length t.numbers → x ≢ y → Contains (rows_for t any x entry (slice_index t.numbers y)) (the_row t any x entry (slice_index t.numbers y) y)
there_for t any x entry y are low other =
    subst (λ (o : Option ℕ). Contains (option_map_or (row_to t any x entry (slice_index t.numbers y)) o []) (the_row t any x entry (slice_index t.numbers y) y)) (sym (number_at t.numbers y are low))
    (subst (λ (rs : List RowOf). Contains rs (the_row t any x entry (slice_index t.numbers y) y)) (sym (row_to_other t any x entry (slice_index t.numbers y) y other)) (0, omega arith, refl))

-- the rows of one entry, for numbers of a list
abbrev rows_at : TopoOf → Bool → ℕ → List ℕ → ℕ → List RowOf
rows_at t any x ns entry = flat_map (rows_for t any x entry) ns

entries_at : (t : TopoOf) (any : Bool) (x : ℕ) (ns : List ℕ) (entry : ℕ) → All (λ r. r.entry ≡ entry) (rows_at t any x ns entry)
entries_at t any x ns entry = All-flat_map (λ r. r.entry ≡ entry) (rows_for t any x entry) ns (λ k d low. each_for (λ r. r.entry ≡ entry) t any x entry _ (λ y l at other. refl))

rising_at : (t : TopoOf) (any : Bool) (x : ℕ) (ns : List ℕ) (entry : ℕ) → AllPairs (λ a b. a < b) ns → AllPairs IsBefore (rows_at t any x ns entry)
rising_at t any x ns entry rising =
    flat_rising IsBefore (λ a b. a < b) (rows_for t any x entry) ns rising (few_for t any x entry)
    (λ n m less. All-weaker (IsKey entry n) (λ a. All (IsBefore a) (rows_for t any x entry m))
    (λ a key. All-weaker (IsKey entry m) (IsBefore a) (λ b other. inr (key.0 ∙ sym other.0, (let p = key.1 in let q = other.1 in omega arith))) (rows_for t any x entry m) (keys_for t any x entry m))
    (rows_for t any x entry n) (keys_for t any x entry n))

-- all rows, for entries and numbers of lists
abbrev all_at : TopoOf → Bool → ℕ → List ℕ → List ℕ → List RowOf
all_at t any x ns entries = flat_map (rows_at t any x ns) entries

rising_all : (t : TopoOf) (any : Bool) (x : ℕ) (ns entries : List ℕ) → AllPairs (λ a b. a < b) ns → AllPairs (λ a b. a < b) entries → AllPairs IsBefore (all_at t any x ns entries)
rising_all t any x ns entries rising rising' =
    flat_rising IsBefore (λ a b. a < b) (rows_at t any x ns) entries rising' (λ entry. rising_at t any x ns entry rising)
    (λ e f less. All-weaker (λ r. r.entry ≡ e) (λ a. All (IsBefore a) (rows_at t any x ns f))
    (λ a here. All-weaker (λ r. r.entry ≡ f) (IsBefore a) (λ b there. inl (omega arith)) (rows_at t any x ns f) (entries_at t any x ns f))
    (rows_at t any x ns e) (entries_at t any x ns e))

-- what passes is an entry
entry_from : (es : List EntryOf) (x entry : ℕ) → is_entry es x entry ≡ true → IsEntry es x entry
entry_from es x entry test = elim (cases_Bool (entry == 0)) [
  | inl first ↦ inl (eqb-true entry 0 first)
  | inr other ↦ inr (go (far_of es x entry) refl (subst (λ (b : Bool). (b || is_some (far_of es x entry)) ≡ true) other test))
]
  where
    go : (o : Option (ℕ × ℕ)) → far_of es x entry ≡ o → is_some o ≡ true → (far : ℕ × ℕ) × (far_of es x entry ≡ Some far)
    go None e t = absurd (cc)
    go (Some far) e t = (far, e)

pub entry_passes : (es : List EntryOf) (x entry : ℕ) → IsEntry es x entry → is_entry es x entry ≡ true
entry_passes es x entry (inl first) = subst (λ (b : Bool). (b || is_some (far_of es x entry)) ≡ true) (sym (eq-eqb entry 0 first)) refl
entry_passes es x entry (inr (far, e)) = subst (λ (o : Option (ℕ × ℕ)). ((entry == 0) || is_some o) ≡ true) (sym e) (go (entry == 0))
  where
    go : (b : Bool) → (b || true) ≡ true
    go true = refl
    go false = refl

pub entry_low : (es : List EntryOf) (x entry : ℕ) → IsGraph es → IsEntry es x entry → entry < 13
entry_low es x entry graph (inl first) = omega arith
entry_low es x entry graph (inr (far, e)) = let w = graph.within x entry far e in omega (arith, w.port_most)

-- each is a row of the member at x
is_row : (t : TopoOf) (any : Bool) (x entry n : ℕ) → IsGraph t.entries → length t.numbers ≡ length t.entries → x < length t.entries → IsEntry t.entries x entry → All (IsRow t.entries t.numbers any x) (rows_for t any x entry n)
is_row t any x entry n graph count low entered = each_for (IsRow t.entries t.numbers any x) t any x entry n (λ y within at other. record {
  at = refl;
  entry = entered;
  to = y;
  to_low = omega arith;
  to_other = λ same. other (sym same);
  number = sym at;
  exits = made_exits t.entries any (may_go_up t.entries x entry) x y graph low;
})

is_row_all : (t : TopoOf) (any : Bool) (x : ℕ) (ns entries : List ℕ) → IsGraph t.entries → length t.numbers ≡ length t.entries → x < length t.entries → All (λ entry. is_entry t.entries x entry ≡ true) entries → All (IsRow t.entries t.numbers any x) (all_at t any x ns entries)
is_row_all t any x ns entries graph count low passes =
    All-flat_map (IsRow t.entries t.numbers any x) (rows_at t any x ns) entries
    (All-weaker (λ entry. is_entry t.entries x entry ≡ true) (λ entry. All (IsRow t.entries t.numbers any x) (rows_at t any x ns entry))
    (λ entry test. All-flat_map (IsRow t.entries t.numbers any x) (rows_for t any x entry) ns (λ k d l. is_row t any x entry _ graph count low (entry_from t.entries x entry test)))
    entries passes)

whole_all : (t : TopoOf) (any : Bool) (x : ℕ) (ns entries : List ℕ) (entry y : ℕ) → AreNumbers t.numbers → y < length t.numbers → x ≢ y → Contains ns (slice_index t.numbers y) → Contains entries entry → Any (λ r. (r.entry ≡ entry) × (r.to ≡ slice_index t.numbers y)) (all_at t any x ns entries)
whole_all t any x ns entries entry y are low other number entered =
    let r = the_row t any x entry (slice_index t.numbers y) y in
    let h : Contains (all_at t any x ns entries) r = in_flat (rows_at t any x ns) entries entry r entered (in_flat (rows_for t any x entry) ns (slice_index t.numbers y) r number (there_for t any x entry y are low other)) in
    (h.0, r, h.1, h.2, (refl, refl))

-- the table over such lists
table_over : (t : TopoOf) (any : Bool) (x : ℕ) (ns all : List ℕ) → IsGraph t.entries → AreNumbers t.numbers → length t.numbers ≡ length t.entries → x < length t.entries → AllPairs (λ a b. a < b) ns → AllPairs (λ a b. a < b) all → ((n : ℕ) → 1 ≤ n → n ≤ 126 → Contains ns n) → ((e : ℕ) → e < 13 → Contains all e)
    → IsTable t.entries t.numbers any x (record { number = slice_index t.numbers x; rows = all_at t any x ns (filter (is_entry t.entries x) all) })
table_over t any x ns all graph are count low rising rising' has has' = record {
  number = refl;
  each = is_row_all t any x ns (filter (is_entry t.entries x) all) graph count low (filter_passes (is_entry t.entries x) all);
  whole = λ entry y is within other.
      let m = are.within y 0 (omega arith) in
      whole_all t any x ns (filter (is_entry t.entries x) all) entry y are (omega arith) (λ same. other (sym same)) (has (slice_index t.numbers y) m.0 m.1)
      (Contains-kept (is_entry t.entries x) all entry (has' entry (entry_low t.entries x entry graph is)) (entry_passes t.entries x entry is));
  rising = rising_all t any x ns (filter (is_entry t.entries x) all) rising (AllPairs-filter (λ a b. a < b) (is_entry t.entries x) all rising');
}

-- the table of a place, if there is one
abbrev table_by : TopoOf → Bool → Option ℕ → TableOf
table_by t any o = record { number = option_map_or (slice_index t.numbers) o 0; rows = option_map_or (rows_of t any) o [] }

place_table : (t : TopoOf) (any : Bool) (x : ℕ) → IsGraph t.entries → AreNumbers t.numbers → length t.numbers ≡ length t.entries → x < length t.entries → IsTable t.entries t.numbers any x (table_by t any (Some x))
place_table t any x graph are count low =
    table_over t any x (range_with_len 1 126) (range_with_len 0 13) graph are count low (range_rising 1 126) (range_rising 0 13)
    (λ n least most. in_range 1 126 n least (omega arith)) (λ e less. in_range 0 13 e (omega arith) (omega arith))

table_is : (t : TopoOf) (any : Bool) (life : LifeId) (x : ℕ) → place_of t.entries life ≡ Some x → table_of t any life ≡ table_by t any (Some x)
unfolding table_of
table_is t any life x e = ap (table_by t any) e

-- what is made is the table of the member
pub made_table : (t : TopoOf) (any : Bool) (life : LifeId) → IsGraph t.entries → AreNumbers t.numbers → length t.numbers ≡ length t.entries → Any (λ e. e.life ≡ life) t.entries → IsTableOf t.entries t.numbers any life (table_of t any life)
made_table t any life graph are count member =
    let here = life_here t.entries life graph member in
    (here.0, here.1, subst (IsTable t.entries t.numbers any here.0) (sym (table_is t any life here.0 here.1)) (place_table t any here.0 graph are count here.2))

-- rows with the same parts are one
same_row : (r s : RowOf) → r.at ≡ s.at → r.entry ≡ s.entry → r.to ≡ s.to → r.exits ≡ s.exits → r ≡ s
same_row r s a b c d = λ i. record { at = a i; entry = b i; to = c i; exits = d i }

pub not_both : (a b : RowOf) → IsBefore a b → IsBefore b a → ⊥
not_both a b (inl p) (inl q) = omega arith
not_both a b (inl p) (inr (q, r)) = omega arith
not_both a b (inr (p, r)) (inl q) = omega arith
not_both a b (inr (p, r)) (inr (q, s)) = omega arith

-- a row of one table is one of each
row_too : (es : List EntryOf) (numbers : List ℕ) (any : Bool) (x : ℕ) (t u : TableOf) → AreNumbers numbers → length numbers ≡ length es → IsTable es numbers any x t → IsTable es numbers any x u → (r : RowOf) → Contains t.rows r → Contains u.rows r
row_too es numbers any x t u are count a b r has =
    let row : IsRow es numbers any x r = All-contains (IsRow es numbers any x) t.rows r a.each has in
    let other = b.whole r.entry row.to row.entry row.to_low row.to_other in
    let s : RowOf = other.1 in
    let in_u : Contains u.rows s = (other.0, other.2, other.3) in
    let its : IsRow es numbers any x s = All-contains (IsRow es numbers any x) u.rows s b.each in_u in
    let entry : s.entry ≡ r.entry = other.4.0 in
    let number : s.to ≡ slice_index numbers row.to = other.4.1 in
    let to : its.to ≡ row.to = one_number numbers its.to row.to are (let l = its.to_low in omega arith) (let l = row.to_low in omega arith) (sym its.number ∙ number) in
    let exits : AreExits es any (may_go_up es x r.entry) x row.to s.exits = subst (λ (z : ℕ). AreExits es any (may_go_up es x r.entry) x z s.exits) to (subst (λ (e : ℕ). AreExits es any (may_go_up es x e) x its.to s.exits) entry its.exits) in
    let same : s ≡ r = same_row s r (its.at ∙ sym row.at) entry (number ∙ sym row.number) (one_exits es any (may_go_up es x r.entry) x row.to s.exits r.exits exits row.exits) in
    subst (Contains u.rows) same in_u

-- so there is one table of a place
pub one_table : (es : List EntryOf) (numbers : List ℕ) (any : Bool) (x : ℕ) (t u : TableOf) → AreNumbers numbers → length numbers ≡ length es → IsTable es numbers any x t → IsTable es numbers any x u → t ≡ u
one_table es numbers any x t u are count a b =
    let number : t.number ≡ u.number = a.number ∙ sym b.number in
    let rows : t.rows ≡ u.rows = one_rising IsBefore t.rows u.rows (λ r s has has' before after. not_both r s before after) a.rising b.rising (row_too es numbers any x t u are count a b) (row_too es numbers any x u t are count b a) in
    λ i. record { number = number i; rows = rows i }

-- whatever is the table of the member is what is made
pub only_table : (t : TopoOf) (any : Bool) (life : LifeId) (u : TableOf) → IsGraph t.entries → AreNumbers t.numbers → length t.numbers ≡ length t.entries → IsTableOf t.entries t.numbers any life u → u ≡ table_of t any life
only_table t any life u graph are count (x, e, is) =
    one_table t.entries t.numbers any x u (table_by t any (Some x)) are count is (place_table t any x graph are count (place_is t.entries x life e).0)
    ∙ sym (table_is t any life x e)
