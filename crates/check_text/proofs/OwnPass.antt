use Rattle.std.proofs.Common.{◌≡◌, ◌∙◌, sym, ap, subst, refl, ℕ, zero, suc, ◌+◌, ◌<◌, ◌==◌, List, [], ◌∷◌, ◌++◌, Option, Some, Bool, true, false, arith, length, get_or, map, cond, All, AllPairs, Contains, inl, inr, IsTrue}
use Rattle.std.specs.Prelude.{filter, find, unwrap_or}
use Rattle.std.specs.Ordering.{is_le}
use Rattle.std.specs.Fmt.{decimal}
use Rattle.std.specs.Option.{option_map}
use Rattle.std.specs.List.{flat_map, range_with_len, zip}
use Rattle.std.proofs.lemmas.Bool.{eqb-true, eqb-false, eq-eqb}
use Rattle.std.proofs.lemmas.List.{get_or-map, get_or_default, length-map, same_lists}
use Rattle.std.proofs.lemmas.List.Elements.{All-nil, All-cons, All-append, All-map, All-filter, All-weaker, All-contains, filter_passes, Contains-get_or, Contains-append_left, Contains-append_right}
use Rattle.std.proofs.lemmas.List.Folds.{Any-from_list_any, list_any-from_Any}
use Rattle.std.proofs.lemmas.List.FromFn.{get_or-range_with_len, length-range_with_len, get_or-map-range_with_len}
use Rattle.an_base.specs.Values.{LifeId, EntryOf}
use Rattle.an_base.specs.Rows.{RowOf}
use Rattle.an_base.specs.Numbers.{AreNumbers}
use Rattle.an_base.specs.Order.{life_cmp}
use Rattle.an_base.specs.Tree.{Walk}
use Rattle.an_base.proofs.OrderLaws.{both_least}
use Rattle.net_graph.specs.Wires.{Wires, IsWired, uid_of, network}
use Rattle.net_graph.specs.Forest.{IsComponent, IsMember, IsEntry as IsEntryOf}
use Rattle.net_graph.proofs.CollectLemmas.{uid_one}
use Rattle.net_graph.proofs.FarLemmas.{far_back}
use Rattle.net_graph.proofs.WalkLemmas.{walk_back}
use Rattle.net_graph.proofs.OneForest.{one_component, one_forest_of}
use Rattle.common_values.proofs.MemberLemmas.{Contains-here, Contains-later, Contains-cons_cases, Contains-map, Any-from_map}
use Rattle.common_values.proofs.FlatMapLemmas.{All-flat_map}
use Rattle.common_values.proofs.ListLemmas.{AllPairs-head, AllPairs-tail, Any-map}
use Rattle.net_graph.specs.declared.wiring.SwitchAt.{SwitchAt}
use Rattle.table_script.specs.declared.table_draft.NumberAt.{NumberAt}
use Rattle.net_script.specs.Rules.{place}
use Rattle.net_script.specs.Scripts.{ScriptOf, IsScript}
use Rattle.table_script.specs.Tables.{TablesOf}
use Rattle.table_script.specs.TableDrafts.{TableDraftOf}
use Rattle.row_text.specs.TableForms.{TableForm, ComponentLine, MemberLine, NumberLine, RowLine, EndLine}
use Rattle.table_script.specs.TableRules.{row_of, tables_of, AreNumbersApart, number_of as drafted_number}
use Rattle.common_lines.specs.Words.{number_value}
use Rattle.common_lines.proofs.SpellLemmas.{decimal_value}
use Rattle.topo_graph.specs.Topology.{IsGraph, IsTree, nothing, entry_at, life_at}
use Rattle.switch_numbering.specs.Numbering.{numbering}
use Rattle.table_build.specs.Exits.{is_entry}
use Rattle.table_build.specs.Tables.{TableOf, IsRow}
use Rattle.dep_check.specs.declared.refusal.CheckRefusal.{CheckRefusal}
use Rattle.dep_check.specs.declared.refusal.CheckRefusal.TheVariants.{Cycle, NotJoined, IllegalExit, OutOfMemory}
use Rattle.dep_check.specs.Channels.{channel_cmp, far_at, LeadsTo}
use Rattle.dep_check.specs.Laws.{AreTables as AllTables}
use Rattle.dep_check.proofs.TableLaws.{tables_no_cycle, tables_joined, tables_legal}
use Rattle.check_text.specs.Check.{Ranked, number_of, numbers_of, is_member, members_of, is_row_of, renumbered, rows_of, IsJudged, IsRefusedFor}
use Rattle.expect_text.specs.Expect.{Part, table_at}
use Rattle.row_text.specs.Names.{life_text}
use Rattle.row_text.specs.Rows.{rows_at}
use Rattle.expect_text.proofs.PartLemmas.{IsPart, are_parts}
use Rattle.check_text.proofs.ComponentLemmas.{uid_is, number_is}
use Rattle.an_base.proofs.WalkLemmas.{walk_then}
use Rattle.check_text.proofs.OwnNames.{life_named}
use Rattle.check_text.proofs.OwnForms.{IsNamed, AreParts, numbers_in, rows_in, drafted}
use Rattle.expect_text.specs.Expect.{component_form, member_form, number_form, part_forms, expect_forms}
use Rattle.row_text.specs.Rows.{pair_word, row_form, member_rows, table_forms}
use Rattle.check_text.proofs.OwnApart.{own_numbers}
use Rattle.check_text.proofs.OwnLines.{pair_says}
use Rattle.common_graph.proofs.OneAnswer.{no_both}
use Rattle.table_build.proofs.MadeTables.{entry_passes, entry_low}
use Rattle.common_values.proofs.RangeLemmas.{Contains-kept}
use Rattle.table_build.proofs.MadeLists.{in_flat}

-- LISTS

-- what passes a test stays among those that do
Contains-filter : {X : Type 0} (p : X → Bool) (x : X) (xs : List X) → p x ≡ true → Contains xs x → Contains (filter p xs) x
Contains-filter p x xs is has = Contains-kept p xs x has is

-- what one of the lists has they have together
Contains-flat_map : {X A : Type 0} (f : X → List A) (a : A) (x : X) (xs : List X) → Contains xs x → Contains (f x) a → Contains (flat_map f xs) a
Contains-flat_map f a x xs has in' = in_flat f xs x a has in'

-- the image of an element is among the images
Contains-image : {X Y : Type 0} (f : X → Y) (x : X) (xs : List X) → Contains xs x → Contains (map f xs) (f x)
Contains-image f x xs has = Contains-map f xs (f x) (has.0, x, has.1, has.2, refl)

-- elements at one place of two lists are a pair
Contains-zip : {X Y : Type 0} (xs : List X) (ys : List Y) (i : ℕ) (d : X) (e : Y) → i < length xs → i < length ys → Contains (zip xs ys) (get_or xs i d, get_or ys i e)
Contains-zip [] ys i d e low high = absurd (omega arith)
Contains-zip (x ∷ xs) [] i d e low high = absurd (omega arith)
Contains-zip (x ∷ xs) (y ∷ ys) zero d e low high = Contains-here (x, y) (zip xs ys)
Contains-zip (x ∷ xs) (y ∷ ys) (suc i) d e low high = Contains-later (x, y) (get_or xs i d, get_or ys i e) (zip xs ys) (Contains-zip xs ys i d e (omega arith) (omega arith))

-- where no two numbers are of one switch, the first found for a switch is its number
find_one : (w : Wires) (xs : List NumberAt) (n : NumberAt) → AllPairs (AreNumbersApart w) xs → Contains xs n → find (λ x. x.s == n.s) xs ≡ Some n
find_one w [] n apart has = absurd (let l = has.1 in omega arith)
find_one w (x ∷ xs) n apart has = go (find_one w xs n (AllPairs-tail (AreNumbersApart w) x xs apart)) (x.s == n.s) refl
  where
    go : (Contains xs n → find (λ y. y.s == n.s) xs ≡ Some n) → (b : Bool) → (x.s == n.s) ≡ b → cond b (Some x) (find (λ y. y.s == n.s) xs) ≡ Some n
    go on true e = elim (Contains-cons_cases x n xs has) [
      | inl same ↦ ap Some same
      | inr later ↦ absurd ((All-contains (AreNumbersApart w x) xs n (AllPairs-head (AreNumbersApart w) x xs apart) later).switches (eqb-true x.s n.s e))
    ]
    go on false e = elim (Contains-cons_cases x n xs has) [
      | inl same ↦ absurd (eqb-false x.s n.s e (ap (λ (m : NumberAt). m.s) same))
      | inr later ↦ on later
    ]

-- WHAT FORMS SAY

-- what one form says
abbrev form_numbers : ScriptOf → TableForm → List NumberAt
form_numbers s (NumberLine name n) = record { s = place s.switch_names name; number = number_value n } ∷ []
form_numbers s (ComponentLine more) = []
form_numbers s (MemberLine more) = []
form_numbers s (RowLine name entry pairs) = []
form_numbers s EndLine = []

abbrev form_rows : ScriptOf → TableForm → List RowOf
form_rows s (RowLine name entry pairs) = map (row_of (place s.switch_names name) (number_value entry)) pairs
form_rows s (ComponentLine more) = []
form_rows s (MemberLine more) = []
form_rows s (NumberLine name n) = []
form_rows s EndLine = []

-- forms say what each of them says
numbers_flat : (s : ScriptOf) (fs : List TableForm) → numbers_in s fs ≡ flat_map (form_numbers s) fs
numbers_flat s [] = refl
numbers_flat s (NumberLine name n ∷ fs) = ap (λ (ns : List NumberAt). record { s = place s.switch_names name; number = number_value n } ∷ ns) (numbers_flat s fs)
numbers_flat s (ComponentLine more ∷ fs) = numbers_flat s fs
numbers_flat s (MemberLine more ∷ fs) = numbers_flat s fs
numbers_flat s (RowLine name entry pairs ∷ fs) = numbers_flat s fs
numbers_flat s (EndLine ∷ fs) = numbers_flat s fs

rows_flat : (s : ScriptOf) (fs : List TableForm) → rows_in s fs ≡ flat_map (form_rows s) fs
rows_flat s [] = refl
rows_flat s (RowLine name entry pairs ∷ fs) = ap (λ (rs : List RowOf). map (row_of (place s.switch_names name) (number_value entry)) pairs ++ rs) (rows_flat s fs)
rows_flat s (ComponentLine more ∷ fs) = rows_flat s fs
rows_flat s (MemberLine more ∷ fs) = rows_flat s fs
rows_flat s (NumberLine name n ∷ fs) = rows_flat s fs
rows_flat s (EndLine ∷ fs) = rows_flat s fs

-- THE FORMS OF A PART

-- the number of a member has a form
number_there : (s : ScriptOf) (p : Part) (i : ℕ) → i < length p.entries → i < length (numbering p.entries) → Contains (part_forms s p) (number_form s (entry_at p.entries i, get_or (numbering p.entries) i 0))
number_there s p i low high =
    let f = number_form s (entry_at p.entries i, get_or (numbering p.entries) i 0) in
    let numbers = map (number_form s) (zip p.entries (numbering p.entries)) in
    let tables = table_forms s p.entries 0 p.tables in
    Contains-later (component_form s p.entries) f (map (member_form s) p.entries ++ (numbers ++ tables))
    (Contains-append_right (map (member_form s) p.entries) (numbers ++ tables) f
    (Contains-append_left numbers tables f
    (Contains-image (number_form s) (entry_at p.entries i, get_or (numbering p.entries) i 0) (zip p.entries (numbering p.entries)) (Contains-zip p.entries (numbering p.entries) i nothing 0 low high))))

-- so has each entry of its table
Contains-tables : (s : ScriptOf) (es : List EntryOf) (x : ℕ) (ts : List TableOf) (i n : ℕ) (f : TableForm) → i < length ts → n ≡ x + i → Contains (member_rows s es n (table_at ts i).rows) f → Contains (table_forms s es x ts) f
Contains-tables s es x [] i n f low at has = absurd (omega arith)
Contains-tables s es x (t ∷ ts) zero n f low at has =
    let here : n ≡ x = omega arith in
    Contains-append_left (member_rows s es x t.rows) (table_forms s es (x + 1) ts) f (subst (λ (m : ℕ). Contains (member_rows s es m t.rows) f) here has)
Contains-tables s es x (t ∷ ts) (suc i) n f low at has =
    Contains-append_right (member_rows s es x t.rows) (table_forms s es (x + 1) ts) f (Contains-tables s es (x + 1) ts i n f (omega arith) (omega arith) has)

row_there : (s : ScriptOf) (p : Part) (i : ℕ) (f : TableForm) → i < length p.tables → Contains (member_rows s p.entries i (table_at p.tables i).rows) f → Contains (part_forms s p) f
row_there s p i f low has =
    let numbers = map (number_form s) (zip p.entries (numbering p.entries)) in
    let tables = table_forms s p.entries 0 p.tables in
    Contains-later (component_form s p.entries) f (map (member_form s) p.entries ++ (numbers ++ tables))
    (Contains-append_right (map (member_form s) p.entries) (numbers ++ tables) f
    (Contains-append_right numbers tables f (Contains-tables s p.entries 0 p.tables i i f low (omega arith) has)))

-- what holds of the lines of each table holds of the lines of all
All-tables : (s : ScriptOf) (es : List EntryOf) (Q : TableForm → Type 0) (x : ℕ) (ts : List TableOf) → ((i n : ℕ) → i < length ts → n ≡ x + i → All Q (member_rows s es n (table_at ts i).rows)) → All Q (table_forms s es x ts)
All-tables s es Q x [] each = All-nil Q
All-tables s es Q x (t ∷ ts) each =
    All-append Q (member_rows s es x t.rows) (table_forms s es (x + 1) ts) (each 0 x (omega arith) (omega arith))
    (All-tables s es Q (x + 1) ts (λ i n low at. each (suc i) n (omega arith) (omega arith)))

-- the other lines of a part say no rows
part_rows : (s : ScriptOf) (P : RowOf → Type 0) (p : Part) → ((i : ℕ) → i < length p.tables → All (λ f. All P (form_rows s f)) (member_rows s p.entries i (table_at p.tables i).rows)) → All (λ f. All P (form_rows s f)) (part_forms s p)
part_rows s P p each =
    let Q : TableForm → Type 0 = λ f. All P (form_rows s f) in
    let numbers = map (number_form s) (zip p.entries (numbering p.entries)) in
    let tables = table_forms s p.entries 0 p.tables in
    All-cons Q (component_form s p.entries) (map (member_form s) p.entries ++ (numbers ++ tables)) (All-nil P)
    (All-append Q (map (member_form s) p.entries) (numbers ++ tables) (All-map Q (member_form s) p.entries (λ k d low. All-nil P))
    (All-append Q numbers tables (All-map Q (number_form s) (zip p.entries (numbering p.entries)) (λ k d low. All-nil P))
    (All-tables s p.entries Q 0 p.tables (λ i n low at.
    let here : i ≡ n = omega arith in
    subst (λ (m : ℕ). All Q (member_rows s p.entries m (table_at p.tables i).rows)) here (each i low)))))

-- ONE COMPONENT

-- the root of a component is not above that of another one with which it shares a switch
root_low : (w : Wires) (r s x m n : ℕ) (a : List EntryOf) → IsWired w → IsComponent w r a → s < length w.switches → Walk (network w) m x r → Walk (network w) n x s → IsTrue (is_le (life_cmp ((network w).life r) ((network w).life s)))
root_low w r s x m n a wired is low to_r to_s =
    let g = network w in
    let walk = walk_then g n m s x r (walk_back g n x s (far_back w wired) to_s) to_r in
    let there = is.whole s walk.0 low walk.1 in
    subst (λ (l : LifeId). IsTrue (is_le (life_cmp (g.life r) l))) there.4.life (All-contains (λ e. IsTrue (is_le (life_cmp (g.life r) e.life))) a there.1 is.least (there.0, there.2, there.3))

-- two components that share a switch are one
same_component : (w : Wires) (r s x m n : ℕ) (a b : List EntryOf) → IsWired w → IsComponent w r a → IsComponent w s b → Walk (network w) m x r → Walk (network w) n x s → a ≡ b
same_component w r s x m n a b wired is_a is_b to_r to_s =
    let g = network w in
    let lives = both_least (g.life r) (g.life s) (root_low w r s x m n a wired is_a is_b.root to_r to_s) (root_low w s r x n m b wired is_b is_a.root to_s to_r) in
    let same : r ≡ s = uid_one w r s wired is_a.root is_b.root (ap (λ (l : LifeId). l.uid) lives) in
    one_component w s a b wired (subst (λ (q : ℕ). IsComponent w q a) same is_a) is_b

-- THE ROWS OF A PART

-- a row is that of the table of a member, at its switch
record IsOwnRow (s : ScriptOf) (p : Part) (root : ℕ) (r : RowOf) : Type 0 where
  place : ℕ
  low : place < length p.entries
  switch : ℕ
  in_range : switch < length s.wires.switches
  is : IsEntryOf s.wires root switch (entry_at p.entries place)
  row : RowOf
  of_table : IsRow p.entries (numbering p.entries) s.any_routes place row
  same : r ≡ record { at = switch; entry = row.entry; to = row.to; exits = row.exits }

-- the member at a place
member_at : (s : ScriptOf) (p : Part) (part : IsPart s p) (i : ℕ) → i < length p.entries → IsMember s.wires part.root (entry_at p.entries i)
member_at s p part i low = part.component.only i nothing low

-- a pair in a line of a member says its row
says : (s : ScriptOf) (p : Part) (part : IsPart s p) (i x entry : ℕ) (r : RowOf) → IsNamed s (life_at p.entries i) x → entry < 13 → r.entry ≡ entry → IsRow p.entries (numbering p.entries) s.any_routes i r → row_of (place s.switch_names (life_text s (life_at p.entries i))) (number_value (decimal entry)) (pair_word r) ≡ record { at = x; entry = r.entry; to = r.to; exits = r.exits }
says s p part i x entry r named small same is =
    let name = life_text s (life_at p.entries i) in
    let mk : ℕ → ℕ → RowOf = λ a e. record { at = a; entry = e; to = r.to; exits = r.exits } in
    pair_says (place s.switch_names name) (number_value (decimal entry)) p.entries (numbering p.entries) s.any_routes i r part.graph part.numbers part.count is
    ∙ ap (λ (a : ℕ). mk a (number_value (decimal entry))) named.found
    ∙ ap (mk x) (decimal_value entry (omega arith) ∙ sym same)

-- the entries are below 13
range_low : (n : ℕ) → All (λ e. e < n) (range_with_len 0 n)
range_low n k d low =
    let count = length-range_with_len 0 n in
    let at = get_or-range_with_len 0 n k d (omega arith) in
    omega arith

range_has : (n e : ℕ) → e < n → Contains (range_with_len 0 n) e
range_has n e low =
    let count = length-range_with_len 0 n in
    let at = get_or-range_with_len 0 n e e low in
    (e, omega arith, omega arith)

-- the lines of a member say rows of its table
own_lines : (s : ScriptOf) (p : Part) (part : IsPart s p) → IsScript s → (i : ℕ) → i < length p.tables → All (λ f. All (IsOwnRow s p part.root) (form_rows s f)) (member_rows s p.entries i (table_at p.tables i).rows)
own_lines s p part kept i low =
    let t = table_at p.tables i in
    let low' : i < length p.entries = let e = part.tables.count in omega arith in
    let member = member_at s p part i low' in
    let named = life_named s member.0 (life_at p.entries i) kept member.1 member.2.life in
    let entries = filter (is_entry p.entries i) (range_with_len 0 13) in
    let spot = place s.switch_names (life_text s (life_at p.entries i)) in
    All-map (λ f. All (IsOwnRow s p part.root) (form_rows s f)) (row_form s (life_at p.entries i) t.rows) entries (λ k d high.
    let entry = get_or entries k d in
    let small : entry < 13 = All-filter (is_entry p.entries i) (λ e. e < 13) (range_with_len 0 13) (range_low 13) k d high in
    let rows = rows_at t.rows entry in
    All-map (IsOwnRow s p part.root) (row_of spot (number_value (decimal entry))) (map pair_word rows)
    (All-map (λ w. IsOwnRow s p part.root (row_of spot (number_value (decimal entry)) w)) pair_word rows (λ j q within.
    let r = get_or rows j q in
    let is : IsRow p.entries (numbering p.entries) s.any_routes i r = All-filter (λ x. x.entry == entry) (IsRow p.entries (numbering p.entries) s.any_routes i) t.rows (part.tables.each i low').each j q within in
    let same : r.entry ≡ entry = eqb-true r.entry entry (filter_passes (λ x. x.entry == entry) t.rows j q within) in
    record { place = i; low = low'; switch = member.0; in_range = member.1; is = member.2; row = r; of_table = is; same = says s p part i member.0 entry r named small same is })))

-- THE ROWS OF ALL PARTS

-- a row is one of some part
record IsOwn (s : ScriptOf) (parts : List Part) (r : RowOf) : Type 0 where
  part : Part
  there : Contains parts part
  is : IsPart s part
  own : IsOwnRow s part is.root r

all_own : (s : ScriptOf) (parts : List Part) → AreParts s parts → All (IsOwn s parts) (rows_in s (expect_forms s parts))
all_own s parts are =
    let P : RowOf → Type 0 = IsOwn s parts in
    subst (λ (rs : List RowOf). All P rs) (sym (rows_flat s (expect_forms s parts)))
    (All-flat_map P (form_rows s) (expect_forms s parts)
    (All-flat_map (λ f. All P (form_rows s f)) (part_forms s) parts (λ k d low.
    let p = get_or parts k d in
    let part : IsPart s p = are_parts s parts are.kept are.trees are.tables k d low in
    part_rows s P p (λ i low'.
    All-weaker (λ f. All (IsOwnRow s p part.root) (form_rows s f)) (λ f. All P (form_rows s f))
    (λ f all. All-weaker (IsOwnRow s p part.root) P (λ r own. record { part = p; there = Contains-get_or parts k d low; is = part; own = own }) (form_rows s f) all)
    (member_rows s p.entries i (table_at p.tables i).rows) (own_lines s p part are.kept i low')))))

-- THE NUMBERS

-- the tables of the lines
abbrev own_tables : ScriptOf → List Part → TablesOf
own_tables s parts = tables_of (length s.wires.switches) (drafted s (expect_forms s parts))

drafted_at : (d : TableDraftOf) (x : ℕ) (m : NumberAt) → find (λ y. y.s == x) d.numbers ≡ Some m → drafted_number d x ≡ m.number
unfolding drafted_number
drafted_at d x m e = ap (λ (o : Option NumberAt). unwrap_or (option_map (λ y. y.number) o) 0) e

-- they give the switch of a member its number
number_at : (s : ScriptOf) (parts : List Part) (are : AreParts s parts) (p : Part) → Contains parts p → (part : IsPart s p) (i x : ℕ) → i < length p.entries → x < length s.wires.switches → IsEntryOf s.wires part.root x (entry_at p.entries i) → get_or (own_tables s parts).numbers x 0 ≡ get_or (numbering p.entries) i 0
number_at s parts are p there part i x low in_x is =
    let forms = expect_forms s parts in
    let n = get_or (numbering p.entries) i 0 in
    let high : i < length (numbering p.entries) = let e = part.count in omega arith in
    let named = life_named s x (life_at p.entries i) are.kept in_x is.life in
    let form = number_form s (entry_at p.entries i, n) in
    let mk : ℕ → ℕ → NumberAt = λ a m. record { s = a; number = m } in
    let spot = place s.switch_names (life_text s (life_at p.entries i)) in
    let said : Contains (flat_map (form_numbers s) forms) (mk spot (number_value (decimal n))) =
    Contains-flat_map (form_numbers s) (mk spot (number_value (decimal n))) form forms
    (Contains-flat_map (part_forms s) form p parts there (number_there s p i low high))
    (Contains-here (mk spot (number_value (decimal n))) []) in
    let range = part.numbers.within i 0 high in
    let most = range.1 in
    let same : mk spot (number_value (decimal n)) ≡ mk x n = ap (λ (a : ℕ). mk a (number_value (decimal n))) named.found ∙ ap (mk x) (decimal_value n (omega arith)) in
    let has : Contains (numbers_in s forms) (mk x n) = subst (λ (ns : List NumberAt). Contains ns (mk x n)) (sym (numbers_flat s forms)) (subst (λ (m : NumberAt). Contains (flat_map (form_numbers s) forms) m) same said) in
    get_or-map-range_with_len (drafted_number (drafted s forms)) 0 (length s.wires.switches) x x 0 in_x (omega arith)
    ∙ drafted_at (drafted s forms) x (mk x n) (find_one s.wires (numbers_in s forms) (mk x n) (own_numbers s parts are) has)

-- the members have these numbers
numbers_are : (s : ScriptOf) (parts : List Part) (are : AreParts s parts) (p : Part) → Contains parts p → IsPart s p → numbers_of s.wires.switches (own_tables s parts) p.entries ≡ numbering p.entries
numbers_are s parts are p there part =
    let t = own_tables s parts in
    let f : EntryOf → ℕ = number_of s.wires.switches t.numbers in
    let count = length-map p.entries f in
    same_lists (map f p.entries) (numbering p.entries) (count ∙ sym part.count) (λ k d low.
    let low' : k < length p.entries = omega arith in
    let member = member_at s p part k low' in
    get_or-map f p.entries k nothing d low'
    ∙ number_is s.wires t (entry_at p.entries k) member.0 are.kept.wired member.1 member.2.life
    ∙ number_at s parts are p there part k member.0 low' member.1 member.2
    ∙ sym (get_or_default (numbering p.entries) k d 0 (let e = part.count in omega arith)))

-- THE ROWS OF A COMPONENT

-- no switch, for what reads past a list
abbrev no_switch : SwitchAt
no_switch = record { uid = 0; had = 1 }

-- a row at a switch of a component is a row of the table of one of its members
row_back : (s : ScriptOf) (parts : List Part) (are : AreParts s parts) (p : Part) (part : IsPart s p) (r : RowOf) → IsOwn s parts r → is_row_of (members_of s.wires.switches p.entries) r ≡ true → (x : ℕ) × (x < length p.entries) × IsRow p.entries (numbering p.entries) s.any_routes x (renumbered (own_tables s parts) r)
row_back s parts are p part r is passes =
    let w = s.wires in
    let t = own_tables s parts in
    let q = is.part in
    let o = is.own in
    let at : r.at ≡ o.switch = ap (λ (x : RowOf). x.at) o.same in
    let tested : is_member p.entries (get_or w.switches o.switch no_switch) ≡ true =
    sym (ap (λ (a : ℕ). get_or (members_of w.switches p.entries) a false) at ∙ get_or-map (is_member p.entries) w.switches o.switch no_switch false o.in_range) ∙ passes in
    let any = Any-from_list_any (λ e. e.life.uid == (get_or w.switches o.switch no_switch).uid) p.entries tested in
    let member : IsMember w part.root (get_or p.entries any.0 any.1) = part.component.only any.0 any.1 any.2 in
    let uids : uid_of w.switches member.0 ≡ uid_of w.switches o.switch =
    sym (ap (λ (l : LifeId). l.uid) member.2.life) ∙ ap (λ (e : EntryOf). e.life.uid) any.3 ∙ eqb-true any.1.life.uid (get_or w.switches o.switch no_switch).uid any.4 ∙ sym (uid_is w.switches o.switch no_switch o.in_range) in
    let same : member.0 ≡ o.switch = uid_one w member.0 o.switch are.kept.wired member.1 o.in_range uids in
    let level = (get_or p.entries any.0 any.1).position.level in
    let here : Walk (network w) level o.switch part.root = subst (λ (x : ℕ). Walk (network w) level x part.root) same member.2.place.level.walk in
    let one : q.entries ≡ p.entries = same_component w is.is.root part.root o.switch (entry_at q.entries o.place).position.level level q.entries p.entries are.kept.wired is.is.component part.component o.is.place.level.walk here in
    let mk : ℕ → RowOf = λ a. record { at = a; entry = o.row.entry; to = o.row.to; exits = o.row.exits } in
    let row : renumbered t r ≡ o.row = ap (renumbered t) o.same ∙ ap mk (number_at s parts are q is.there is.is o.place o.switch o.low o.in_range o.is ∙ sym o.of_table.at) in (
      o.place,
      subst (λ (es : List EntryOf). o.place < length es) one o.low,
      subst (λ (es : List EntryOf). IsRow es (numbering es) s.any_routes o.place (renumbered t r)) one
          (subst (λ (x : RowOf). IsRow q.entries (numbering q.entries) s.any_routes o.place x) (sym row) o.of_table),
    )

-- a row of the table of a member is among the rows, at its switch
row_said : (s : ScriptOf) (parts : List Part) (are : AreParts s parts) (p : Part) → Contains parts p → (part : IsPart s p) (i : ℕ) (low : i < length p.entries) (r : RowOf) → Contains (table_at p.tables i).rows r → IsRow p.entries (numbering p.entries) s.any_routes i r → Contains (rows_in s (expect_forms s parts)) (record { at = (member_at s p part i low).0; entry = r.entry; to = r.to; exits = r.exits })
row_said s parts are p there part i low r has is =
    let t = table_at p.tables i in
    let entry = r.entry in
    let member = member_at s p part i low in
    let life = life_at p.entries i in
    let named = life_named s member.0 life are.kept member.1 member.2.life in
    let small = entry_low p.entries i entry part.graph is.entry in
    let form = row_form s life t.rows entry in
    let says_it = row_of (place s.switch_names (life_text s life)) (number_value (decimal entry)) in
    let stands : Contains (member_rows s p.entries i t.rows) form =
    Contains-image (row_form s life t.rows) entry (filter (is_entry p.entries i) (range_with_len 0 13))
    (Contains-filter (is_entry p.entries i) entry (range_with_len 0 13) (entry_passes p.entries i entry is.entry) (range_has 13 entry small)) in
    let has_form : Contains (expect_forms s parts) form = Contains-flat_map (part_forms s) form p parts there (row_there s p i form (let e = part.tables.count in omega arith) stands) in
    let in_form : Contains (form_rows s form) (says_it (pair_word r)) =
    Contains-image says_it (pair_word r) (map pair_word (rows_at t.rows entry))
    (Contains-image pair_word r (rows_at t.rows entry) (Contains-filter (λ x. x.entry == entry) r t.rows (eq-eqb r.entry entry refl) has)) in
    let said : Contains (flat_map (form_rows s) (expect_forms s parts)) (says_it (pair_word r)) = Contains-flat_map (form_rows s) (says_it (pair_word r)) form (expect_forms s parts) has_form in_form in
    subst (λ (q : RowOf). Contains (rows_in s (expect_forms s parts)) q) (says s p part i member.0 entry r named small refl is)
    (subst (λ (rs : List RowOf). Contains rs (says_it (pair_word r))) (sym (rows_flat s (expect_forms s parts))) said)

-- a row at a switch of a member is kept
row_kept : (s : ScriptOf) (p : Part) (part : IsPart s p) (i : ℕ) (low : i < length p.entries) → get_or (members_of s.wires.switches p.entries) (member_at s p part i low).0 false ≡ true
row_kept s p part i low =
    let w = s.wires in
    let member = member_at s p part i low in
    let x = member.0 in
    get_or-map (is_member p.entries) w.switches x no_switch false member.1
    ∙ list_any-from_Any (λ e. e.life.uid == (get_or w.switches x no_switch).uid) p.entries
    (i, entry_at p.entries i, low, get_or_default p.entries i (entry_at p.entries i) nothing low, eq-eqb (life_at p.entries i).uid (get_or w.switches x no_switch).uid (ap (λ (l : LifeId). l.uid) member.2.life ∙ uid_is w.switches x no_switch member.1))

-- the rows of a component are those of the tables of its members
rows_are : (s : ScriptOf) (parts : List Part) (are : AreParts s parts) (p : Part) → Contains parts p → IsPart s p → AllTables p.entries (numbering p.entries) s.any_routes (rows_of s.wires.switches (own_tables s parts) p.entries)
rows_are s parts are p there part = record {
  each = All-map (λ r. (x : ℕ) × (x < length p.entries) × IsRow p.entries (numbering p.entries) s.any_routes x r) (renumbered t) (filter test t.rows) (λ k d low.
      let r = get_or (filter test t.rows) k d in
      row_back s parts are p part r (All-filter test (IsOwn s parts) t.rows (all_own s parts are) k d low) (filter_passes test t.rows k d low));
  whole = λ i entry y low is high other.
      let table = part.tables.each i low in
      let (k, r, below, found, is_for) = table.whole entry y is high other in
      let row : IsRow p.entries (numbering p.entries) s.any_routes i r = subst (IsRow p.entries (numbering p.entries) s.any_routes i) found (table.each k r below) in
      let member = member_at s p part i low in
      let q : RowOf = record { at = member.0; entry = r.entry; to = r.to; exits = r.exits } in
      let has : Contains t.rows q = row_said s parts are p there part i low r (k, below, found) row in
      let stays : Contains (filter test t.rows) q = Contains-filter test q t.rows (row_kept s p part i low) has in
      Any-map (λ x. (x.at ≡ get_or (numbering p.entries) i 0) × (x.entry ≡ entry) × (x.to ≡ get_or (numbering p.entries) y 0)) (renumbered t) (filter test t.rows)
      (stays.0, q, stays.1, stays.2, (number_at s parts are p there part i member.0 low member.1 member.2, is_for.0, is_for.1));
}
  where
    t : TablesOf
    t = own_tables s parts

    test : RowOf → Bool
    test = is_row_of (members_of s.wires.switches p.entries)

-- NOTHING IS REFUSED

-- tables that are those of a tree are not refused
not_refused : (switches : List SwitchAt) (t : TablesOf) (es : List EntryOf) (any : Bool) → IsGraph es → IsTree es → AreNumbers (numbers_of switches t es) → length (numbers_of switches t es) ≡ length es → AllTables es (numbers_of switches t es) any (rows_of switches t es) → (refusal : CheckRefusal) → IsRefusedFor switches t es refusal → ⊥
not_refused switches t es any graph tree named count tables (Cycle channels) is =
    let numbers = numbers_of switches t es in
    let rows = rows_of switches t es in
    no_both channel_cmp (LeadsTo (far_at es numbers) rows) channels is (tables_no_cycle es numbers any rows graph named count tables)
not_refused switches t es any graph tree named count tables (NotJoined from to at entry) is =
    tables_joined es (numbers_of switches t es) any (rows_of switches t es) graph named count tables tree from to at entry is.1.meets
not_refused switches t es any graph tree named count tables (IllegalExit at entry to exit) is =
    tables_legal es (numbers_of switches t es) any (rows_of switches t es) graph named count tables at entry to exit is.2.illegal
not_refused switches t es any graph tree named count tables OutOfMemory is = is

-- no part is refused
part_passes : (s : ScriptOf) (parts : List Part) (are : AreParts s parts) (p : Part) → Contains parts p → IsPart s p → (refusal : CheckRefusal) → IsRefusedFor s.wires.switches (own_tables s parts) p.entries refusal → ⊥
part_passes s parts are p there part refusal is =
    let t = own_tables s parts in
    let es = p.entries in
    let same : numbering es ≡ numbers_of s.wires.switches t es = sym (numbers_are s parts are p there part) in
    not_refused s.wires.switches t es s.any_routes part.graph part.tree
    (subst (λ (ns : List ℕ). AreNumbers ns) same part.numbers)
    (subst (λ (ns : List ℕ). length ns ≡ length es) same part.count)
    (subst (λ (ns : List ℕ). AllTables es ns s.any_routes (rows_of s.wires.switches t es)) same (rows_are s parts are p there part))
    refusal is

-- so the tables that `expect` prints are not refused
pub own_pass : (s : ScriptOf) (parts : List Part) → AreParts s parts → (text : List ℕ) → IsJudged s (tables_of (length s.wires.switches) (drafted s (expect_forms s parts))) false text → ⊥
own_pass s parts are text is =
    let before : List (List EntryOf) = map (λ (p : Ranked). p.entries) is.before in
    let one : before ++ (is.refused ∷ is.behind) ≡ map (λ (p : Part). p.entries) parts = one_forest_of s.wires (before ++ (is.refused ∷ is.behind)) (map (λ (p : Part). p.entries) parts) are.kept.wired is.trees are.trees in
    let has : Contains (map (λ (p : Part). p.entries) parts) is.refused = subst (λ (f : List (List EntryOf)). Contains f is.refused) one (Contains-append_right before (is.refused ∷ is.behind) is.refused (Contains-here is.refused is.behind)) in
    let (k, p, low, found, same) = Any-from_map (λ (q : Part). q.entries) parts is.refused has in
    let part : IsPart s p = subst (IsPart s) found (are_parts s parts are.kept are.trees are.tables k p low) in
    part_passes s parts are p (k, low, found) part is.refusal (subst (λ (es : List EntryOf). IsRefusedFor s.wires.switches (own_tables s parts) es is.refusal) (sym same) is.cause)
