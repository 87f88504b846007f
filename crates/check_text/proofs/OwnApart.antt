use Rattle.std.proofs.Common.{◌≡◌, ◌≢◌, ◌∙◌, sym, ap, subst, refl, ℕ, ◌+◌, ◌^◌, ◌<◌, ◌≤◌, Bool, true, List, [], ◌∷◌, ◌++◌, map, arith, length, append-nil, get_or, All, AllPairs, inl, inr, IsTrue}
use Rattle.std.specs.declared.cmp.Ordering.{Ordering}
use Rattle.std.specs.declared.cmp.Ordering.TheVariants.{Less, Equal, Greater}
use Rattle.std.specs.Ordering.{is_lt, is_le}
use Rattle.std.specs.Prelude.{filter, Any}
use Rattle.std.specs.Fmt.{decimal}
use Rattle.std.specs.List.{flat_map, range_with_len, zip}
use Rattle.std.proofs.lemmas.List.{get_or-map, length-map}
use Rattle.std.proofs.lemmas.List.Elements.{All-nil, All-append, All-map, All-weaker, All-contains, All-filter}
use Rattle.std.proofs.lemmas.List.FromFn.{get_or-range_with_len}
use Rattle.std.proofs.lemmas.List.Kept.{AllPairs-filter}
use Rattle.std.proofs.lemmas.Slice.Zip.{length-zip, get_or-zip}
use Rattle.an_base.specs.Values.{LifeId, EntryOf}
use Rattle.an_base.specs.Order.{life_cmp, IsBelow}
use Rattle.an_base.specs.Rows.{RowOf}
use Rattle.an_base.proofs.OrderLaws.{both_least}
use Rattle.net_graph.specs.Wires.{Wires, IsWired, network}
use Rattle.net_graph.specs.Forest.{IsMember, IsComponent, RootsBelow}
use Rattle.an_base.proofs.LifeLemmas.{below_same}
use Rattle.common_values.proofs.ListLemmas.{Any-later, Any-cons_cases, Any-weaker, Any-map}
use Rattle.common_values.proofs.PairLemmas.{AllPairs-map, AllPairs-append}
use Rattle.common_values.proofs.FlatMapLemmas.{Any-flat_map, AllPairs-flat_map}
use Rattle.table_script.specs.declared.table_draft.NumberAt.{NumberAt}
use Rattle.table_script.specs.declared.table_draft.EntryAt.{EntryAt}
use Rattle.common_lines.specs.Words.{number_value}
use Rattle.net_script.specs.Rules.{place}
use Rattle.net_script.specs.Scripts.{ScriptOf, IsScript}
use Rattle.table_script.specs.Tables.{are_joined}
use Rattle.row_text.specs.TableForms.{TableForm, ComponentLine, MemberLine, NumberLine, RowLine, EndLine}
use Rattle.table_script.specs.TableRules.{AreNumbersApart}
use Rattle.table_script.proofs.JoinedLemmas.{joined_self, joined_back, joined_on, walk_joined}
use Rattle.common_lines.proofs.SpellLemmas.{decimal_value}
use Rattle.table_script.proofs.WalkJoined.{joined_by_walks}
use Rattle.topo_graph.specs.Topology.{nothing, life_at}
use Rattle.switch_numbering.specs.Numbering.{numbering}
use Rattle.table_build.specs.Exits.{is_entry}
use Rattle.table_build.specs.Tables.{TableOf}
use Rattle.row_text.specs.Names.{life_text}
use Rattle.expect_text.specs.Expect.{Part}
use Rattle.check_text.proofs.OwnForms.{numbers_in, entries_in, AreEntriesApart, AreParts}
use Rattle.expect_text.specs.Expect.{member_form, number_form, part_forms, expect_forms}
use Rattle.row_text.specs.Rows.{row_form, member_rows, table_forms}
use Rattle.check_text.proofs.OwnNames.{life_named}
use Rattle.expect_text.proofs.PartLemmas.{IsPart, are_parts}

-- WHAT IS READ OF FORMS

-- the number of a member, and an entry of one, as they are read
abbrev number_read : ScriptOf → EntryOf × ℕ → NumberAt
number_read s m = record { s = place s.switch_names (life_text s m.0.life); number = number_value (decimal m.1) }

abbrev entry_read : ScriptOf → LifeId → ℕ → EntryAt
entry_read s life entry = record { s = place s.switch_names (life_text s life); entry = number_value (decimal entry) }

abbrev member_entries : ScriptOf → List EntryOf → ℕ → List EntryAt
member_entries s es x = map (entry_read s (life_at es x)) (filter (is_entry es x) (range_with_len 0 13))

-- of forms one after the other
numbers_append : (s : ScriptOf) (fs gs : List TableForm) → numbers_in s (fs ++ gs) ≡ numbers_in s fs ++ numbers_in s gs
numbers_append s [] gs = refl
numbers_append s (NumberLine name n ∷ fs) gs = ap (λ (ns : List NumberAt). record { s = place s.switch_names name; number = number_value n } ∷ ns) (numbers_append s fs gs)
numbers_append s (ComponentLine more ∷ fs) gs = numbers_append s fs gs
numbers_append s (MemberLine more ∷ fs) gs = numbers_append s fs gs
numbers_append s (RowLine name entry pairs ∷ fs) gs = numbers_append s fs gs
numbers_append s (EndLine ∷ fs) gs = numbers_append s fs gs

entries_append : (s : ScriptOf) (fs gs : List TableForm) → entries_in s (fs ++ gs) ≡ entries_in s fs ++ entries_in s gs
entries_append s [] gs = refl
entries_append s (RowLine name entry pairs ∷ fs) gs = ap (λ (es : List EntryAt). record { s = place s.switch_names name; entry = number_value entry } ∷ es) (entries_append s fs gs)
entries_append s (ComponentLine more ∷ fs) gs = entries_append s fs gs
entries_append s (MemberLine more ∷ fs) gs = entries_append s fs gs
entries_append s (NumberLine name n ∷ fs) gs = entries_append s fs gs
entries_append s (EndLine ∷ fs) gs = entries_append s fs gs

-- of the forms of all parts
numbers_flat : (s : ScriptOf) (f : Part → List TableForm) (ps : List Part) → numbers_in s (flat_map f ps) ≡ flat_map (λ p. numbers_in s (f p)) ps
numbers_flat s f [] = refl
numbers_flat s f (p ∷ ps) = numbers_append s (f p) (flat_map f ps) ∙ ap (λ (ns : List NumberAt). numbers_in s (f p) ++ ns) (numbers_flat s f ps)

entries_flat : (s : ScriptOf) (f : Part → List TableForm) (ps : List Part) → entries_in s (flat_map f ps) ≡ flat_map (λ p. entries_in s (f p)) ps
entries_flat s f [] = refl
entries_flat s f (p ∷ ps) = entries_append s (f p) (flat_map f ps) ∙ ap (λ (es : List EntryAt). entries_in s (f p) ++ es) (entries_flat s f ps)

-- the numbers of the forms of one kind
numbers_of_members : (s : ScriptOf) (es : List EntryOf) → numbers_in s (map (member_form s) es) ≡ []
numbers_of_members s [] = refl
numbers_of_members s (e ∷ es) = numbers_of_members s es

numbers_of_numbers : (s : ScriptOf) (ms : List (EntryOf × ℕ)) → numbers_in s (map (number_form s) ms) ≡ map (number_read s) ms
numbers_of_numbers s [] = refl
numbers_of_numbers s (m ∷ ms) = ap (λ (ns : List NumberAt). number_read s m ∷ ns) (numbers_of_numbers s ms)

numbers_of_rows : (s : ScriptOf) (life : LifeId) (rows : List RowOf) (ns : List ℕ) → numbers_in s (map (row_form s life rows) ns) ≡ []
numbers_of_rows s life rows [] = refl
numbers_of_rows s life rows (n ∷ ns) = numbers_of_rows s life rows ns

numbers_of_tables : (s : ScriptOf) (es : List EntryOf) (x : ℕ) (ts : List TableOf) → numbers_in s (table_forms s es x ts) ≡ []
numbers_of_tables s es x [] = refl
numbers_of_tables s es x (t ∷ ts) =
    numbers_append s (member_rows s es x t.rows) (table_forms s es (x + 1) ts)
    ∙ ap (λ (ns : List NumberAt). ns ++ numbers_in s (table_forms s es (x + 1) ts)) (numbers_of_rows s (life_at es x) t.rows (filter (is_entry es x) (range_with_len 0 13)))
    ∙ numbers_of_tables s es (x + 1) ts

-- their entries
entries_of_members : (s : ScriptOf) (es : List EntryOf) → entries_in s (map (member_form s) es) ≡ []
entries_of_members s [] = refl
entries_of_members s (e ∷ es) = entries_of_members s es

entries_of_numbers : (s : ScriptOf) (ms : List (EntryOf × ℕ)) → entries_in s (map (number_form s) ms) ≡ []
entries_of_numbers s [] = refl
entries_of_numbers s (m ∷ ms) = entries_of_numbers s ms

entries_of_rows : (s : ScriptOf) (life : LifeId) (rows : List RowOf) (ns : List ℕ) → entries_in s (map (row_form s life rows) ns) ≡ map (entry_read s life) ns
entries_of_rows s life rows [] = refl
entries_of_rows s life rows (n ∷ ns) = ap (λ (es : List EntryAt). entry_read s life n ∷ es) (entries_of_rows s life rows ns)

entries_of_tables : (s : ScriptOf) (es : List EntryOf) (x : ℕ) (t : TableOf) (ts : List TableOf) → entries_in s (table_forms s es x (t ∷ ts)) ≡ member_entries s es x ++ entries_in s (table_forms s es (x + 1) ts)
entries_of_tables s es x t ts =
    entries_append s (member_rows s es x t.rows) (table_forms s es (x + 1) ts)
    ∙ ap (λ (rs : List EntryAt). rs ++ entries_in s (table_forms s es (x + 1) ts)) (entries_of_rows s (life_at es x) t.rows (filter (is_entry es x) (range_with_len 0 13)))

-- those of a part
part_numbers : (s : ScriptOf) (p : Part) → numbers_in s (part_forms s p) ≡ map (number_read s) (zip p.entries (numbering p.entries))
part_numbers s p =
    let ms = zip p.entries (numbering p.entries) in
    let tables = table_forms s p.entries 0 p.tables in
    numbers_append s (map (member_form s) p.entries) (map (number_form s) ms ++ tables)
    ∙ ap (λ (ns : List NumberAt). ns ++ numbers_in s (map (number_form s) ms ++ tables)) (numbers_of_members s p.entries)
    ∙ numbers_append s (map (number_form s) ms) tables
    ∙ ap (λ (ns : List NumberAt). numbers_in s (map (number_form s) ms) ++ ns) (numbers_of_tables s p.entries 0 p.tables)
    ∙ append-nil (numbers_in s (map (number_form s) ms))
    ∙ numbers_of_numbers s ms

part_entries : (s : ScriptOf) (p : Part) → entries_in s (part_forms s p) ≡ entries_in s (table_forms s p.entries 0 p.tables)
part_entries s p =
    let ms = zip p.entries (numbering p.entries) in
    let tables = table_forms s p.entries 0 p.tables in
    entries_append s (map (member_form s) p.entries) (map (number_form s) ms ++ tables)
    ∙ ap (λ (es : List EntryAt). es ++ entries_in s (map (number_form s) ms ++ tables)) (entries_of_members s p.entries)
    ∙ entries_append s (map (number_form s) ms) tables
    ∙ ap (λ (es : List EntryAt). es ++ entries_in s tables) (entries_of_numbers s ms)

-- SWITCHES OF PARTS

le_from_lt : (o : Ordering) → IsTrue (is_lt o) → IsTrue (is_le o)
le_from_lt Less lt = lt
le_from_lt Equal lt = absurd (cc)
le_from_lt Greater lt = absurd (cc)

below_least : (a b : LifeId) → IsBelow a b → IsTrue (is_le (life_cmp b a)) → ⊥
below_least a b below least = below_same a b (both_least a b (le_from_lt (life_cmp a b) below) least) below

-- links do not join the roots of two components, of which the first is below the second
roots_apart : (w : Wires) (r q : ℕ) (a b : List EntryOf) → IsWired w → IsComponent w r a → IsComponent w q b → RootsBelow a b → are_joined w.links r q ≡ true → ⊥
roots_apart w r q a b wired is_a is_b below t =
    let g = network w in
    let walk = (joined_by_walks w r q wired).0 t in
    let here = is_a.whole r 0 is_a.root refl in
    let there = is_b.whole r walk.0 is_a.root walk.1 in
    let d = here.1 in
    let e = there.1 in
    let lower : IsBelow d.position.root e.position.root = All-contains (λ y. IsBelow d.position.root y.position.root) b e (All-contains (λ x. All (λ y. IsBelow x.position.root y.position.root) b) a d below (here.0, here.2, here.3)) (there.0, there.2, there.3) in
    let least : IsTrue (is_le (life_cmp (g.life q) e.life)) = All-contains (λ y. IsTrue (is_le (life_cmp (g.life q) y.life))) b e is_b.least (there.0, there.2, there.3) in
    below_least (g.life r) (g.life q)
    (subst (λ (l : LifeId). IsBelow l (g.life q)) here.4.place.root (subst (λ (l : LifeId). IsBelow d.position.root l) there.4.place.root lower))
    (subst (λ (l : LifeId). IsTrue (is_le (life_cmp (g.life q) l))) there.4.life least)

-- nor any two of their switches
pub switches_apart : (w : Wires) (r q : ℕ) (a b : List EntryOf) (x y : ℕ) → IsWired w → IsComponent w r a → IsComponent w q b → RootsBelow a b → are_joined w.links x r ≡ true → are_joined w.links y q ≡ true → are_joined w.links x y ≡ true → ⊥
switches_apart w r q a b x y wired is_a is_b below to_r to_q t =
    roots_apart w r q a b wired is_a is_b below (joined_on w.links r x q (joined_back w.links x r to_r) (joined_on w.links x y q t to_q))

-- a member is printed as its switch, which links join with the root
switch_joined : (s : ScriptOf) (r : ℕ) (es : List EntryOf) (i : ℕ) (d : EntryOf) → IsScript s → IsComponent s.wires r es → i < length es → are_joined s.wires.links (place s.switch_names (life_text s (get_or es i d).life)) r ≡ true
switch_joined s r es i d kept component low =
    let member : IsMember s.wires r (get_or es i d) = component.only i d low in
    subst (λ (x : ℕ). are_joined s.wires.links x r ≡ true) (sym (life_named s member.0 (get_or es i d).life kept member.1 member.2.life).found)
    (walk_joined s.wires (get_or es i d).position.level member.0 r member.2.place.level.walk)

-- two members are printed as two switches
members_apart : (s : ScriptOf) (r : ℕ) (es : List EntryOf) (i j : ℕ) (d : EntryOf) → IsScript s → IsComponent s.wires r es → i < j → j < length es → place s.switch_names (life_text s (get_or es i d).life) ≢ place s.switch_names (life_text s (get_or es j d).life)
members_apart s r es i j d kept component before low = λ same.
    let a : IsMember s.wires r (get_or es i d) = component.only i d (omega arith) in
    let b : IsMember s.wires r (get_or es j d) = component.only j d low in
    let one : a.0 ≡ b.0 = sym (life_named s a.0 (get_or es i d).life kept a.1 a.2.life).found ∙ same ∙ (life_named s b.0 (get_or es j d).life kept b.1 b.2.life).found in
    below_same (get_or es i d).life (get_or es j d).life (a.2.life ∙ ap (network s.wires).life one ∙ sym b.2.life) (component.rising i j d before low)

-- THE NUMBERS

-- a member beside its number
zip_at : (es : List EntryOf) (ns : List ℕ) (i : ℕ) (d : EntryOf × ℕ) → length ns ≡ length es → i < length (zip es ns) → (i < length es) × (get_or (zip es ns) i d ≡ (get_or es i d.0, get_or ns i d.1))
zip_at es ns i d count low =
    let within : i < length es = let e = length-zip es ns in omega arith in
    (within, get_or-zip es ns i d within (omega arith))

-- the numbers of a part are of its switches
numbers_joined : (s : ScriptOf) (p : Part) → IsScript s → (is : IsPart s p) → All (λ n. are_joined s.wires.links n.s is.root ≡ true) (numbers_in s (part_forms s p))
numbers_joined s p kept is =
    let ms = zip p.entries (numbering p.entries) in
    subst (All (λ n. are_joined s.wires.links n.s is.root ≡ true)) (sym (part_numbers s p))
    (All-map (λ (n : NumberAt). are_joined s.wires.links n.s is.root ≡ true) (number_read s) ms (λ i d low.
    let at = zip_at p.entries (numbering p.entries) i d is.count low in
    subst (λ (m : EntryOf × ℕ). are_joined s.wires.links (number_read s m).s is.root ≡ true) (sym at.1) (switch_joined s is.root p.entries i d.0 kept is.component at.0)))

-- they are read as they were
number_is : (s : ScriptOf) (p : Part) (i d : ℕ) → IsPart s p → i < length p.entries → number_value (decimal (get_or (numbering p.entries) i d)) ≡ get_or (numbering p.entries) i d
number_is s p i d is low =
    let most = (is.numbers.within i d (let e = is.count in omega arith)).1 in
    decimal_value (get_or (numbering p.entries) i d) (omega arith)

-- the numbers of a part are apart
numbers_apart : (s : ScriptOf) (p : Part) → IsScript s → IsPart s p → AllPairs (AreNumbersApart s.wires) (numbers_in s (part_forms s p))
numbers_apart s p kept is =
    let ns = numbering p.entries in
    let ms = zip p.entries ns in
    subst (AllPairs (AreNumbersApart s.wires)) (sym (part_numbers s p))
    (AllPairs-map (AreNumbersApart s.wires) (number_read s) ms (λ i j d before low.
    let one = zip_at p.entries ns i d is.count (omega arith) in
    let two = zip_at p.entries ns j d is.count low in
    subst (λ (m : EntryOf × ℕ). AreNumbersApart s.wires (number_read s m) (number_read s (get_or ms j d))) (sym one.1)
    (subst (λ (m : EntryOf × ℕ). AreNumbersApart s.wires (number_read s (get_or p.entries i d.0, get_or ns i d.1)) (number_read s m)) (sym two.1) (record {
      switches = members_apart s is.root p.entries i j d.0 kept is.component before two.0;
      numbers = λ t same. is.numbers.apart i j d.1 before (let e = is.count in let l = two.0 in omega arith) (sym (number_is s p i d.1 is one.0) ∙ same ∙ number_is s p j d.1 is two.0);
    }))))

-- the roots of a part are below those of a later one
parts_rise : (s : ScriptOf) (parts : List Part) (i j : ℕ) (d : Part) → AreParts s parts → i < j → j < length parts → RootsBelow (get_or parts i d).entries (get_or parts j d).entries
parts_rise s parts i j d are before low =
    subst (λ (es : List EntryOf). RootsBelow es (get_or parts j d).entries) (get_or-map (λ p. p.entries) parts i d d.entries (omega arith))
    (subst (λ (es : List EntryOf). RootsBelow (get_or (map (λ p. p.entries) parts) i d.entries) es) (get_or-map (λ p. p.entries) parts j d d.entries low)
    (are.trees.rising i j d.entries before (let e = length-map parts (λ p. p.entries) in omega arith)))

-- the numbers of all parts are apart
pub own_numbers : (s : ScriptOf) (parts : List Part) → AreParts s parts → AllPairs (AreNumbersApart s.wires) (numbers_in s (expect_forms s parts))
own_numbers s parts are =
    let each = are_parts s parts are.kept are.trees are.tables in
    subst (AllPairs (AreNumbersApart s.wires)) (sym (numbers_flat s (part_forms s) parts))
    (AllPairs-flat_map (AreNumbersApart s.wires) (λ p. numbers_in s (part_forms s p)) parts
    (λ i d low. numbers_apart s (get_or parts i d) are.kept (each i d low))
    (λ i j d before low k a in_k l b in_l.
    let p = get_or parts i d in
    let q = get_or parts j d in
    let is_p : IsPart s p = each i d (omega arith) in
    let is_q : IsPart s q = each j d low in
    let x = get_or (numbers_in s (part_forms s p)) k a in
    let y = get_or (numbers_in s (part_forms s q)) l b in
    let no : are_joined s.wires.links x.s y.s ≡ true → ⊥ =
    switches_apart s.wires is_p.root is_q.root p.entries q.entries x.s y.s are.kept.wired is_p.component is_q.component (parts_rise s parts i j d are before low)
    (numbers_joined s p are.kept is_p k a in_k) (numbers_joined s q are.kept is_q l b in_l) in
    record {
      switches = λ same. no (subst (λ (z : ℕ). are_joined s.wires.links x.s z ≡ true) same (joined_self s.wires.links x.s));
      numbers = λ t. absurd (no t);
    }))

-- THE SWITCHES THAT HAVE NUMBERS

-- what some image has, some element has through its image
any_from_map : {X Y : Type 0} (P : Y → Type 0) (f : X → Y) (xs : List X) → Any P (map f xs) → Any (λ x. P (f x)) xs
any_from_map P f [] any = let low = any.2 in absurd (omega arith)
any_from_map P f (x ∷ xs) any = elim (Any-cons_cases P (f x) (map f xs) any) [
  | inl here ↦ (0, x, omega arith, refl, here)
  | inr later ↦ Any-later (λ y. P (f y)) x xs (any_from_map P f xs later)
]

-- an element stands in a pair, where both lists are of one length
any_zip : {X Y : Type 0} (P : X → Type 0) (xs : List X) (ys : List Y) → length ys ≡ length xs → Any P xs → Any (λ m. P m.0) (zip xs ys)
any_zip P [] ys count any = let low = any.2 in absurd (omega arith)
any_zip P (x ∷ xs) [] count any = absurd (omega arith)
any_zip P (x ∷ xs) (y ∷ ys) count any = elim (Any-cons_cases P x xs any) [
  | inl here ↦ (0, (x, y), omega arith, refl, here)
  | inr later ↦ Any-later (λ m. P m.0) (x, y) (zip xs ys) (any_zip P xs ys (omega arith) later)
]

-- a member has a number in its part
part_numbered : (s : ScriptOf) (p : Part) (x : ℕ) → IsScript s → IsPart s p → x < length s.wires.switches → Any (λ e. e.life ≡ (network s.wires).life x) p.entries → Any (λ n. n.s ≡ x) (numbers_in s (part_forms s p))
part_numbered s p x kept is low any =
    subst (Any (λ n. n.s ≡ x)) (sym (part_numbers s p))
    (Any-map (λ (n : NumberAt). n.s ≡ x) (number_read s) (zip p.entries (numbering p.entries))
    (any_zip (λ e. place s.switch_names (life_text s e.life) ≡ x) p.entries (numbering p.entries) is.count
    (Any-weaker (λ e. e.life ≡ (network s.wires).life x) (λ e. place s.switch_names (life_text s e.life) ≡ x) (λ e same. (life_named s x e.life kept low same).found) p.entries any)))

-- each switch has a number
pub own_numbered : (s : ScriptOf) (parts : List Part) → AreParts s parts → (x : ℕ) → x < length s.wires.switches → Any (λ n. n.s ≡ x) (numbers_in s (expect_forms s parts))
own_numbered s parts are x low =
    let each = are_parts s parts are.kept are.trees are.tables in
    let found = any_from_map (Any (λ e. e.life ≡ (network s.wires).life x)) (λ p. p.entries) parts (are.trees.whole x low) in
    let p = found.1 in
    let is : IsPart s p = All-contains (IsPart s) parts p each (found.0, found.2, found.3) in
    subst (Any (λ n. n.s ≡ x)) (sym (numbers_flat s (part_forms s) parts))
    (Any-flat_map (λ (n : NumberAt). n.s ≡ x) (λ p. numbers_in s (part_forms s p)) parts (found.0, p, found.2, found.3, part_numbered s p x are.kept is low found.4))

-- THE ENTRIES

-- the entry is of a member at x or later
abbrev IsFrom : ScriptOf → List EntryOf → ℕ → EntryAt → Type 0
IsFrom s es x a = (i : ℕ) × (x ≤ i) × (i < length es) × (a.s ≡ place s.switch_names (life_text s (life_at es i)))

-- those of the tables from x on are
tables_from : (s : ScriptOf) (es : List EntryOf) (x : ℕ) (ts : List TableOf) → x + length ts ≤ length es → All (IsFrom s es x) (entries_in s (table_forms s es x ts))
tables_from s es x [] fits = All-nil (IsFrom s es x)
tables_from s es x (t ∷ ts) fits =
    let rest = entries_in s (table_forms s es (x + 1) ts) in
    subst (All (IsFrom s es x)) (sym (entries_of_tables s es x t ts))
    (All-append (IsFrom s es x) (member_entries s es x) rest
    (All-map (IsFrom s es x) (entry_read s (life_at es x)) (filter (is_entry es x) (range_with_len 0 13)) (λ k d low. (x, omega arith, omega arith, refl)))
    (All-weaker (IsFrom s es (x + 1)) (IsFrom s es x) (λ a from. let l = from.1 in (from.0, omega arith, from.2, from.3)) rest (tables_from s es (x + 1) ts (omega arith))))

-- the entries of a member rise, and are read as they were
entries_rise : (p : ℕ → Bool) → AllPairs (λ a b. a < b) (filter p (range_with_len 0 13))
entries_rise p = AllPairs-filter (λ a b. a < b) p (range_with_len 0 13) (λ i j d before low. omega (arith, get_or-range_with_len 0 13 i d (omega arith), get_or-range_with_len 0 13 j d (omega arith)))

entries_low : (p : ℕ → Bool) → All (λ n. n < 2 ^ 64) (filter p (range_with_len 0 13))
entries_low p = All-filter p (λ n. n < 2 ^ 64) (range_with_len 0 13) (λ i d low. omega (arith, get_or-range_with_len 0 13 i d (omega arith)))

-- so they are apart
member_apart : (s : ScriptOf) (es : List EntryOf) (x : ℕ) → AllPairs AreEntriesApart (member_entries s es x)
member_apart s es x =
    let p = is_entry es x in
    let ns = filter p (range_with_len 0 13) in
    AllPairs-map AreEntriesApart (entry_read s (life_at es x)) ns (λ i j d before low at same.
    let one = decimal_value (get_or ns i d) (entries_low p i d (omega arith)) in
    let two = decimal_value (get_or ns j d) (entries_low p j d low) in
    let rise = entries_rise p i j d before low in
    let is : get_or ns i d ≡ get_or ns j d = sym one ∙ same ∙ two in
    omega arith)

-- the entries of the tables from x on are apart
tables_apart : (s : ScriptOf) (r : ℕ) (es : List EntryOf) (x : ℕ) (ts : List TableOf) → IsScript s → IsComponent s.wires r es → x + length ts ≤ length es → AllPairs AreEntriesApart (entries_in s (table_forms s es x ts))
tables_apart s r es x [] kept component fits = λ i j d before low. absurd (omega arith)
tables_apart s r es x (t ∷ ts) kept component fits =
    let rest = entries_in s (table_forms s es (x + 1) ts) in
    subst (AllPairs AreEntriesApart) (sym (entries_of_tables s es x t ts))
    (AllPairs-append AreEntriesApart (member_entries s es x) rest (member_apart s es x) (tables_apart s r es (x + 1) ts kept component (omega arith))
    (All-map (λ a. All (AreEntriesApart a) rest) (entry_read s (life_at es x)) (filter (is_entry es x) (range_with_len 0 13)) (λ k d low l a high at.
    let from = tables_from s es (x + 1) ts (omega arith) l a high in
    let later = from.1 in
    absurd (members_apart s r es x from.0 nothing kept component (omega arith) from.2 (at ∙ from.3)))))

-- those of a part
entries_apart : (s : ScriptOf) (p : Part) → IsScript s → IsPart s p → AllPairs AreEntriesApart (entries_in s (part_forms s p))
entries_apart s p kept is =
    subst (AllPairs AreEntriesApart) (sym (part_entries s p)) (tables_apart s is.root p.entries 0 p.tables kept is.component (let e = is.tables.count in omega arith))

-- the entries of a part are of its switches
entries_joined : (s : ScriptOf) (p : Part) → IsScript s → (is : IsPart s p) → All (λ a. are_joined s.wires.links a.s is.root ≡ true) (entries_in s (part_forms s p))
entries_joined s p kept is =
    subst (All (λ a. are_joined s.wires.links a.s is.root ≡ true)) (sym (part_entries s p))
    (All-weaker (IsFrom s p.entries 0) (λ a. are_joined s.wires.links a.s is.root ≡ true)
    (λ a from. subst (λ (x : ℕ). are_joined s.wires.links x is.root ≡ true) (sym from.3) (switch_joined s is.root p.entries from.0 nothing kept is.component from.2))
    (entries_in s (table_forms s p.entries 0 p.tables)) (tables_from s p.entries 0 p.tables (let e = is.tables.count in omega arith)))

-- the entries of all parts are apart
pub own_entries : (s : ScriptOf) (parts : List Part) → AreParts s parts → AllPairs AreEntriesApart (entries_in s (expect_forms s parts))
own_entries s parts are =
    let each = are_parts s parts are.kept are.trees are.tables in
    subst (AllPairs AreEntriesApart) (sym (entries_flat s (part_forms s) parts))
    (AllPairs-flat_map AreEntriesApart (λ p. entries_in s (part_forms s p)) parts
    (λ i d low. entries_apart s (get_or parts i d) are.kept (each i d low))
    (λ i j d before low k a in_k l b in_l same.
    let p = get_or parts i d in
    let q = get_or parts j d in
    let is_p : IsPart s p = each i d (omega arith) in
    let is_q : IsPart s q = each j d low in
    let x = get_or (entries_in s (part_forms s p)) k a in
    let y = get_or (entries_in s (part_forms s q)) l b in
    absurd (switches_apart s.wires is_p.root is_q.root p.entries q.entries x.s y.s are.kept.wired is_p.component is_q.component (parts_rise s parts i j d are before low)
    (entries_joined s p are.kept is_p k a in_k) (entries_joined s q are.kept is_q l b in_l)
    (subst (λ (z : ℕ). are_joined s.wires.links x.s z ≡ true) same (joined_self s.wires.links x.s)))))
