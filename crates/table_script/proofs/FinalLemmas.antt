use Rattle.std.proofs.Common.{◌≡◌, ◌∙◌, sym, ap, refl, subst, ℕ, zero, suc, ◌+◌, ◌<◌, inl, inr, List, [], ◌∷◌, ◌++◌, arith, length, get_or, map, Option, Some, Bool, true, false, cond, eqb, ◌||◌, All}
use Rattle.std.specs.Prelude.{unwrap_or}
use Rattle.std.specs.Option.{option_map}
use Rattle.std.specs.List.{list_any, list_all, range_with_len, find}
use Rattle.std.proofs.lemmas.Bool.{and_parts, cases_lt}
use Rattle.std.proofs.lemmas.Bool.Decides.{Decides-eqb}
use Rattle.std.proofs.lemmas.List.FromFn.{get_or-map-range_with_len, length-map-range_with_len, map-range_with_len_more}
use Rattle.an_base.specs.Rows.{RowOf}
use Rattle.an_base.specs.Tree.{Walk}
use Rattle.net_graph.specs.Wires.{Wires, network}
use Rattle.table_script.specs.declared.table_draft.NumberAt.{NumberAt}
use Rattle.net_script.specs.Scripts.{ScriptOf}
use Rattle.table_script.specs.Tables.{TablesOf, IsRowOf, IsTables, AreTablesOf, are_joined}
use Rattle.table_script.specs.TableDrafts.{TableDraftOf}
use Rattle.table_script.specs.TableRules.{is_numbered, are_numbered, number_of, tables_of, AreNumbersApart, IsNumberAt, IsKept}
use Rattle.table_script.proofs.JoinedLemmas.{joined_back, walk_joined}

-- the first element that passes, with its place
record IsFound {X : Type 0} (p : X → Bool) (xs : List X) : Type 0 where
  pub place : ℕ
  pub item : X
  pub within : place < length xs
  pub at : (d : X) → get_or xs place d ≡ item
  pub first : find p xs ≡ Some item
  pub passes : p item ≡ true

found : {X : Type 0} (p : X → Bool) (xs : List X) → list_any p xs ≡ true → IsFound p xs
found p [] some = absurd (cc)
found {X} p (x ∷ xs) some = go (p x) refl (λ t. found p xs t)
  where
    go : (b : Bool) → p x ≡ b → (list_any p xs ≡ true → IsFound p xs) → IsFound p (x ∷ xs)
    go true t later = record { place = 0; item = x; within = omega arith; at = λ d. refl; first = ap (λ (b : Bool). cond b (Some x) (find p xs)) t; passes = t }
    go false t later =
        let rest = later (sym (ap (λ (b : Bool). b || list_any p xs) t) ∙ some) in
        record { place = suc rest.place; item = rest.item; within = (let h = rest.within in omega arith); at = rest.at; first = ap (λ (b : Bool). cond b (Some x) (find p xs)) t ∙ rest.first; passes = rest.passes }

-- what passes for all numbers of a range
passes_in : (p : ℕ → Bool) (a n : ℕ) → list_all p (range_with_len a n) ≡ true → (i : ℕ) → i < n → p (a + i) ≡ true
passes_in p a zero all i low = absurd (omega arith)
passes_in p a (suc n) all zero low = let e : a + 0 ≡ a = omega arith in rw e (and_parts (p a) (list_all p (range_with_len (a + 1) n)) all).0
passes_in p a (suc n) all (suc i) low =
    let e : a + suc i ≡ a + 1 + i = omega arith in
    rw e (passes_in p (a + 1) n (and_parts (p a) (list_all p (range_with_len (a + 1) n)) all).1 i (omega arith))

-- the number of a switch, and its place among the lines
record HasNumber (d : TableDraftOf) (s : ℕ) : Type 0 where
  pub place : ℕ
  pub item : NumberAt
  pub within : place < length d.numbers
  pub at : (e : NumberAt) → get_or d.numbers place e ≡ item
  pub switch : item.s ≡ s
  pub number : number_of d s ≡ item.number

has_number : (w : Wires) (d : TableDraftOf) (s : ℕ) → are_numbered w d ≡ true → s < length w.switches → HasNumber d s
unfolding are_numbered is_numbered number_of
has_number w d s all low =
    let e : 0 + s ≡ s = omega arith in
    let some : list_any (λ x. eqb x.s s) d.numbers ≡ true = subst (λ (n : ℕ). is_numbered d n ≡ true) e (passes_in (is_numbered d) 0 (length w.switches) all s low) in
    let f = found (λ x. eqb x.s s) d.numbers some in
    record {
      place = f.place;
      item = f.item;
      within = f.within;
      at = f.at;
      switch = (Decides-eqb f.item.s s).0 f.passes;
      number = ap (λ (o : Option NumberAt). unwrap_or (option_map (λ x. x.number) o) 0) f.first;
    }

-- the number at a place of the tables
number_at : (count : ℕ) (d : TableDraftOf) (s e : ℕ) → s < count → get_or (tables_of count d).numbers s e ≡ number_of d s
number_at count d s e low = get_or-map-range_with_len (number_of d) 0 count s s e low (omega arith)

-- two switches of one component that have one number are one
pub apart_is : (v : ScriptOf) (d : TableDraftOf) → IsKept v d → are_numbered v.wires d ≡ true → (m x y : ℕ) → x < length v.wires.switches → y < length v.wires.switches → Walk (network v.wires) m x y → number_of d x ≡ number_of d y → x ≡ y
apart_is v d kept all m x y x_low y_low walk same =
    let a = has_number v.wires d x all x_low in
    let b = has_number v.wires d y all y_low in
    let numbers : a.item.number ≡ b.item.number = sym a.number ∙ same ∙ b.number in
    elim (cases_lt a.place b.place) [
      | inl low ↦ absurd (clash a.place b.place a.item b.item low b.within (a.at a.item) (b.at a.item) (joined a.item.s b.item.s a.switch b.switch) numbers)
      | inr high ↦ elim (cases_lt b.place a.place) [
        | inl low ↦ absurd (clash b.place a.place b.item a.item low a.within (b.at b.item) (a.at b.item) (joined_back v.wires.links a.item.s b.item.s (joined a.item.s b.item.s a.switch b.switch)) (sym numbers))
        | inr low ↦ (let places : a.place ≡ b.place = omega arith in
            let items : a.item ≡ b.item = sym (a.at a.item) ∙ ap (λ (k : ℕ). get_or d.numbers k a.item) places ∙ b.at a.item in
            sym a.switch ∙ ap (λ (i : NumberAt). i.s) items ∙ b.switch)
      ]
    ]
  where
    joined : (s t : ℕ) → s ≡ x → t ≡ y → are_joined v.wires.links s t ≡ true
    joined s t s_is t_is = rw (s_is, t_is) (walk_joined v.wires m x y walk)

    clash : (i j : ℕ) (p q : NumberAt) → i < j → j < length d.numbers → get_or d.numbers i p ≡ p → get_or d.numbers j p ≡ q → are_joined v.wires.links p.s q.s ≡ true → p.number ≡ q.number → ⊥
    clash i j p q low high at_i at_j join number =
        let h = kept.numbers_apart i j p low high in
        let apart : AreNumbersApart v.wires p q = subst (λ (u : NumberAt). AreNumbersApart v.wires p u) at_j (subst (λ (u : NumberAt). AreNumbersApart v.wires u (get_or d.numbers j p)) at_i h) in
        apart.numbers join number

-- what tables that came to their end keep
pub tables_kept : (v : ScriptOf) (d : TableDraftOf) → IsKept v d → are_numbered v.wires d ≡ true → IsTables (tables_of (length v.wires.switches) d)
tables_kept v d kept all = record {
  numbers = λ k e within. let low : k < length v.wires.switches = omega (arith, length-map-range_with_len (number_of d) 0 (length v.wires.switches)) in
      let h = has_number v.wires d k all low in
      let is : get_or (tables_of (length v.wires.switches) d).numbers k e ≡ h.item.number = number_at (length v.wires.switches) d k e low ∙ h.number in
      let range = subst (IsNumberAt (length v.wires.switches)) (h.at h.item) (kept.numbers h.place h.item h.within) in
      (rw is range.least, rw is range.most);
  rows = subst (λ (n : ℕ). All (IsRowOf n) d.rows) (sym (length-map-range_with_len (number_of d) 0 (length v.wires.switches))) kept.rows;
  rows_apart = kept.rows_apart;
}

pub tables_of_network : (v : ScriptOf) (d : TableDraftOf) → IsKept v d → are_numbered v.wires d ≡ true → AreTablesOf v.wires (tables_of (length v.wires.switches) d)
tables_of_network v d kept all = record {
  count = length-map-range_with_len (number_of d) 0 (length v.wires.switches);
  apart = λ m x y x_low y_low walk same. apart_is v d kept all m x y x_low y_low walk (sym (number_at (length v.wires.switches) d x 0 x_low) ∙ same ∙ number_at (length v.wires.switches) d y 0 y_low);
}

-- the numbers so far, with one more
pub numbers_push : (d : TableDraftOf) (s n : ℕ) (old all : List ℕ) → old ≡ map (number_of d) (range_with_len 0 s) → n ≡ number_of d s → all ≡ old ++ n ∷ [] → all ≡ map (number_of d) (range_with_len 0 (s + 1))
numbers_push d s n old all so_far is last =
    last ∙ ap (λ (ns : List ℕ). ns ++ n ∷ []) so_far ∙ ap (λ (k : ℕ). map (number_of d) (range_with_len 0 s) ++ k ∷ []) is ∙ sym (map-range_with_len_more (number_of d) 0 s s (omega arith))

-- the tables of what was read
pub tables_good : (v : ScriptOf) (w : Wires) (d : TableDraftOf) (count : ℕ) (numbers : List ℕ) (rows : List RowOf) → w ≡ v.wires → count ≡ length w.switches → numbers ≡ map (number_of d) (range_with_len 0 count) → rows ≡ d.rows → IsKept v d → are_numbered v.wires d ≡ true → IsTables (record { numbers = numbers; rows = rows })
tables_good v w d count numbers rows same count_is numbers_are rows_are kept all = rw (numbers_are, rows_are, count_is, same) (tables_kept v d kept all)

pub network_good : (v : ScriptOf) (w : Wires) (d : TableDraftOf) (count : ℕ) (numbers : List ℕ) (rows : List RowOf) (t : TablesOf) → w ≡ v.wires → count ≡ length w.switches → numbers ≡ map (number_of d) (range_with_len 0 count) → rows ≡ d.rows → t ≡ record { numbers = numbers; rows = rows } → IsKept v d → are_numbered v.wires d ≡ true → AreTablesOf v.wires t
network_good v w d count numbers rows t same count_is numbers_are rows_are is kept all = rw (is, numbers_are, rows_are, count_is, same) (tables_of_network v d kept all)
