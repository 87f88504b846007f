use Rattle.std.proofs.Common.{◌≡◌, ◌∙◌, sym, ap, refl, subst, ℕ, ◌<◌, ◌≤◌, List, [], ◌∷◌, ◌++◌, append_assoc, append-nil, arith, length, get_or, map, None, Bool, true, false, eqb, ltb, leb, not, ◌&&◌, ◌||◌, All, AllPairs, Result, Ok, Err, OnOk}
use Rattle.std.specs.List.{list_any, list_all}
use Rattle.std.proofs.lemmas.Bool.{and_parts, not-true, or_parts}
use Rattle.std.proofs.lemmas.Bool.Decides.{nat_tests, Decides-eqb}
use Rattle.std.proofs.lemmas.List.Folds.{list_any-append}
use Rattle.std.proofs.lemmas.List.Quantifiers.{all_pairs_push}
use Rattle.std.proofs.lemmas.List.Elements.{All-nil, All-cons, All-push, All-append, All-weaker}
use Rattle.an_base.specs.Rows.{RowOf}
use Rattle.net_script.specs.declared.cause.ScriptCause.{ScriptCause}
use Rattle.net_script.specs.declared.cause.ScriptCause.TheVariants.{BadNumber, NameTwice, PortRange, TablesShort}
use Rattle.table_script.specs.declared.table_draft.NumberAt.{NumberAt}
use Rattle.table_script.specs.declared.table_draft.EntryAt.{EntryAt}
use Rattle.common_lines.specs.Words.{is_number, number_value}
use Rattle.common_lines.specs.Faults.{unless}
use Rattle.net_script.specs.Rules.{place, known_cause, number_cause}
use Rattle.net_script.specs.Scripts.{ScriptOf}
use Rattle.table_script.specs.Tables.{IsRowOf, AreRowsApart, are_joined}
use Rattle.row_text.specs.TableForms.{TableForm, ComponentLine, MemberLine, NumberLine, RowLine, EndLine}
use Rattle.table_script.specs.TableDrafts.{TableDraftOf, no_tables}
use Rattle.table_script.specs.TableRules.{is_pair, are_pairs, rise_above, pair_number, row_of, entry_cause, is_numbered, is_number_taken, is_entered, are_numbered, number_line_cause, row_line_cause, table_cause, with_number, with_rows, with_table_form, AreNumbersApart, IsNumberAt, IsKept}
use Rattle.net_script.specs.Steps.{ScriptStop}
use Rattle.common_lines.specs.declared.stop.Stop.TheVariants.{Fault, OutOfMemory}
use Rattle.table_script.specs.TableTexts.{AddsTableForm}
use Rattle.common_lines.proofs.FaultLemmas.{no_first, holds}
use Rattle.net_script.proofs.RangeLemmas.{known_low, in_range}
use Rattle.common_lines.specs.Stops.{IsStep}

-- what no lines say
pub none_kept : (s : ScriptOf) → length s.switch_names ≡ length s.wires.switches → IsKept s no_tables
none_kept s named = record {
  named = named;
  numbers = All-nil (IsNumberAt (length s.wires.switches));
  numbers_apart = λ i j d low high. absurd (omega arith);
  rows = All-nil (IsRowOf (length s.wires.switches));
  entered = All-nil (λ r. is_entered no_tables r.at r.entry ≡ true);
  rows_apart = λ i j d low high. absurd (omega arith);
  ended = λ t. absurd (cc);
}

-- where a test passes nowhere it does not at a place
pub fails_at : {X : Type 0} (p : X → Bool) (xs : List X) → list_any p xs ≡ false → All (λ x. p x ≡ false) xs
fails_at p [] none = All-nil (λ x. p x ≡ false)
fails_at p (x ∷ xs) none = let parts = or_parts (p x) (list_any p xs) none in All-cons (λ y. p y ≡ false) x xs parts.0 (fails_at p xs parts.1)

-- one more number
number_kept : (v : ScriptOf) (d : TableDraftOf) (s n : ℕ) → IsKept v d → d.ended ≡ false → s < length v.wires.switches → 1 ≤ n → n ≤ 126 → is_numbered d s ≡ false → is_number_taken v.wires d s n ≡ false → IsKept v (with_number d s n)
unfolding is_numbered is_number_taken is_entered
number_kept v d s n kept unended low least most new free = record {
  named = kept.named;
  numbers = All-push (IsNumberAt (length v.wires.switches)) d.numbers (record { s = s; number = n }) kept.numbers (record { switch = low; least = least; most = most });
  numbers_apart = all_pairs_push (AreNumbersApart v.wires) d.numbers (record { s = s; number = n }) kept.numbers_apart apart;
  rows = kept.rows;
  entered = kept.entered;
  rows_apart = kept.rows_apart;
  ended = λ t. absurd (cc);
}
  where
    apart : (k : ℕ) (e : NumberAt) → k < length d.numbers → AreNumbersApart v.wires (get_or d.numbers k e) (record { s = s; number = n })
    apart k e within = record {
      switches = λ same. let no : eqb (get_or d.numbers k e).s s ≡ false = fails_at (λ x. eqb x.s s) d.numbers new k e within in
          let yes : eqb (get_or d.numbers k e).s s ≡ true = (Decides-eqb (get_or d.numbers k e).s s).1 same in absurd (cc);
      numbers = λ joined same. let no : (eqb (get_or d.numbers k e).number n && are_joined v.wires.links (get_or d.numbers k e).s s) ≡ false = fails_at (λ x. eqb x.number n && are_joined v.wires.links x.s s) d.numbers free k e within in
          let yes : eqb (get_or d.numbers k e).number n ≡ true = (Decides-eqb (get_or d.numbers k e).number n).1 same in
          let both : (eqb (get_or d.numbers k e).number n && are_joined v.wires.links (get_or d.numbers k e).s s) ≡ true = rw (yes, joined) refl in absurd (cc);
    }

-- rows of which those of one entry lead to numbers up to one
record AreRowsTo (count s entry high : ℕ) (rows : List RowOf) : Type 0 where
  pub all : All (IsRowOf count) rows
  pub apart : AllPairs AreRowsApart rows
  pub below : All (λ r. r.at ≡ s → r.entry ≡ entry → r.to ≤ high) rows

-- the number of a pair
pair_range : (word : List ℕ) → is_pair word ≡ true → (1 ≤ pair_number word) × (pair_number word ≤ 126)
unfolding is_pair
pair_range word is =
    let parts = and_parts _ _ is in
    let more = and_parts _ _ parts.1 in
    in_range 1 126 _ (ap (λ (b : Bool). unless b BadNumber) more.0)

-- the rows of pairs whose numbers rise
rows_on : (count s entry : ℕ) (pairs : List (List ℕ)) (low : ℕ) (rows : List RowOf) → s < count → entry ≤ 12 → AreRowsTo count s entry low rows → list_all is_pair pairs ≡ true → rise_above low (map pair_number pairs) ≡ true → (high : ℕ) × AreRowsTo count s entry high (rows ++ map (row_of s entry) pairs)
rows_on count s entry [] low rows s_low entry_low are all rise = (low, subst (AreRowsTo count s entry low) (sym (append-nil rows)) are)
rows_on count s entry (p ∷ ps) low rows s_low entry_low are all rise =
    let here = and_parts (is_pair p) (list_all is_pair ps) all in
    let up = and_parts (ltb low (pair_number p)) (rise_above (pair_number p) (map pair_number ps)) rise in
    let above : low < pair_number p = grind (arith, nat_tests) in
    let range = pair_range p here.0 in
    let row = row_of s entry p in
    let more : AreRowsTo count s entry (pair_number p) (rows ++ row ∷ []) = record {
      all = All-push (IsRowOf count) rows row are.all (record { at = s_low; entry = entry_low; to_least = range.0; to_most = range.1 });
      apart = all_pairs_push AreRowsApart rows row are.apart (λ k e within at same to. let h = are.below k e within at same in absurd (omega arith));
      below = All-push (λ r. r.at ≡ s → r.entry ≡ entry → r.to ≤ pair_number p) rows row (All-weaker (λ r. r.at ≡ s → r.entry ≡ entry → r.to ≤ low) (λ r. r.at ≡ s → r.entry ≡ entry → r.to ≤ pair_number p) (λ r h at same. let l = h at same in omega arith) rows are.below) (λ at same. omega arith);
    } in
    let rest = rows_on count s entry ps (pair_number p) (rows ++ row ∷ []) s_low entry_low more here.1 up.1 in
    (rest.0, subst (AreRowsTo count s entry rest.0) (append_assoc rows (row ∷ []) (map (row_of s entry) ps)) rest.1)

-- each of the rows of pairs
all_mapped : (P : RowOf → Type 0) (f : List ℕ → RowOf) (ps : List (List ℕ)) → ((p : List ℕ) → P (f p)) → All P (map f ps)
all_mapped P f [] each = All-nil P
all_mapped P f (p ∷ ps) each = All-cons P (f p) (map f ps) (each p) (all_mapped P f ps each)

-- the rows of one line more
rows_kept : (v : ScriptOf) (d : TableDraftOf) (s entry : ℕ) (pairs : List (List ℕ)) → IsKept v d → d.ended ≡ false → s < length v.wires.switches → entry ≤ 12 → is_entered d s entry ≡ false → are_pairs 0 pairs ≡ true → IsKept v (with_rows d s entry pairs)
unfolding is_entered
rows_kept v d s entry pairs kept unended low entry_low new good =
    let parts = and_parts (list_all is_pair pairs) (rise_above 0 (map pair_number pairs)) good in
    let rows = (rows_on (length v.wires.switches) s entry pairs 0 d.rows low entry_low (record { all = kept.rows; apart = kept.rows_apart; below = none_here }) parts.0 parts.1).1 in
    record {
      named = kept.named;
      numbers = kept.numbers;
      numbers_apart = kept.numbers_apart;
      rows = rows.all;
      entered = All-append (λ r. is_entered (with_rows d s entry pairs) r.at r.entry ≡ true) d.rows (map (row_of s entry) pairs)
          (All-weaker (λ r. is_entered d r.at r.entry ≡ true) (λ r. is_entered (with_rows d s entry pairs) r.at r.entry ≡ true) (λ r h. still r.at r.entry h) d.rows kept.entered)
          (all_mapped (λ r. is_entered (with_rows d s entry pairs) r.at r.entry ≡ true) (row_of s entry) pairs (λ p. now));
      rows_apart = rows.apart;
      ended = λ t. absurd (cc);
    }
  where
    none_here : All (λ r. r.at ≡ s → r.entry ≡ entry → r.to ≤ 0) d.rows
    none_here k e within at same =
        let yes : is_entered d (get_or d.rows k e).at (get_or d.rows k e).entry ≡ true = kept.entered k e within in
        let here : is_entered d s entry ≡ true = sym (ap (λ (t : ℕ). is_entered d t (get_or d.rows k e).entry) at ∙ ap (λ (n : ℕ). is_entered d s n) same) ∙ yes in
        absurd (cc)

    still : (t n : ℕ) → is_entered d t n ≡ true → is_entered (with_rows d s entry pairs) t n ≡ true
    still t n h = list_any-append (λ (x : EntryAt). eqb x.s t && eqb x.entry n) d.entries (record { s = s; entry = entry } ∷ []) ∙ rw h refl

    last : (a b : Bool) → b ≡ true → (a || (b || false)) ≡ true
    last true b t = refl
    last false b t = rw t refl

    now : is_entered (with_rows d s entry pairs) s entry ≡ true
    now = list_any-append (λ (x : EntryAt). eqb x.s s && eqb x.entry entry) d.entries (record { s = s; entry = entry } ∷ [])
        ∙ last (list_any (λ (x : EntryAt). eqb x.s s && eqb x.entry entry) d.entries) (eqb s s && eqb entry entry) (rw ((Decides-eqb s s).1 refl, (Decides-eqb entry entry).1 refl) refl)

-- the entry of a row
entry_most : (word : List ℕ) → entry_cause word ≡ None → number_value word ≤ 12
entry_most word good =
    let parts = no_first (unless (is_number word) BadNumber) _ good in
    let t = holds (leb (number_value word) 12) PortRange (no_first (unless (leb (number_value word) 12) PortRange) None parts.1).0 in
    grind (arith, nat_tests)

-- what a good line keeps, before the last
pub form_kept : (s : ScriptOf) (d : TableDraftOf) (form : TableForm) → IsKept s d → d.ended ≡ false → table_cause s d form ≡ None → IsKept s (with_table_form s d form)
unfolding number_line_cause row_line_cause is_entered are_numbered is_numbered
form_kept s d (ComponentLine more) kept unended good = kept
form_kept s d (MemberLine more) kept unended good = kept
form_kept s d (NumberLine name n) kept unended good =
    let a = no_first (known_cause s.switch_names name) _ good in
    let b = no_first (unless (not (is_numbered d (place s.switch_names name))) NameTwice) _ a.1 in
    let c = no_first (number_cause 1 126 n) _ b.1 in
    let e = no_first (unless (not (is_number_taken s.wires d (place s.switch_names name) (number_value n))) NameTwice) None c.1 in
    let low = known_low s.switch_names name a.0 in
    let range = in_range 1 126 n c.0 in
    number_kept s d (place s.switch_names name) (number_value n) kept unended (omega (arith, kept.named)) range.0 range.1
    (not-true _ (holds _ NameTwice b.0)) (not-true _ (holds _ NameTwice e.0))
form_kept s d (RowLine name entry pairs) kept unended good =
    let a = no_first (known_cause s.switch_names name) _ good in
    let b = no_first (entry_cause entry) _ a.1 in
    let c = no_first (unless (not (is_entered d (place s.switch_names name) (number_value entry))) NameTwice) _ b.1 in
    let e = no_first (unless (are_pairs 0 pairs) BadNumber) None c.1 in
    let low = known_low s.switch_names name a.0 in
    rows_kept s d (place s.switch_names name) (number_value entry) pairs kept unended (omega (arith, kept.named)) (entry_most entry b.0)
    (not-true _ (holds _ NameTwice c.0)) (holds _ BadNumber e.0)
form_kept s d EndLine kept unended good =
    let ended : (with_table_form s d EndLine).ended ≡ true → are_numbered s.wires (with_table_form s d EndLine) ≡ true = λ t. holds (are_numbered s.wires d) TablesShort good in
    assumption (ended, kept)

-- what a step keeps
pub step_kept : {T : Type 0} (r : Result T ScriptStop) (s : ScriptOf) (d e : TableDraftOf) (words : List (List ℕ)) (faulty : ScriptCause → Type 0) → IsKept s d → d.ended ≡ false → IsStep r (AddsTableForm s d words e) faulty → OnOk r (IsKept s e)
step_kept (Ok x) s d e words faulty kept unended step = subst (IsKept s) (sym step.then) (form_kept s d step.form kept unended step.good)
step_kept (Err (Fault c)) s d e words faulty kept unended step = tt
step_kept (Err OutOfMemory) s d e words faulty kept unended step = tt
