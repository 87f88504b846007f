use Rattle.std.proofs.Common.{◌≡◌, ◌≢◌, ◌∙◌, sym, ap, refl, subst, ℕ, ◌<◌, List, [], ◌∷◌, ◌++◌, append_assoc, append-nil, arith, length, length-append, get_or, map, None, Bool, true, false, eqb, ◌&&◌, All, AllPairs}
use Rattle.std.specs.List.{join_with_byte, range_with_len}
use Rattle.std.proofs.lemmas.Bool.Decides.{Decides-eqb}
use Rattle.std.proofs.lemmas.List.{get_or_append_left, get_or_at}
use Rattle.std.proofs.lemmas.List.Folds.{list_any_none, list_any-from_Any}
use Rattle.std.proofs.lemmas.List.FromFn.{get_or-range_with_len, length-range_with_len}
use Rattle.an_base.specs.Rows.{RowOf}
use Rattle.net_script.specs.declared.cause.ScriptCause.TheVariants.{BadNumber, TablesShort, LineTooLong, NotAscii}
use Rattle.common_lines.specs.Faults.{unless}
use Rattle.table_script.specs.declared.table_draft.NumberAt.{NumberAt}
use Rattle.table_script.specs.declared.table_draft.EntryAt.{EntryAt}
use Rattle.net_script.specs.Rules.{place, known_cause}
use Rattle.common_lines.specs.Words.{number_value}
use Rattle.net_script.specs.Scripts.{ScriptOf}
use Rattle.common_lines.specs.Chains.{LeadsBy}
use Rattle.table_script.specs.Tables.{are_joined}
use Rattle.row_text.specs.TableForms.{TableForm, ComponentLine, MemberLine, NumberLine, RowLine, EndLine, table_words}
use Rattle.table_script.specs.TableDrafts.{TableDraftOf, no_tables}
use Rattle.table_script.specs.TableRules.{row_of, entry_cause, are_pairs, is_numbered, is_number_taken, is_entered, are_numbered, row_line_cause, table_cause, with_table_form, AreNumbersApart}
use Rattle.table_script.specs.TableTexts.{AddsTableWords, AddsTable}
use Rattle.table_script.proofs.TableLaws.{AddsTableRow}
use Rattle.common_lines.proofs.SpellLemmas.{line_good, line_words, test_from_all}
use Rattle.common_lines.proofs.SpellLemmas.{fixed_word, words_cons, words_nil}
use Rattle.table_script.proofs.NumberLineLemmas.{number_new}
use Rattle.check_text.proofs.OwnForms.{numbers_in, entries_in, rows_in, drafted, IsPlain, IsPrintedForm, AreEntriesApart, AreWhole}

-- what a front of the forms says
abbrev so_far : ScriptOf → List TableForm → TableDraftOf
so_far s fs = record { numbers = numbers_in s fs; entries = entries_in s fs; rows = rows_in s fs; ended = false }

-- what two lists of forms say, one after the other
numbers_append : (s : ScriptOf) (xs ys : List TableForm) → numbers_in s (xs ++ ys) ≡ numbers_in s xs ++ numbers_in s ys
numbers_append s [] ys = refl
numbers_append s (ComponentLine more ∷ xs) ys = numbers_append s xs ys
numbers_append s (MemberLine more ∷ xs) ys = numbers_append s xs ys
numbers_append s (NumberLine name n ∷ xs) ys = ap (λ (ns : List NumberAt). record { s = place s.switch_names name; number = number_value n } ∷ ns) (numbers_append s xs ys)
numbers_append s (RowLine name entry pairs ∷ xs) ys = numbers_append s xs ys
numbers_append s (EndLine ∷ xs) ys = numbers_append s xs ys

entries_append : (s : ScriptOf) (xs ys : List TableForm) → entries_in s (xs ++ ys) ≡ entries_in s xs ++ entries_in s ys
entries_append s [] ys = refl
entries_append s (ComponentLine more ∷ xs) ys = entries_append s xs ys
entries_append s (MemberLine more ∷ xs) ys = entries_append s xs ys
entries_append s (NumberLine name n ∷ xs) ys = entries_append s xs ys
entries_append s (RowLine name entry pairs ∷ xs) ys = ap (λ (es : List EntryAt). record { s = place s.switch_names name; entry = number_value entry } ∷ es) (entries_append s xs ys)
entries_append s (EndLine ∷ xs) ys = entries_append s xs ys

rows_append : (s : ScriptOf) (xs ys : List TableForm) → rows_in s (xs ++ ys) ≡ rows_in s xs ++ rows_in s ys
rows_append s [] ys = refl
rows_append s (ComponentLine more ∷ xs) ys = rows_append s xs ys
rows_append s (MemberLine more ∷ xs) ys = rows_append s xs ys
rows_append s (NumberLine name n ∷ xs) ys = rows_append s xs ys
rows_append s (RowLine name entry pairs ∷ xs) ys =
    ap (λ (rs : List RowOf). map (row_of (place s.switch_names name) (number_value entry)) pairs ++ rs) (rows_append s xs ys)
    ∙ sym (append_assoc (map (row_of (place s.switch_names name) (number_value entry)) pairs) (rows_in s xs) (rows_in s ys))
rows_append s (EndLine ∷ xs) ys = rows_append s xs ys

-- drafts with equal parts are equal
drafts_same : (a b : List NumberAt) (e f : List EntryAt) (q r : List RowOf) (t : Bool) → a ≡ b → e ≡ f → q ≡ r → ◌≡◌ {A = TableDraftOf} (record { numbers = a; entries = e; rows = q; ended = t }) (record { numbers = b; entries = f; rows = r; ended = t })
drafts_same a b e f q r t numbers entries rows = rw (numbers, entries, rows) refl

-- one form more
form_more : (s : ScriptOf) (xs : List TableForm) (f : TableForm) → IsPlain s f → so_far s (xs ++ f ∷ []) ≡ with_table_form s (so_far s xs) f
form_more s xs (ComponentLine more) plain = drafts_same _ _ _ _ _ _ false (numbers_append s xs (ComponentLine more ∷ []) ∙ append-nil (numbers_in s xs)) (entries_append s xs (ComponentLine more ∷ []) ∙ append-nil (entries_in s xs)) (rows_append s xs (ComponentLine more ∷ []) ∙ append-nil (rows_in s xs))
form_more s xs (MemberLine more) plain = drafts_same _ _ _ _ _ _ false (numbers_append s xs (MemberLine more ∷ []) ∙ append-nil (numbers_in s xs)) (entries_append s xs (MemberLine more ∷ []) ∙ append-nil (entries_in s xs)) (rows_append s xs (MemberLine more ∷ []) ∙ append-nil (rows_in s xs))
form_more s xs (NumberLine name n) plain = drafts_same _ _ _ _ _ _ false (numbers_append s xs (NumberLine name n ∷ [])) (entries_append s xs (NumberLine name n ∷ []) ∙ append-nil (entries_in s xs)) (rows_append s xs (NumberLine name n ∷ []) ∙ append-nil (rows_in s xs))
form_more s xs (RowLine name entry pairs) plain = drafts_same _ _ _ _ _ _ false (numbers_append s xs (RowLine name entry pairs ∷ []) ∙ append-nil (numbers_in s xs)) (entries_append s xs (RowLine name entry pairs ∷ [])) (rows_append s xs (RowLine name entry pairs ∷ []) ∙ ap (λ (rs : List RowOf). rows_in s xs ++ rs) (append-nil (map (row_of (place s.switch_names name) (number_value entry)) pairs)))
form_more s xs EndLine plain = absurd plain

-- each element before one in the middle is related to it
pairs_before : {X : Type 0} (R : X → X → Type 0) (xs ys : List X) (x : X) → AllPairs R (xs ++ x ∷ ys) → All (λ a. R a x) xs
pairs_before R xs ys x apart i d low =
    subst (λ (a : _). R a x) (get_or_append_left xs (x ∷ ys) d i low)
    (subst (λ (b : _). R (get_or (xs ++ x ∷ ys) i d) b) (get_or_at xs x ys d (length xs) refl)
    (apart i (length xs) d low (omega (arith, length-append xs (x ∷ ys)))))

-- each form has a first word
words_some : (f : TableForm) → 0 < length (table_words f)
words_some (ComponentLine more) = omega arith
words_some (MemberLine more) = omega arith
words_some (NumberLine name n) = omega arith
words_some (RowLine name entry pairs) = omega arith
words_some EndLine = omega arith

-- words that are good and not none are a good row
adds_row : (s : ScriptOf) (d e : TableDraftOf) (words : List (List ℕ)) → 0 < length words → AddsTableWords d.ended s d words e → AddsTableRow s d words e
adds_row s d e [] some adds = absurd (omega arith)
adds_row s d e (w ∷ ws) some adds = adds

-- a printed form with which nothing is wrong is a good line
form_adds : (s : ScriptOf) (d e : TableDraftOf) (f : TableForm) → IsPrintedForm f → d.ended ≡ false → table_cause s d f ≡ None → e ≡ with_table_form s d f → AddsTable s d (join_with_byte 32 (table_words f)) e
form_adds s d e f printed unended good then = record {
  bytes = line_good LineTooLong NotAscii 4000 (table_words f) printed.words (let h = printed.few in omega arith);
  row = subst (λ (ws : List (List ℕ)). AddsTableRow s d ws e) (sym (line_words (table_words f) (words_some f) printed.words))
      (adds_row s d e (table_words f) (words_some f) (subst (λ (b : Bool). AddsTableWords b s d (table_words f) e) (sym unended) (record { form = f; line = refl; good = good; then = then })));
}

-- the last line is printed
end_printed : IsPrintedForm EndLine
end_printed = record { words = words_cons _ [] (fixed_word _ refl (omega arith) (omega arith)) words_nil; few = omega arith }

-- the test whether two numbers are equal fails where they differ
eqb_differ : (a b : ℕ) → a ≢ b → eqb a b ≡ false
eqb_differ a b differ = go (eqb a b) refl
  where
    go : (t : Bool) → eqb a b ≡ t → t ≡ false
    go false e = refl
    go true e = absurd (differ ((Decides-eqb a b).0 e))

-- the test of both fails where not both can hold
both_fail : (p q : Bool) → (p ≡ true → q ≡ true → ⊥) → (p && q) ≡ false
both_fail false q never = refl
both_fail true false never = refl
both_fail true true never = absurd (never refl refl)

-- the number of a form in the middle is apart from those before it
number_apart : (s : ScriptOf) (fs xs ys : List TableForm) (name n : List ℕ) → xs ++ NumberLine name n ∷ ys ≡ fs → AllPairs (AreNumbersApart s.wires) (numbers_in s fs) → All (λ a. AreNumbersApart s.wires a (record { s = place s.switch_names name; number = number_value n })) (numbers_in s xs)
number_apart s fs xs ys name n parts apart =
    pairs_before (AreNumbersApart s.wires) (numbers_in s xs) (numbers_in s ys) (record { s = place s.switch_names name; number = number_value n })
    (subst (AllPairs (AreNumbersApart s.wires)) (sym (ap (numbers_in s) parts) ∙ numbers_append s xs (NumberLine name n ∷ ys)) apart)

entry_apart : (s : ScriptOf) (fs xs ys : List TableForm) (name entry : List ℕ) (pairs : List (List ℕ)) → xs ++ RowLine name entry pairs ∷ ys ≡ fs → AllPairs AreEntriesApart (entries_in s fs) → All (λ a. AreEntriesApart a (record { s = place s.switch_names name; entry = number_value entry })) (entries_in s xs)
entry_apart s fs xs ys name entry pairs parts apart =
    pairs_before AreEntriesApart (entries_in s xs) (entries_in s ys) (record { s = place s.switch_names name; entry = number_value entry })
    (subst (AllPairs AreEntriesApart) (sym (ap (entries_in s) parts) ∙ entries_append s xs (RowLine name entry pairs ∷ ys)) apart)

-- a switch of which no number came has no `number` line so far,
none_numbered : (s : ScriptOf) (xs : List TableForm) (x : NumberAt) → All (λ a. AreNumbersApart s.wires a x) (numbers_in s xs) → is_numbered (so_far s xs) x.s ≡ false
unfolding is_numbered
none_numbered s xs x apart = list_any_none (λ (a : NumberAt). eqb a.s x.s) (numbers_in s xs) (λ i d low. eqb_differ (get_or (numbers_in s xs) i d).s x.s (apart i d low).switches)

-- its number is not taken,
none_taken : (s : ScriptOf) (xs : List TableForm) (x : NumberAt) → All (λ a. AreNumbersApart s.wires a x) (numbers_in s xs) → is_number_taken s.wires (so_far s xs) x.s x.number ≡ false
unfolding is_number_taken
none_taken s xs x apart = list_any_none (λ (a : NumberAt). eqb a.number x.number && are_joined s.wires.links a.s x.s) (numbers_in s xs) (λ i d low.
    both_fail _ _ (λ same joined. (apart i d low).numbers joined ((Decides-eqb (get_or (numbers_in s xs) i d).number x.number).0 same)))

-- and an entry of which no line came has no `row` line so far
none_entered : (s : ScriptOf) (xs : List TableForm) (x : EntryAt) → All (λ a. AreEntriesApart a x) (entries_in s xs) → is_entered (so_far s xs) x.s x.entry ≡ false
unfolding is_entered
none_entered s xs x apart = list_any_none (λ (a : EntryAt). eqb a.s x.s && eqb a.entry x.entry) (entries_in s xs) (λ i d low.
    both_fail _ _ (λ at same. apart i d low ((Decides-eqb (get_or (entries_in s xs) i d).s x.s).0 at) ((Decides-eqb (get_or (entries_in s xs) i d).entry x.entry).0 same)))

-- a row with which nothing is wrong
row_new : (s : ScriptOf) (d : TableDraftOf) (name entry : List ℕ) (pairs : List (List ℕ)) → known_cause s.switch_names name ≡ None → entry_cause entry ≡ None → is_entered d (place s.switch_names name) (number_value entry) ≡ false → are_pairs 0 pairs ≡ true → row_line_cause s d name entry pairs ≡ None
unfolding row_line_cause
row_new s d name entry pairs known good new rise = rw (known, good, new, rise) refl

-- nothing is wrong with a form after those before it
form_good : (s : ScriptOf) (fs xs ys : List TableForm) (f : TableForm) → xs ++ f ∷ ys ≡ fs → AreWhole s fs → IsPlain s f → table_cause s (so_far s xs) f ≡ None
form_good s fs xs ys (ComponentLine more) parts whole plain = refl
form_good s fs xs ys (MemberLine more) parts whole plain = refl
form_good s fs xs ys (NumberLine name n) parts whole plain =
    let apart = number_apart s fs xs ys name n parts whole.numbers in
    (number_new s (so_far s xs) _ name n (place s.switch_names name) (number_value n) plain.0 refl (none_numbered s xs _ apart) (ap (λ (b : Bool). unless b BadNumber) plain.1) refl (none_taken s xs _ apart) refl).0
form_good s fs xs ys (RowLine name entry pairs) parts whole plain =
    row_new s (so_far s xs) name entry pairs plain.0 plain.1 (none_entered s xs _ (entry_apart s fs xs ys name entry pairs parts whole.entries)) plain.2
form_good s fs xs ys EndLine parts whole plain = absurd plain

-- all are numbered, so nothing is wrong with the last line
end_good : (s : ScriptOf) (fs : List TableForm) → AreWhole s fs → table_cause s (so_far s fs) EndLine ≡ None
unfolding are_numbered is_numbered
end_good s fs whole = ap (λ (b : Bool). unless b TablesShort) (test_from_all (is_numbered (so_far s fs)) (λ x. x < length s.wires.switches) numbered (range_with_len 0 (length s.wires.switches)) below)
  where
    numbered : (x : ℕ) → x < length s.wires.switches → is_numbered (so_far s fs) x ≡ true
    numbered x low = let h = whole.numbered x low in list_any-from_Any (λ (a : NumberAt). eqb a.s x) (numbers_in s fs) (h.0, h.1, h.2, h.3, (Decides-eqb h.1.s x).1 h.4)

    below : All (λ x. x < length s.wires.switches) (range_with_len 0 (length s.wires.switches))
    below i d low = let short = low in omega (arith, length-range_with_len 0 (length s.wires.switches), get_or-range_with_len 0 (length s.wires.switches) i d (omega (arith, length-range_with_len 0 (length s.wires.switches))))

-- the lines of the rest of the forms, after those of a front, and the last line
chain_on : (s : ScriptOf) (fs : List TableForm) → AreWhole s fs → (xs ys : List TableForm) → xs ++ ys ≡ fs → LeadsBy (AddsTable s) (so_far s xs) (map (join_with_byte 32) (map table_words (ys ++ EndLine ∷ []))) (drafted s fs)
chain_on s fs whole xs [] parts =
    let all : xs ≡ fs = sym (append-nil xs) ∙ parts in
    subst (λ (gs : List TableForm). LeadsBy (AddsTable s) (so_far s gs) (map (join_with_byte 32) (map table_words (EndLine ∷ []))) (drafted s fs)) (sym all)
    (drafted s fs, form_adds s (so_far s fs) (drafted s fs) EndLine end_printed refl (end_good s fs whole) refl, refl)
chain_on s fs whole xs (y ∷ ys) parts =
    let printed : IsPrintedForm y = in_middle IsPrintedForm whole.printed in
    let plain : IsPlain s y = in_middle (IsPlain s) whole.plain in (
      so_far s (xs ++ y ∷ []),
      form_adds s (so_far s xs) (so_far s (xs ++ y ∷ [])) y printed refl (form_good s fs xs ys y parts whole plain) (form_more s xs y plain),
      chain_on s fs whole (xs ++ y ∷ []) ys (append_assoc xs (y ∷ []) ys ∙ parts),
    )
  where
    in_middle : (P : TableForm → Type 0) → All P fs → P y
    in_middle P all = subst P (ap (λ (gs : List TableForm). get_or gs (length xs) y) (sym parts) ∙ get_or_at xs y ys y (length xs) refl) (all (length xs) y (omega (arith, ap length parts, length-append xs (y ∷ ys))))

-- the lines of whole forms and the last line lead from nothing to what they say
pub own_chain : (s : ScriptOf) (fs : List TableForm) → AreWhole s fs → LeadsBy (AddsTable s) no_tables (map (join_with_byte 32) (map table_words (fs ++ EndLine ∷ []))) (drafted s fs)
own_chain s fs whole = chain_on s fs whole [] fs refl
