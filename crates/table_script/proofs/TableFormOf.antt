use Rattle.std.proofs.Common.{◌≡◌, ◌∙◌, sym, ap, refl, ℕ, List, [], ◌∷◌, Option, Some, None, true, cond, codes, inl, Result, Bor, map, length, get_or, take, drop, eqb, arith, suc, ◌-◌, ◌<◌, ◌≤◌}
use Rattle.std.specs.Str.{bytes_eq}
use Rattle.std.proofs.lemmas.Bool.Decides.{Decides-eqb}
use Rattle.std.proofs.lemmas.List.{take_rest}
use Rattle.net_script.specs.declared.cause.ScriptCause.TheVariants.{UnknownWord}
use Rattle.net_script.specs.Scripts.{ScriptOf}
use Rattle.row_text.specs.TableForms.{TableForm, ComponentLine, MemberLine, NumberLine, RowLine, EndLine, table_words}
use Rattle.table_script.specs.TableDrafts.{TableDraftOf}
use Rattle.table_script.specs.TableTexts.{AddsTableForm, IsFaultyTableForm}
use Rattle.table_script.specs.TableSteps.{ReadsTable, IsWrongTable}
use Rattle.common_lines.specs.Grammar.{HasNoFormBy}
use Rattle.common_lines.specs.Stops.{IsStep}
use Rattle.common_lines.proofs.StopLemmas.{form_step_by}
use Rattle.net_script.specs.Steps.{ScriptStop}
use Rattle.table_script.specs.TableRules.{table_cause, with_table_form}
use Rattle.common_lines.proofs.ChoiceLemmas.{word_is, branch}

-- the form of the words after each first word
abbrev pub number_form : List (List ℕ) → Option TableForm
number_form (name ∷ n ∷ []) = Some (NumberLine name n)
number_form [] = None
number_form (a ∷ []) = None
number_form (a ∷ b ∷ c ∷ more) = None

abbrev pub row_form : List (List ℕ) → Option TableForm
row_form (name ∷ entry ∷ pairs) = Some (RowLine name entry pairs)
row_form [] = None
row_form (a ∷ []) = None

abbrev pub end_form : List (List ℕ) → Option TableForm
end_form [] = Some EndLine
end_form (a ∷ more) = None

-- the form of words
abbrev pub table_form_of : List (List ℕ) → Option TableForm
table_form_of [] = None
table_form_of (a ∷ more) = cond (bytes_eq a (codes "component")) (Some (ComponentLine more)) (cond (bytes_eq a (codes "member")) (Some (MemberLine more)) (cond (bytes_eq a (codes "number")) (number_form more) (cond (bytes_eq a (codes "row")) (row_form more) (cond (bytes_eq a (codes "end")) (end_form more) None))))

-- the form of a form's words
pub table_form_of-words : (form : TableForm) → table_form_of (table_words form) ≡ Some form
table_form_of-words (ComponentLine more) = refl
table_form_of-words (MemberLine more) = refl
table_form_of-words (NumberLine name n) = refl
table_form_of-words (RowLine name entry pairs) = refl
table_form_of-words EndLine = refl

-- forms of the same words are one
pub one_table_form : (f g : TableForm) → table_words f ≡ table_words g → f ≡ g
one_table_form f g same = let h : Some f ≡ Some g = sym (table_form_of-words f) ∙ ap table_form_of same ∙ table_form_of-words g in cc

-- words for which no form is found have none
pub no_table_form : (words : List (List ℕ)) → table_form_of words ≡ None → HasNoFormBy table_words words
no_table_form words none form same = let h : ◌≡◌ {A = Option TableForm} None (Some form) = sym none ∙ ap table_form_of same ∙ table_form_of-words form in absurd (cc)

number_is : (ws : List (List ℕ)) (f : TableForm) → number_form ws ≡ Some f → codes "number" ∷ ws ≡ table_words f
number_is [] f found = absurd (cc)
number_is (a ∷ []) f found = absurd (cc)
number_is (a ∷ b ∷ []) f found = let h : NumberLine a b ≡ f = cc in rw (← h) refl
number_is (a ∷ b ∷ c ∷ more) f found = absurd (cc)

row_is : (ws : List (List ℕ)) (f : TableForm) → row_form ws ≡ Some f → codes "row" ∷ ws ≡ table_words f
row_is [] f found = absurd (cc)
row_is (a ∷ []) f found = absurd (cc)
row_is (a ∷ b ∷ more) f found = let h : RowLine a b more ≡ f = cc in rw (← h) refl

end_is : (ws : List (List ℕ)) (f : TableForm) → end_form ws ≡ Some f → codes "end" ∷ ws ≡ table_words f
end_is [] f found = let h : EndLine ≡ f = cc in rw (← h) refl
end_is (a ∷ more) f found = absurd (cc)

-- the words of the form that is found
pub table_form_is : (words : List (List ℕ)) (f : TableForm) → table_form_of words ≡ Some f → words ≡ table_words f
table_form_is [] f found = absurd (cc)
table_form_is (a ∷ more) f found =
    branch (bytes_eq a (codes "component")) _ _ f _ (λ t e. let h : ComponentLine more ≡ f = cc in rw (word_is a (codes "component") t, ← h) refl)
    (λ n. branch (bytes_eq a (codes "member")) _ _ f _ (λ t e. let h : MemberLine more ≡ f = cc in rw (word_is a (codes "member") t, ← h) refl)
    (λ n. branch (bytes_eq a (codes "number")) _ _ f _ (λ t e. rw (word_is a (codes "number") t) (number_is more f e))
    (λ n. branch (bytes_eq a (codes "row")) _ _ f _ (λ t e. rw (word_is a (codes "row") t) (row_is more f e))
    (λ n. branch (bytes_eq a (codes "end")) _ _ f _ (λ t e. rw (word_is a (codes "end") t) (end_is more f e))
    (λ n e. absurd (cc)))))) found

-- what the reading of a form says of its words
pub table_step : {T : Type 0} (r : Result T ScriptStop) (s : ScriptOf) (d e : TableDraftOf) (form : TableForm) (words : List (List ℕ)) → words ≡ table_words form → IsStep r (ReadsTable s d form e) (IsWrongTable s d form) → IsStep r (AddsTableForm s d words e) (IsFaultyTableForm s d words)
table_step r s d e form words is step = form_step_by table_words (table_cause s) (with_table_form s) UnknownWord r d e form words is step

-- words without a form are faulty
pub unknown_table : (s : ScriptOf) (d : TableDraftOf) (words : List (List ℕ)) → table_form_of words ≡ None → IsFaultyTableForm s d words UnknownWord
unknown_table s d words none = inl (no_table_form words none, refl)

-- the words of a number line, a row line and the last line
two_words : (ws : List (Bor (List ℕ))) (d e : Bor (List ℕ)) → 2 ≤ length ws → length ws < 3 → map (λ w. w.now) ws ≡ (get_or ws 0 d).now ∷ (get_or ws 1 e).now ∷ []
two_words [] d e least most = absurd (omega arith)
two_words (a ∷ []) d e least most = absurd (omega arith)
two_words (a ∷ b ∷ []) d e least most = refl
two_words (a ∷ b ∷ c ∷ ws) d e least most = absurd (omega arith)

more_words : (ws : List (Bor (List ℕ))) (d e : Bor (List ℕ)) → 2 ≤ length ws → map (λ w. w.now) ws ≡ (get_or ws 0 d).now ∷ (get_or ws 1 e).now ∷ map (λ w. w.now) (take (length ws - 2) (drop 2 ws))
more_words [] d e least = absurd (omega arith)
more_words (a ∷ []) d e least = absurd (omega arith)
more_words (a ∷ b ∷ ws) d e least = ap (λ (vs : List (Bor (List ℕ))). a.now ∷ b.now ∷ map (λ w. w.now) vs) (sym (take_rest (a ∷ b ∷ ws) 2))

pub number_words : {T : Type 0} (r : Result T ScriptStop) (s : ScriptOf) (d e : TableDraftOf) (ws : List (Bor (List ℕ))) (f g : Bor (List ℕ)) → 2 ≤ length ws → length ws < 3 → IsStep r (ReadsTable s d (NumberLine (get_or ws 0 f).now (get_or ws 1 g).now) e) (IsWrongTable s d (NumberLine (get_or ws 0 f).now (get_or ws 1 g).now)) → IsStep r (AddsTableForm s d (codes "number" ∷ map (λ w. w.now) ws) e) (IsFaultyTableForm s d (codes "number" ∷ map (λ w. w.now) ws))
number_words r s d e ws f g least most step = table_step r s d e (NumberLine (get_or ws 0 f).now (get_or ws 1 g).now) (codes "number" ∷ map (λ w. w.now) ws) (ap (λ (vs : List (List ℕ)). codes "number" ∷ vs) (two_words ws f g least most)) step

pub row_words : {T : Type 0} (r : Result T ScriptStop) (s : ScriptOf) (d e : TableDraftOf) (ws : List (Bor (List ℕ))) (f g : Bor (List ℕ)) → 2 ≤ length ws → IsStep r (ReadsTable s d (RowLine (get_or ws 0 f).now (get_or ws 1 g).now (map (λ w. w.now) (take (length ws - 2) (drop 2 ws)))) e) (IsWrongTable s d (RowLine (get_or ws 0 f).now (get_or ws 1 g).now (map (λ w. w.now) (take (length ws - 2) (drop 2 ws))))) → IsStep r (AddsTableForm s d (codes "row" ∷ map (λ w. w.now) ws) e) (IsFaultyTableForm s d (codes "row" ∷ map (λ w. w.now) ws))
row_words r s d e ws f g least step = table_step r s d e (RowLine (get_or ws 0 f).now (get_or ws 1 g).now (map (λ w. w.now) (take (length ws - 2) (drop 2 ws)))) (codes "row" ∷ map (λ w. w.now) ws) (ap (λ (vs : List (List ℕ)). codes "row" ∷ vs) (more_words ws f g least)) step

pub end_words : {T : Type 0} (r : Result T ScriptStop) (s : ScriptOf) (d e : TableDraftOf) (first : List ℕ) (ws : List (Bor (List ℕ))) → bytes_eq first (codes "end") ≡ true → eqb (length ws) 0 ≡ true → IsStep r (ReadsTable s d EndLine e) (IsWrongTable s d EndLine) → IsStep r (AddsTableForm s d (first ∷ map (λ w. w.now) ws) e) (IsFaultyTableForm s d (first ∷ map (λ w. w.now) ws))
end_words r s d e first [] is none step = table_step r s d e EndLine (first ∷ []) (ap (λ (w : List ℕ). w ∷ []) (word_is first (codes "end") is)) step
end_words r s d e first (w ∷ ws) is none step = absurd (omega (arith, (Decides-eqb (suc (length ws)) 0).0 none))
