use Rattle.std.proofs.Common.{sym, subst, refl, ℕ, List, [], ◌∷◌, ◌++◌, All, arith, codes, false, length, map}
use Rattle.std.proofs.lemmas.List.{map-append}
use Rattle.std.proofs.lemmas.List.Elements.{All-append, All-cons, All-nil, All-map, All-weaker}
use Rattle.net_script.specs.Scripts.{ScriptOf}
use Rattle.table_script.specs.Tables.{TablesOf}
use Rattle.row_text.specs.TableForms.{TableForm, EndLine, table_words}
use Rattle.table_script.specs.TableRules.{tables_of}
use Rattle.table_script.specs.TableTexts.{IsTextWith}
use Rattle.net_script.specs.Texts.{IsText}
use Rattle.common_lines.proofs.SpellLemmas.{fixed_word, words_cons, words_nil}
use Rattle.net_script.proofs.ScriptKept.{text_kept}
use Rattle.common_lines.proofs.SpellLemmas.{IsWord}
use Rattle.check_text.specs.Check.{IsJudged}
use Rattle.expect_text.specs.Expect.{expect_text, IsExpectOf, Part}
use Rattle.check_text.proofs.OwnForms.{AreParts, AreWhole, IsPrintedForm, drafted}
use Rattle.expect_text.specs.Expect.{expect_forms}
use Rattle.check_text.proofs.OwnChain.{own_chain}
use Rattle.check_text.proofs.OwnTold.{own_told}
use Rattle.check_text.proofs.OwnLines.{own_printed, own_plain}
use Rattle.check_text.proofs.OwnApart.{own_numbers, own_entries, own_numbered}
use Rattle.check_text.proofs.OwnPass.{own_pass}

-- the forms of what is expected are the text of tables
forms_whole : (s : ScriptOf) (parts : List Part) → AreParts s parts → AreWhole s (expect_forms s parts)
forms_whole s parts are = record {
  printed = own_printed s parts are;
  plain = own_plain s parts are;
  numbers = own_numbers s parts are;
  entries = own_entries s parts are;
  numbered = own_numbered s parts are;
}

-- they are printed words, with the last line too
rows_printed : (fs : List TableForm) → All IsPrintedForm fs → All (All IsWord) (map table_words (fs ++ EndLine ∷ []))
rows_printed fs printed = subst (All (All IsWord)) (sym (map-append table_words fs (EndLine ∷ [])))
    (All-append (All IsWord) (map table_words fs) (table_words EndLine ∷ [])
    (All-map (All IsWord) table_words fs (All-weaker IsPrintedForm (λ f. All IsWord (table_words f)) (λ f is. is.words) fs printed))
    (All-cons (All IsWord) (table_words EndLine) [] (words_cons (codes "end") [] (fixed_word (codes "end") refl (omega arith) (omega arith)) words_nil) (All-nil (All IsWord))))

-- the text of a script, ended by a line feed, with what is expected of it behind it, is that of the script with
-- tables, which are not refused
pub own_tables_pass : (bytes : List ℕ) (s : ScriptOf) (text : List ℕ) → IsText (bytes ++ 10 ∷ []) s → IsExpectOf s text → (t : TablesOf) × IsTextWith (bytes ++ 10 ∷ text) s t × ((out : List ℕ) → ¬ IsJudged s t false out)
unfolding expect_text
own_tables_pass bytes s text from is =
    let parts = is.parts in
    let are : AreParts s parts = record { kept = text_kept (bytes ++ 10 ∷ []) s from; trees = is.trees; tables = is.tables } in
    let fs = expect_forms s parts in
    let whole = forms_whole s parts are in
    let rows = map table_words (fs ++ EndLine ∷ []) in
    let read = own_told bytes s rows (drafted s fs) from (rows_printed fs whole.printed) (own_chain s fs whole) refl in (
      tables_of (length s.wires.switches) (drafted s fs),
      subst (λ (t : List ℕ). IsTextWith (bytes ++ 10 ∷ t) s (tables_of (length s.wires.switches) (drafted s fs))) (sym is.text_is) read,
      λ out judged. own_pass s parts are out judged,
    )
