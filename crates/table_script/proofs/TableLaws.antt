use Rattle.std.proofs.Common.{◌≡◌, ◌⊎◌, inl, inr, ◌∙◌, sym, ap, refl, ℕ, List, length, Bool, true, false}
use Rattle.net_script.specs.declared.cause.ScriptCause.{ScriptCause}
use Rattle.net_script.specs.declared.cause.ScriptCause.TheVariants.{UnknownWord, AfterEnd, NoEnd}
use Rattle.net_script.specs.declared.draft.Draft.{Draft}
use Rattle.net_script.specs.declared.draft.Part.{Part}
use Rattle.net_script.specs.declared.draft.Part.TheVariants.{Header, Items, After}
use Rattle.common_lines.specs.Lines.{lines_of}
use Rattle.net_script.specs.Scripts.{ScriptOf}
use Rattle.net_script.specs.Texts.{bytes_cause}
use Rattle.table_script.specs.Tables.{TablesOf}
use Rattle.row_text.specs.TableForms.{table_words}
use Rattle.table_script.specs.TableDrafts.{TableDraftOf}
use Rattle.table_script.specs.TableRules.{table_cause, with_table_form, tables_of}
use Rattle.table_script.specs.TableTexts.{AddsTableWords, AddsTable, IsFaultyTableWords, IsFaultyTable, Told, none_told, AddsToldIn, AddsTold, IsFaultyToldIn, IsFaultyTold, AreEnded, IsTextWith, IsFaultWith}
use Rattle.common_lines.specs.Grammar.{AddsRowBy}
use Rattle.common_lines.proofs.GrammarLaws.{form_once, form_not_both, form_one_cause, either_form, line_once, line_not_both, line_one_cause, either_line}
use Rattle.common_lines.proofs.ChainLaws.{LeadsBy-once, no_fault_of, one_fault_of, end_or_fault}
use Rattle.net_script.proofs.TextLemmas.{Adds-once, not_both, one_cause, either}
use Rattle.table_script.proofs.TableFormOf.{one_table_form, table_form_of, table_form_is, no_table_form}

-- the words of a line of tables after a draft, if there are any, lead to another
abbrev pub AddsTableRow : ScriptOf → TableDraftOf → List (List ℕ) → TableDraftOf → Type 0
AddsTableRow s = AddsRowBy (λ d. AddsTableWords d.ended s d)

-- a line of tables leads to one draft
words_once : (ended : Bool) (s : ScriptOf) (d : TableDraftOf) (words : List (List ℕ)) (e f : TableDraftOf) → AddsTableWords ended s d words e → AddsTableWords ended s d words f → e ≡ f
words_once false s d words e f one other = form_once table_words (table_cause s) one_table_form (with_table_form s) d words e f one other
words_once true s d words e f one other = absurd one

table_once : (s : ScriptOf) (d : TableDraftOf) (line : List ℕ) (e f : TableDraftOf) → AddsTable s d line e → AddsTable s d line f → e ≡ f
table_once s = line_once (bytes_cause 4000) (λ d. AddsTableWords d.ended s d) (λ d. IsFaultyTableWords d.ended s d) (λ d. words_once d.ended s d)

-- a line of tables is not both good and faulty
words_not_both : (ended : Bool) (s : ScriptOf) (d : TableDraftOf) (words : List (List ℕ)) (e : TableDraftOf) (c : ScriptCause) → AddsTableWords ended s d words e → IsFaultyTableWords ended s d words c → ⊥
words_not_both false s d words e c good faulty = form_not_both table_words (table_cause s) one_table_form (with_table_form s) UnknownWord d words e c good faulty
words_not_both true s d words e c good faulty = good

table_not_both : (s : ScriptOf) (d : TableDraftOf) (line : List ℕ) (e : TableDraftOf) (c : ScriptCause) → AddsTable s d line e → IsFaultyTable s d line c → ⊥
table_not_both s = line_not_both (bytes_cause 4000) (λ d. AddsTableWords d.ended s d) (λ d. IsFaultyTableWords d.ended s d) (λ d. words_not_both d.ended s d)

-- a line of tables has one first cause
words_one_cause : (ended : Bool) (s : ScriptOf) (d : TableDraftOf) (words : List (List ℕ)) (b c : ScriptCause) → IsFaultyTableWords ended s d words b → IsFaultyTableWords ended s d words c → b ≡ c
words_one_cause false s d words b c one other = form_one_cause table_words (table_cause s) one_table_form UnknownWord d words b c one other
words_one_cause true s d words b c one other = one ∙ sym other

table_one_cause : (s : ScriptOf) (d : TableDraftOf) (line : List ℕ) (b c : ScriptCause) → IsFaultyTable s d line b → IsFaultyTable s d line c → b ≡ c
table_one_cause s = line_one_cause (bytes_cause 4000) (λ d. AddsTableWords d.ended s d) (λ d. IsFaultyTableWords d.ended s d) (λ d. words_one_cause d.ended s d)

-- each line of tables is good or faulty
either_words : (ended : Bool) (s : ScriptOf) (d : TableDraftOf) (ws : List (List ℕ)) → ((e : TableDraftOf) × AddsTableWords ended s d ws e) ⊎ ((c : ScriptCause) × IsFaultyTableWords ended s d ws c)
either_words false s d ws = either_form table_words (table_cause s) table_form_of table_form_is no_table_form (with_table_form s) UnknownWord d ws
either_words true s d ws = inr (AfterEnd, refl)

either_table : (s : ScriptOf) (d : TableDraftOf) (line : List ℕ) → ((e : TableDraftOf) × AddsTable s d line e) ⊎ ((c : ScriptCause) × IsFaultyTable s d line c)
either_table s = either_line (bytes_cause 4000) (λ d. AddsTableWords d.ended s d) (λ d. IsFaultyTableWords d.ended s d) (λ d. either_words d.ended s d)

-- the same of a line of a script with tables
told_is : (t u : Told) → t.script ≡ u.script → t.tables ≡ u.tables → t ≡ u
told_is t u script tables = ap (λ (d : Draft). record t { script = d }) script ∙ ap (λ (d : TableDraftOf). record u { tables = d }) tables

in_once : (p : Part) (t : Told) (line : List ℕ) (u v : Told) → AddsToldIn p t line u → AddsToldIn p t line v → u ≡ v
in_once Header t line u v one other = told_is u v (Adds-once t.script line u.script v.script one.0 other.0) (one.1 ∙ sym other.1)
in_once Items t line u v one other = told_is u v (Adds-once t.script line u.script v.script one.0 other.0) (one.1 ∙ sym other.1)
in_once After t line u v one other = told_is u v (one.1 ∙ sym other.1) (table_once t.script.script t.tables line u.tables v.tables one.0 other.0)

told_once : (t : Told) (line : List ℕ) (u v : Told) → AddsTold t line u → AddsTold t line v → u ≡ v
told_once t line u v one other = in_once t.script.part t line u v one other

in_not_both : (p : Part) (t : Told) (line : List ℕ) (u : Told) (c : ScriptCause) → AddsToldIn p t line u → IsFaultyToldIn p t line c → ⊥
in_not_both Header t line u c good faulty = not_both t.script line u.script c good.0 faulty
in_not_both Items t line u c good faulty = not_both t.script line u.script c good.0 faulty
in_not_both After t line u c good faulty = table_not_both t.script.script t.tables line u.tables c good.0 faulty

told_not_both : (t : Told) (line : List ℕ) (u : Told) (c : ScriptCause) → AddsTold t line u → IsFaultyTold t line c → ⊥
told_not_both t line u c good faulty = in_not_both t.script.part t line u c good faulty

in_one_cause : (p : Part) (t : Told) (line : List ℕ) (b c : ScriptCause) → IsFaultyToldIn p t line b → IsFaultyToldIn p t line c → b ≡ c
in_one_cause Header t line b c one other = one_cause t.script line b c one other
in_one_cause Items t line b c one other = one_cause t.script line b c one other
in_one_cause After t line b c one other = table_one_cause t.script.script t.tables line b c one other

told_one_cause : (t : Told) (line : List ℕ) (b c : ScriptCause) → IsFaultyTold t line b → IsFaultyTold t line c → b ≡ c
told_one_cause t line b c one other = in_one_cause t.script.part t line b c one other

either_in : (p : Part) (t : Told) (line : List ℕ) → ((u : Told) × AddsToldIn p t line u) ⊎ ((c : ScriptCause) × IsFaultyToldIn p t line c)
either_in Header t line = elim (either t.script line) [
  | inl adds ↦ inl (record t { script = adds.0 }, (adds.1, refl))
  | inr faulty ↦ inr faulty
]
either_in Items t line = elim (either t.script line) [
  | inl adds ↦ inl (record t { script = adds.0 }, (adds.1, refl))
  | inr faulty ↦ inr faulty
]
either_in After t line = elim (either_table t.script.script t.tables line) [
  | inl adds ↦ inl (record t { tables = adds.0 }, (adds.1, refl))
  | inr faulty ↦ inr faulty
]

either_told : (t : Told) (line : List ℕ) → ((u : Told) × AddsTold t line u) ⊎ ((c : ScriptCause) × IsFaultyTold t line c)
either_told t line = either_in t.script.part t line

ended_or : (t : Told) → AreEnded t ⊎ (¬ AreEnded t)
ended_or t = go t.tables.ended refl
  where
    go : (b : Bool) → t.tables.ended ≡ b → AreEnded t ⊎ (¬ AreEnded t)
    go true e = inl e
    go false e = inr (λ same. absurd (cc))

-- the laws

-- no bytes are the text of two scripts, or of two tables
pub one_text_with : (bytes : List ℕ) (s r : ScriptOf) (t u : TablesOf) → IsTextWith bytes s t → IsTextWith bytes r u → (s ≡ r) × (t ≡ u)
one_text_with bytes s r t u one other =
    let last = LeadsBy-once none_told AddsTold IsFaultyTold AreEnded NoEnd told_once told_not_both told_one_cause none_told (lines_of bytes) one.last other.last one.good other.good in
    let scripts : s ≡ r = one.says ∙ ap (λ (t : Told). t.script.script) last ∙ sym other.says in
    (scripts, one.tables ∙ ap (λ (v : ScriptOf). tables_of (length v.wires.switches) one.last.tables) scripts ∙ ap (λ (v : Told). tables_of (length r.wires.switches) v.tables) last ∙ sym other.tables)

pub no_fault_with : (bytes : List ℕ) (s : ScriptOf) (t : TablesOf) (line : ℕ) (c : ScriptCause) → IsTextWith bytes s t → IsFaultWith bytes line c → ⊥
no_fault_with bytes s t line c text fault = no_fault_of none_told AddsTold IsFaultyTold AreEnded NoEnd told_once told_not_both told_one_cause bytes text.last line c text.good text.ended fault

pub one_fault_with : (bytes : List ℕ) (line other : ℕ) (c d : ScriptCause) → IsFaultWith bytes line c → IsFaultWith bytes other d → (line ≡ other) × (c ≡ d)
one_fault_with = one_fault_of none_told AddsTold IsFaultyTold AreEnded NoEnd told_once told_not_both told_one_cause

pub text_or_fault_with : (bytes : List ℕ) → ((s : ScriptOf) × (t : TablesOf) × IsTextWith bytes s t) ⊎ ((line : ℕ) × (c : ScriptCause) × IsFaultWith bytes line c)
text_or_fault_with bytes = elim (end_or_fault none_told AddsTold IsFaultyTold AreEnded NoEnd either_told ended_or bytes) [
  | inl text ↦ inl (text.0.script.script, tables_of (length text.0.script.script.wires.switches) text.0.tables, record { last = text.0; good = text.1; ended = text.2; says = refl; tables = refl })
  | inr fault ↦ inr fault
]
