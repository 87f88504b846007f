use Rattle.std.specs.Prelude.{◌≡◌, ℕ, Bool, true, false, List, length}
use Rattle.common_lines.specs.Lines.{lines_of}
use Rattle.common_lines.specs.Chains.{LeadsBy, IsFaultOf}
use Rattle.common_lines.specs.Grammar.{IsFaultyFormBy, AddsFormBy, AddsLineBy, IsFaultyLineBy}
use Rattle.net_script.specs.declared.cause.ScriptCause.{ScriptCause}
use Rattle.net_script.specs.declared.cause.ScriptCause.TheVariants.{UnknownWord, AfterEnd, NoEnd}
use Rattle.net_script.specs.declared.draft.Draft.{Draft}
use Rattle.net_script.specs.declared.draft.Part.{Part}
use Rattle.net_script.specs.declared.draft.Part.TheVariants.{Header, Items, After}
use Rattle.net_script.specs.Scripts.{ScriptOf}
use Rattle.net_script.specs.Drafts.{start}
use Rattle.net_script.specs.Texts.{Adds, IsFaulty, bytes_cause}
use Rattle.table_script.specs.Tables.{TablesOf}
use Rattle.row_text.specs.TableForms.{table_words}
use Rattle.table_script.specs.TableDrafts.{TableDraftOf, no_tables}
use Rattle.table_script.specs.TableRules.{table_cause, with_table_form, tables_of}

-- The text of a script with tables: the text of a script and, after its `end`, lines of tables that end with a
-- second `end`. A line of tables has at most 4,000 bytes.

-- the words have a form of tables that is accepted after a draft, and lead to the draft with its content added
abbrev pub AddsTableForm : ScriptOf → TableDraftOf → List (List ℕ) → TableDraftOf → Type 0
AddsTableForm script = AddsFormBy table_words (table_cause script) (with_table_form script)

-- the words after `draft` are accepted and lead to `after`; none are accepted after the last line
abbrev pub AddsTableWords : Bool → ScriptOf → TableDraftOf → List (List ℕ) → TableDraftOf → Type 0
AddsTableWords false script draft words after = AddsTableForm script draft words after
AddsTableWords true script draft words after = ⊥

-- a line of tables after a draft is accepted, and leads to another draft
abbrev pub AddsTable : ScriptOf → TableDraftOf → List ℕ → TableDraftOf → Type 0
AddsTable script = AddsLineBy (λ draft. AddsTableWords draft.ended script draft) (bytes_cause 4000)

-- the words have no form of tables, or one that is rejected after a draft, for this reason
abbrev pub IsFaultyTableForm : ScriptOf → TableDraftOf → List (List ℕ) → ScriptCause → Type 0
IsFaultyTableForm script = IsFaultyFormBy table_words (table_cause script) UnknownWord

-- the words after `draft` are rejected for reason `cause`
abbrev pub IsFaultyTableWords : Bool → ScriptOf → TableDraftOf → List (List ℕ) → ScriptCause → Type 0
IsFaultyTableWords false script draft words cause = IsFaultyTableForm script draft words cause
IsFaultyTableWords true script draft words cause = cause ≡ AfterEnd

-- a line of tables after a draft is rejected, first for this reason
abbrev pub IsFaultyTable : ScriptOf → TableDraftOf → List ℕ → ScriptCause → Type 0
IsFaultyTable script =
    IsFaultyLineBy (λ draft. IsFaultyTableWords draft.ended script draft) (bytes_cause 4000)

-- the content of the lines of a script, and then of tables, read so far
pub record Told : Type 0 where
  pub script : Draft
  pub tables : TableDraftOf

-- the content of no lines
abbrev pub none_told : Told
none_told = record { script = start; tables = no_tables }

-- the line is one of the script up to its `end`, and then one of tables; it is accepted and leads to `after`
abbrev pub AddsToldIn : Part → Told → List ℕ → Told → Type 0
AddsToldIn Header told line after = Adds told.script line after.script × (after.tables ≡ told.tables)
AddsToldIn Items told line after = Adds told.script line after.script × (after.tables ≡ told.tables)
AddsToldIn After told line after =
    AddsTable told.script.script told.tables line after.tables × (after.script ≡ told.script)

-- `line` is accepted after `told`, and leads to `after`
abbrev pub AddsTold : Told → List ℕ → Told → Type 0
AddsTold told line after = AddsToldIn told.script.part told line after

-- the line is one of the script up to its `end`, and then one of tables; it is rejected, first for reason `cause`
abbrev pub IsFaultyToldIn : Part → Told → List ℕ → ScriptCause → Type 0
IsFaultyToldIn Header told line cause = IsFaulty told.script line cause
IsFaultyToldIn Items told line cause = IsFaulty told.script line cause
IsFaultyToldIn After told line cause = IsFaultyTable told.script.script told.tables line cause

-- `line` is rejected after `told`, first for reason `cause`
abbrev pub IsFaultyTold : Told → List ℕ → ScriptCause → Type 0
IsFaultyTold told line cause = IsFaultyToldIn told.script.part told line cause

-- the last line with words was read
abbrev pub AreEnded : Told → Type 0
AreEnded told = told.tables.ended ≡ true

-- `bytes` are the text of `script` and `found`: each line is accepted after those before it, the last one with
-- words is the `end` of the tables, and the lines give this script and these tables
pub record IsTextWith (bytes : List ℕ) (script : ScriptOf) (found : TablesOf) : Type 0 where
  pub last : Told
  pub good : LeadsBy AddsTold none_told (lines_of bytes) last
  pub ended : AreEnded last
  pub says : script ≡ last.script.script
  pub tables : found ≡ tables_of (length script.wires.switches) last.tables

-- the first error of the bytes, as a script with tables, is in this line and has this reason
abbrev pub IsFaultWith : List ℕ → ℕ → ScriptCause → Type 0
IsFaultWith = IsFaultOf none_told AddsTold IsFaultyTold AreEnded NoEnd
