use Rattle.std.specs.Prelude.{◌≡◌, ◌≢◌, ℕ, List, [], ◌∷◌, length, Some, false, codes, ⊤}
use Rattle.std.specs.Str.{bytes_eq}
use Rattle.net_script.specs.declared.cause.ScriptCause.{ScriptCause}
use Rattle.net_script.specs.declared.draft.Part.TheVariants.{After}
use Rattle.table_script.specs.declared.table_reader.Reading.{Reading}
use Rattle.common_lines.specs.Stops.{IsRefusalBy, ReadsFormBy}
use Rattle.net_script.specs.Steps.{ReadRefusal}
use Rattle.net_script.specs.Scripts.{ScriptOf}
use Rattle.table_script.specs.Tables.{AreLabels}
use Rattle.row_text.specs.TableForms.{TableForm}
use Rattle.table_script.specs.TableDrafts.{TableDraftOf, no_tables}
use Rattle.table_script.specs.TableRules.{table_cause, with_table_form, IsKept}
use Rattle.table_script.specs.TableTexts.{Told, IsFaultWith}

-- The steps of the reader.

-- a line of this form after `draft` is accepted, and leads to the draft with its content added
abbrev pub ReadsTable : ScriptOf → TableDraftOf → TableForm → TableDraftOf → Type 0
ReadsTable script = ReadsFormBy (table_cause script) (with_table_form script)

-- a line of this form after `draft` is rejected for reason `cause`
abbrev pub IsWrongTable : ScriptOf → TableDraftOf → TableForm → ScriptCause → Type 0
IsWrongTable script draft form cause = table_cause script draft form ≡ Some cause

-- the first of the words, if there is one, is not `row`
abbrev pub IsNoRow : List (List ℕ) → Type 0
IsNoRow [] = ⊤
IsNoRow (word ∷ words) = bytes_eq word (codes "row") ≡ false

-- the content of the lines read so far
abbrev pub told_of : Reading → Told
told_of reading = record { script = reading.script; tables = reading.tables }

-- no line of tables came before the script's `end`; after it the labels are those of the components, and the
-- lines of tables keep their invariant
pub record IsReady (reading : Reading) : Type 0 where
  pub unbegun : reading.script.part ≢ After → reading.tables ≡ no_tables
  pub labels :
      reading.script.part ≡ After
      → AreLabels (length reading.script.script.wires.switches) reading.script.script.wires.links
      reading.labels.items
  pub kept : reading.script.part ≡ After → IsKept reading.script.script reading.tables

-- the refusal gives the first error of `bytes`, or is `OutOfMemory`
abbrev pub IsRefusalWith : List ℕ → ReadRefusal → Type 0
IsRefusalWith bytes = IsRefusalBy (IsFaultWith bytes)
