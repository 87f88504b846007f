use Rattle.std.proofs.Common.{◌≡◌, ◌∙◌, sym, ap, inl, inr, ℕ, List, [], length, true, false}
use Rattle.common_lines.specs.Lines.{lines_of}
use Rattle.net_script.specs.Scripts.{ScriptOf}
use Rattle.table_script.specs.Tables.{TablesOf}
use Rattle.table_script.specs.TableRules.{tables_of}
use Rattle.table_script.specs.TableTexts.{Told, AddsTold, none_told, AreEnded, IsTextWith}
use Rattle.common_lines.specs.Chains.{LeadsBy}
use Rattle.net_script.specs.declared.draft.Part.TheVariants.{After}
use Rattle.table_script.specs.declared.table_reader.Reading.{Reading}
use Rattle.table_script.specs.TableDrafts.{TableDraftOf}
use Rattle.table_script.specs.TableSteps.{IsReady}
use Rattle.net_script.proofs.TextLemmas.{ended_or}

-- where the tables came to their end the script did
pub ready_after : (r : Reading) → IsReady r → r.tables.ended ≡ true → r.script.part ≡ After
ready_after r ready ended = elim (ended_or r.script) [
  | inl after ↦ after
  | inr before ↦ (let none : r.tables.ended ≡ false = ap (λ (d : TableDraftOf). d.ended) (ready.unbegun before) in absurd (cc))
]

-- the text of what all the lines say
pub text_read : (bytes : List ℕ) (t : Told) (s : ScriptOf) (u : TablesOf) → LeadsBy AddsTold none_told (lines_of bytes) t → AreEnded t → s ≡ t.script.script → u ≡ tables_of (length t.script.script.wires.switches) t.tables → IsTextWith bytes s u
text_read bytes t s u good ended says tables = record {
  last = t;
  good = good;
  ended = ended;
  says = says;
  tables = tables ∙ ap (λ (v : ScriptOf). tables_of (length v.wires.switches) t.tables) (sym says);
}
