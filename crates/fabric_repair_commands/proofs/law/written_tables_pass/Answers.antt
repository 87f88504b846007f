use Rattle.std.proofs.Common.{◌∙◌, sym, subst}
use Rattle.fabric_tables.specs.Cells.{tables_of}
use Rattle.fabric_model.specs.Fabric.{FabricOf}
use Rattle.fabric_read_tables.specs.Tables.{IsTablesText}
use Rattle.fabric_repair_commands.specs.SetRows.{with_rows}
use Rattle.fabric_repair_commands.proofs.JudgedLemmas.{judged_ok}
use Rattle.fabric_repair_commands.proofs.SameLemmas.{set_are_made}
use Rattle.fabric_repair_commands.proofs.law.written_tables_pass.Goals as goal

pub returns-clause-routed : goal.returns-clause-routed
returns-clause-routed c traffic text written answer fabric other found status is routed is_other told judged =
    let same = c.one_fabric.ensures text fabric other is is_other in
    let here = subst (λ (f : FabricOf). IsTablesText f written (tables_of found.cells) found.rows found.unowned) (sym same) told in
    let read = (c.one_text.ensures fabric written routed.tables (tables_of found.cells) routed.text.rows routed.text.unowned found.rows found.unowned routed.text.text here).0 in
    judged_ok fabric routed.tables traffic (routed.ranks, routed.passes) (c.one_answer.ensures.arrive fabric routed.tables traffic) other (tables_of found.cells) status same read judged.ends

pub returns-clause-repaired : goal.returns-clause-repaired
returns-clause-repaired c traffic text written answer fabric other given found ended status is repaired is_other told judged =
    let same = c.one_fabric.ensures text fabric other is is_other in
    let here = subst (λ (f : FabricOf). IsTablesText f written (tables_of found.cells) found.rows found.unowned) (sym same) told in
    let set = repaired.to_be_set in
    let made = set_are_made traffic fabric given.cells repaired.rows set in
    let read = (c.one_text.ensures fabric written (with_rows fabric (tables_of given.cells) repaired.rows) (tables_of found.cells) repaired.told.rows repaired.told.unowned found.rows found.unowned repaired.told.text here).0 in
    judged_ok fabric (tables_of set.made) traffic set.were_made.pass (c.one_answer.ensures.arrive fabric (tables_of set.made) traffic) other (tables_of found.cells) status same (sym made ∙ read) judged.ends
