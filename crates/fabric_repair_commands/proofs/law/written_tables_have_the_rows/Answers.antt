use Rattle.std.proofs.Common.{◌∙◌, ap, sym}
use Rattle.fabric_tables.specs.Cells.{TablesOf, tables_of}
use Rattle.fabric_repair_commands.specs.Repairs.{rows_set}
use Rattle.fabric_repair_commands.specs.SetRows.{with_rows}
use Rattle.fabric_repair_commands.proofs.SameLemmas.{set_are_made}
use Rattle.fabric_repair_commands.proofs.law.written_tables_have_the_rows.Goals as goal

pub returns : goal.returns
returns c traffic fabric found status written tables rows unowned told text =
    let given = tables_of found.cells in
    let same = (c.one_text.ensures fabric written (with_rows fabric given told.rows) tables told.told.rows told.told.unowned rows unowned told.told.text text).0 in
    let made = sym (set_are_made traffic fabric found.cells told.rows told.to_be_set) ∙ same in
    (same, told.to_be_set.rows_are ∙ ap (λ (t : TablesOf). rows_set fabric given t) made)
