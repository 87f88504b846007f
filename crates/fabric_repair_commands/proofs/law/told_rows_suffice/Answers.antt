use Rattle.std.proofs.Common.{subst, sym}
use Rattle.fabric_tables.specs.Cells.{TablesOf}
use Rattle.fabric_repair_commands.specs.Repairs.{Pass}
use Rattle.fabric_repair_commands.proofs.SameLemmas.{set_are_made}
use Rattle.fabric_repair_commands.proofs.law.told_rows_suffice.Goals as goal

pub returns : goal.returns
returns c traffic fabric found status written told =
    let set = told.to_be_set in
    subst (λ (tables : TablesOf). Pass traffic fabric tables) (sym (set_are_made traffic fabric found.cells told.report.rows.items set)) set.were_made.pass
