-- Given tables with the rows set that are to be set are those that were made.
use Rattle.std.proofs.Common.{◌≡◌, ◌∙◌, ap, List}
use Rattle.fabric_tables.specs.Cells.{CellsOf, tables_of}
use Rattle.fabric_model.specs.Fabric.{FabricOf}
use Rattle.fabric_model.specs.declared.traffic.Traffic.{Traffic}
use Rattle.fabric_repair_commands.specs.declared.rows.SetRow.{SetRow}
use Rattle.fabric_repair_commands.specs.SetRows.{with_rows}
use Rattle.fabric_repair_commands.specs.Given.{AreToBeSet}

pub set_are_made : (traffic : Traffic) (fabric : FabricOf) (given : CellsOf) (rows : List SetRow) → (set : AreToBeSet traffic fabric given rows) → with_rows fabric (tables_of given) rows ≡ tables_of set.made
set_are_made traffic fabric given rows set = ap (λ (some : List SetRow). with_rows fabric (tables_of given) some) set.rows_are ∙ set.were_made.set
