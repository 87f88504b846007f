-- Tables in which rows are set.

use Rattle.std.specs.Prelude.{ℕ, List, [], ◌∷◌, Option, Some, None}
use Rattle.fabric_model.specs.Fabric.{FabricOf, switch_with}
use Rattle.fabric_tables.specs.Cells.{TablesOf, with_port}
use Rattle.fabric_repair_commands.specs.declared.rows.SetRow.{SetRow}

-- tables in which a switch has a port for a LID, if there is the switch, and all else is as it was
abbrev pub with_port_of : TablesOf → (switch : Option ℕ) → (lid port : ℕ) → TablesOf
with_port_of tables None lid port = tables
with_port_of tables (Some switch) lid port = with_port tables switch lid port

-- tables in which a row is set: the switch with its GUID has its port for its LID
abbrev pub with_row : FabricOf → TablesOf → SetRow → TablesOf
with_row fabric tables row = with_port_of tables (switch_with fabric row.guid) row.lid row.port

-- tables in which rows are set, one after another, and no others
abbrev pub with_rows : FabricOf → TablesOf → List SetRow → TablesOf
with_rows fabric tables [] = tables
with_rows fabric tables (row ∷ rows) = with_rows fabric (with_row fabric tables row) rows
