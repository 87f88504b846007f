-- Tables with rows set otherwise than in given ones.

use Rattle.std.specs.Prelude.{◌≡◌, ◌==◌, ◌*◌, ℕ, Bool, true, not, List, [], ◌∷◌, Option, Some, None, Contains, count_by, if◌then◌else◌, is_some, length}
use Rattle.std.specs.List.{flat_map, range_with_len}
use Rattle.fabric_model.specs.declared.node.EndPort.TheVariants.{Switch}
use Rattle.fabric_model.specs.Fabric.{FabricOf, guid_of, switch_count}
use Rattle.fabric_tables.specs.Cells.{TablesOf}
use Rattle.fabric_model.specs.declared.traffic.Traffic.{Traffic}
use Rattle.fabric_verdict.specs.Verdict.{Passes}
use Rattle.fabric_repair_commands.specs.declared.rows.SetRow.{SetRow}

-- tables pass: there is no credit loop, and each route of the traffic arrives
abbrev pub Pass : Traffic → FabricOf → TablesOf → Type 0
Pass traffic fabric tables = (ranks : List ℕ) × Passes fabric tables traffic ranks

-- a port is another than the one that was had, if one was
abbrev pub differs : Option ℕ → ℕ → Bool
differs None port = true
differs (Some had) port = not (had == port)

-- the row of a switch for a LID: it is set if the tables that were made have a port that the given ones have not
abbrev pub row_of : (guid lid : ℕ) → (had port : Option ℕ) → List SetRow
row_of guid lid had None = []
row_of guid lid had (Some port) = if differs had port
    then record { guid = guid; lid = lid; port = port; had = had } ∷ []
    else []

abbrev pub row_at : FabricOf → (given made : TablesOf) → (switch lid : ℕ) → List SetRow
row_at fabric given made switch lid = row_of (guid_of fabric (Switch switch)) lid (given switch lid) (made switch lid)

-- the rows that are set of a switch, and of all
abbrev pub rows_for : FabricOf → (given made : TablesOf) → ℕ → List SetRow
rows_for fabric given made switch =
    flat_map (row_at fabric given made switch) (range_with_len 0 (length fabric.owners))

abbrev pub rows_set : FabricOf → (given made : TablesOf) → List SetRow
rows_set fabric given made = flat_map (rows_for fabric given made) (range_with_len 0 (switch_count fabric))

-- rows are set for a LID
abbrev pub IsSetFor : List SetRow → ℕ → Type 0
IsSetFor rows lid = (row : SetRow) × Contains rows row × (row.lid ≡ lid)

-- how many cells tables have: one for each switch and each LID that has an owner
abbrev pub cell_count : FabricOf → ℕ
cell_count fabric = count_by is_some fabric.owners * switch_count fabric
