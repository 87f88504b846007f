-- How LIDs are counted for which rows are set. Only private functions cite this.

use Rattle.std.specs.Prelude.{◌≡◌, ◌^◌, ℕ, Bool, true, false, List, length, slice_index_or}
use Rattle.fabric_routes.specs.Counting.{IsCountOf}
use Rattle.fabric_repair_commands.specs.declared.rows.SetRow.{SetRow}
use Rattle.fabric_repair_commands.specs.Repairs.{IsSetFor}

-- the LIDs of rows are flagged, and no others, and there are so many
pub record AreFlagged (rows : List SetRow) (flags : List Bool) (count : ℕ) : Type 0 where
  pub size : length flags ≡ 2 ^ 16
  pub only : (lid : ℕ) → slice_index_or flags lid false ≡ true → IsSetFor rows lid
  pub each : (lid : ℕ) → IsSetFor rows lid → slice_index_or flags lid false ≡ true
  pub counted : IsCountOf (IsSetFor rows) count
