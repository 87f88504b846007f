-- The rows of all tables, and pairs of switches, as the theorems use them.
use Rattle.std.specs.Prelude.{◌≡◌, ◌≢◌, ◌<◌, ℕ, List, length, Bool, All, Any, Contains, slice_index}
use Rattle.an_base.specs.Values.{EntryOf}
use Rattle.an_base.specs.Rows.{RowOf}
use Rattle.table_build.specs.Exits.{IsEntry}
use Rattle.table_build.specs.Tables.{IsRow}

-- `rows` are the rows of the tables of all members: one for each member, each of its ingress ports, and each number of
-- another member
pub record AreTables (entries : List EntryOf) (numbers : List ℕ) (any : Bool) (rows : List RowOf)
    : Type 0 where
  pub each : All (λ row. (place : ℕ) × (place < length entries) × IsRow entries numbers any place row) rows
  pub whole :
      (place entry other : ℕ) → place < length entries → IsEntry entries place entry
      → other < length entries → other ≢ place
      → Any
      (λ row. (row.at ≡ slice_index numbers place) × (row.entry ≡ entry)
      × (row.to ≡ slice_index numbers other)) rows

-- `from` and `to` are the numbers of two different switches of a topology
pub record GoesBetween (numbers : List ℕ) (from to : ℕ) : Type 0 where
  pub from_in : Contains numbers from
  pub to_in : Contains numbers to
  pub apart : from ≢ to
