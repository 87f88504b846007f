-- The exits of rows by target. Only private functions cite this.
use Rattle.std.specs.Prelude.{◌≡◌, ◌≢◌, ◌<◌, ◌↔◌, ℕ, List, [], length, Contains, Some, slice_index_or, map, Vec}
use Rattle.std.specs.declared.alloc.Global.{Global}
use Rattle.an_base.specs.Rows.{RowOf}
use Rattle.dep_check.specs.declared.targets.ByTarget.{ByTarget}
use Rattle.dep_check.specs.Tables.{AreExitsBelow}

-- `table` is the table of `number`, over all spots: the exits of the rows towards it before the index `end`, or empty
-- if the topology does not have the number
pub record IsTableBelow (rows : List RowOf) (numbers : List ℕ) (end number : ℕ) (table : List ℕ)
    : Type 0 where
  pub exits : Contains numbers number → AreExitsBelow rows (Some number) end table
  pub none : (Contains numbers number → ⊥) → length table ≡ 0

-- the table of `number`, empty if there is none
abbrev pub table_of : List (Vec ℕ Global) → ℕ → List ℕ
table_of tables number = slice_index_or (map (λ (table : Vec ℕ Global). table.items) tables) number []

-- `tables` are the tables of all numbers, with the rows before the index `end`
pub record AreTablesBelow (rows : List RowOf) (numbers : List ℕ) (end : ℕ) (tables : List (Vec ℕ Global))
    : Type 0 where
  pub count : length tables ≡ 127
  pub each : (number : ℕ) → number < 127 → IsTableBelow rows numbers end number (table_of tables number)

-- `by_target` has the tables of all numbers, with all rows
abbrev pub AreByTarget : List RowOf → List ℕ → ByTarget → Type 0
AreByTarget rows numbers by_target = AreTablesBelow rows numbers (length rows) by_target.tables.items

-- `number` has a table that is not empty
abbrev pub HasTable : ByTarget → ℕ → Type 0
HasTable by_target number = length (table_of by_target.tables.items number) ≢ 0

-- a number has a table that is not empty if and only if it is in the topology
pub record AreFor (numbers : List ℕ) (by_target : ByTarget) : Type 0 where
  pub count : length by_target.tables.items ≡ 127
  pub each : (number : ℕ) → number < 127 → (HasTable by_target number ↔ Contains numbers number)
