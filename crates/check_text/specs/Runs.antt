use Rattle.std.specs.Prelude.{◌≡◌, ℕ, List, All}
use Rattle.std.specs.List.{flat_map}
use Rattle.an_base.specs.Rows.{RowOf}

-- Runs of consecutive rows of one switch, used only by private functions.

-- all rows belong to one switch
abbrev pub IsRun : List RowOf → Type 0
IsRun rows = (at : ℕ) × All (λ row. row.at ≡ at) rows

-- the rows of all runs, in order
abbrev pub rows_in : List (List RowOf) → List RowOf
rows_in runs = flat_map (λ run. run) runs

-- `runs` are the rows, cut into runs of one switch
pub record AreRuns (rows : List RowOf) (runs : List (List RowOf)) : Type 0 where
  pub all : rows_in runs ≡ rows
  pub each : All IsRun runs
