-- What the commands give for the text of a topology, its fabric and tables.

use Rattle.std.specs.Prelude.{◌≡◌, ◌≢◌, ◌⊎◌, ℕ, List, Option, MatchOption}
use Rattle.fabric_model.specs.Fabric.{FabricOf}
use Rattle.fabric_tables.specs.Cells.{CellsOf, tables_of}
use Rattle.fabric_routes.specs.Counting.{IsCountOf}
use Rattle.fabric_model.specs.declared.traffic.Traffic.{Traffic}
use Rattle.fabric_read_tables.specs.declared.reader.Tables.{Tables}
use Rattle.fabric_print_tables.specs.Texts.{IsTextOf}
use Rattle.fabric_call.specs.Answer.{Gives}
use Rattle.fabric_call.specs.declared.status.Status.{Status}
use Rattle.fabric_call.specs.declared.status.Status.TheVariants.{Ok}
use Rattle.fabric_judge_commands.specs.Judged.{IsEndOf}
use Rattle.fabric_judge_commands.specs.Words.{traffic_word}
use Rattle.fabric_route_command.specs.declared.apart.Pair.{Pair}
use Rattle.fabric_route_command.specs.Joined.{AllJoined, IsApart}
use Rattle.fabric_route_command.specs.Measured.{AreMeasures}
use Rattle.fabric_repair.specs.Repaired.{AreRepairedOf}
use Rattle.fabric_repair_commands.specs.declared.report.Report.{Report}
use Rattle.fabric_repair_commands.specs.declared.rows.SetRow.{SetRow}
use Rattle.fabric_repair_commands.specs.Repairs.{IsSetFor, Pass, cell_count, rows_set}
use Rattle.fabric_repair_commands.specs.Reports.{none_text, report_text}
use Rattle.fabric_repair_commands.specs.SetRows.{with_rows}

-- Tables were made of given ones: they pass, no port was taken away, and each row for a LID that nobody owns is as it
-- was. The given ones with rows set, exactly those in which these have a port that they have not, are these.
pub record WereMadeOf (traffic : Traffic) (fabric : FabricOf) (given made : CellsOf) : Type 0 where
  pub shape : AreRepairedOf fabric given made
  pub pass : Pass traffic fabric (tables_of made)
  pub set : with_rows fabric (tables_of given) (rows_set fabric (tables_of given) (tables_of made)) ≡ tables_of made

-- these rows are to be set in given tables: exactly those in which such tables differ
pub record AreToBeSet (traffic : Traffic) (fabric : FabricOf) (given : CellsOf) (rows : List SetRow) : Type 0 where
  pub made : CellsOf
  pub were_made : WereMadeOf traffic fabric given made
  pub rows_are : rows ≡ rows_set fabric (tables_of given) (tables_of made)

-- the rows that are to be set are told, of how many there are, and for how many LIDs; and how good the given tables are, and
-- how good once these are set
pub record AreRowsTold (traffic : Traffic) (fabric : FabricOf) (found : Tables) (status : Status) (written : List ℕ)
    : Type 0 where
  pub report : Report
  pub to_be_set : AreToBeSet traffic fabric found.cells report.rows.items
  pub traffic_is : report.traffic ≡ traffic_word traffic
  pub cells : report.cells ≡ cell_count fabric
  pub lids : IsCountOf (IsSetFor report.rows.items) report.lids
  pub before : AreMeasures fabric (tables_of found.cells) report.before
  pub after : AreMeasures fabric (with_rows fabric (tables_of found.cells) report.rows.items) report.after
  pub says : written ≡ report_text report
  pub status_is : status ≡ Ok

-- it is told that there are no tables; and an end port and a LID to which it sends that no links join, if there are such
pub record IsNoneTold (traffic : Traffic) (fabric : FabricOf) (written : List ℕ) : Type 0 where
  pub apart : Option Pair
  pub is_apart :
      MatchOption apart (AllJoined fabric traffic) (λ pair. IsApart fabric traffic pair.lid pair.source)
  pub says : written ≡ none_text fabric apart

-- the text of the given tables with such rows set is told
pub record AreTablesTold (traffic : Traffic) (fabric : FabricOf) (found : Tables) (status : Status) (written : List ℕ)
    : Type 0 where
  pub rows : List SetRow
  pub to_be_set : AreToBeSet traffic fabric found.cells rows
  pub told : IsTextOf fabric written (with_rows fabric (tables_of found.cells) rows)
  pub status_is : status ≡ Ok

-- no tables were found that pass, and the given ones do not: the status is theirs
pub record IsNoRepair (traffic : Traffic) (fabric : FabricOf) (found : Tables) (status : Status) (written : List ℕ)
    : Type 0 where
  pub ends : IsEndOf fabric (tables_of found.cells) traffic status
  pub fails : status ≢ Ok
  pub told : IsNoneTold traffic fabric written

-- `repair` gives the rows that are to be set, `repaired` the tables in which they are
abbrev pub gives_repair : Traffic → Gives
gives_repair traffic text fabric found status written =
    AreRowsTold traffic fabric found status written ⊎ IsNoRepair traffic fabric found status written

abbrev pub gives_repaired : Traffic → Gives
gives_repaired traffic text fabric found status written =
    AreTablesTold traffic fabric found status written ⊎ IsNoRepair traffic fabric found status written
