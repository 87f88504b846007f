-- The lines of a report.

use Rattle.std.specs.Prelude.{◌/◌, ℕ, List, [], ◌∷◌, ◌++◌, Option, Some, None, codes, if◌then◌else◌, length, map, nat_lt}
use Rattle.std.specs.Fmt.{decimal}
use Rattle.common_lines.specs.Lines.{lines_text}
use Rattle.fabric_print.specs.Answers.{Row}
use Rattle.fabric_model.specs.Fabric.{FabricOf, guid_of}
use Rattle.fabric_route_command.specs.declared.apart.Pair.{Pair}
use Rattle.fabric_route_command.specs.declared.measured.Measured.{Measured}
use Rattle.fabric_print_tables.specs.Texts.{guid_word}
use Rattle.fabric_repair_commands.specs.declared.report.Report.{Report}
use Rattle.fabric_repair_commands.specs.declared.rows.SetRow.{SetRow}

-- how many rows are set, how many cells the tables have, for how many LIDs rows are set
abbrev pub counts_row : Report → Row
counts_row report =
    codes "rows" ∷ decimal (length report.rows.items) ∷ codes "cells" ∷ decimal report.cells
    ∷ codes "lids" ∷ decimal report.lids ∷ []

-- how good tables are
abbrev pub measures_row : (when : List ℕ) → Measured → Row
measures_row when of =
    when ∷ codes "routes" ∷ decimal of.routes ∷ codes "hops" ∷ decimal of.hops
    ∷ codes "longest" ∷ decimal of.longest ∷ codes "greatest" ∷ decimal of.greatest ∷ []

-- more rows are set than a twentieth of the cells: it is told that `route` is likely to make
-- better tables
abbrev pub better_rows : Report → List Row
better_rows report = if nat_lt (report.cells / 20) (length report.rows.items)
    then (codes "better" ∷ codes "route" ∷ []) ∷ []
    else []

-- the port that the given tables have, or none
abbrev pub had_word : Option ℕ → List ℕ
had_word None = codes "none"
had_word (Some port) = decimal port

-- a row that is set
abbrev pub set_row : SetRow → Row
set_row row =
    codes "set" ∷ guid_word row.guid ∷ codes "lid" ∷ decimal row.lid ∷ codes "port" ∷ decimal row.port
    ∷ codes "was" ∷ had_word row.had ∷ []

-- for which routes
abbrev pub repaired_row : (traffic : List ℕ) → Row
repaired_row traffic = codes "repaired" ∷ codes "traffic" ∷ traffic ∷ codes "lanes" ∷ codes "one" ∷ []

unfoldable pub report_rows : Report → List Row
report_rows report =
    (codes "fabric" ∷ codes "1" ∷ [])
    ∷ repaired_row report.traffic
    ∷ counts_row report
    ∷ measures_row (codes "before") report.before
    ∷ measures_row (codes "after") report.after
    ∷ (better_rows report ++ map set_row report.rows.items)

abbrev pub report_text : Report → List ℕ
report_text report = lines_text (report_rows report)

-- no links join an end port and a LID to which it sends
abbrev pub apart_row : (guid lid : ℕ) → Row
apart_row guid lid = codes "apart" ∷ guid_word guid ∷ codes "lid" ∷ decimal lid ∷ []

abbrev pub apart_rows : FabricOf → Option Pair → List Row
apart_rows fabric None = []
apart_rows fabric (Some pair) = apart_row (guid_of fabric pair.source) pair.lid ∷ []

-- no tables were found that pass
abbrev pub none_text : FabricOf → (apart : Option Pair) → List ℕ
none_text fabric apart = lines_text ((codes "fabric" ∷ codes "1" ∷ []) ∷ (codes "repaired" ∷ codes "none" ∷ [])
    ∷ apart_rows fabric apart)
