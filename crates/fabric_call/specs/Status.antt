-- The number and the line of each status.

use Rattle.std.specs.Prelude.{ℕ, List, [], ◌++◌, codes}
use Rattle.std.specs.Fmt.{decimal}
use Rattle.outside.specs.Told.{Seen}
use Rattle.common_call.specs.Ended.{IsLineTold}
use Rattle.fabric_read_topology.specs.Causes.{cause_text as topology_cause}
use Rattle.fabric_read_tables.specs.Causes.{cause_text as tables_cause}
use Rattle.fabric_words.specs.LaneCauses.{cause_text as lanes_cause}
use Rattle.fabric_words.specs.RanksCauses.{cause_text as ranks_cause}
use Rattle.fabric_call.specs.declared.status.Status.{Status}
use Rattle.fabric_call.specs.declared.status.Status.TheVariants.{Ok, Usage, TopologyRefused, TopologyTooLong, TablesRefused, ReadFault, WriteFault, RoutesLost, Cycle, OutOfMemory}
use Rattle.fabric_call.specs.declared.status.Status.TheVariants.{LanesRefused, LevelsRefused, RanksRefused, RanksTooLong, RanksRise}
use Rattle.fabric_call.specs.declared.status.Status.TheVariants.{NewTablesRefused, Undecided}

-- the number of a status
abbrev pub code_of : Status → ℕ
code_of Ok = 0
code_of Usage = 2
code_of (TopologyRefused line cause) = 3
code_of (TopologyTooLong line) = 3
code_of (TablesRefused line cause) = 3
code_of (LanesRefused line cause) = 3
code_of (LevelsRefused line cause) = 3
code_of (RanksRefused line cause) = 3
code_of (RanksTooLong line) = 3
code_of (NewTablesRefused line cause) = 3
code_of ReadFault = 4
code_of WriteFault = 5
code_of Undecided = 6
code_of RoutesLost = 7
code_of Cycle = 8
code_of RanksRise = 8
code_of OutOfMemory = 9

-- the line for a fault of a file
abbrev pub refusal_line : (file : List ℕ) (line : ℕ) (cause : List ℕ) → List ℕ
refusal_line file line cause =
    codes "fabric: " ++ file ++ codes " line " ++ decimal line ++ codes ": " ++ cause ++ codes "\n"

-- the line of a status
abbrev pub line_of : Status → List ℕ
line_of Ok = []
line_of Usage =
    codes "usage: fabric judge TOPOLOGY TABLES [TRAFFIC]\n"
    ++ codes "       fabric ranks TOPOLOGY TABLES [TRAFFIC]\n"
    ++ codes "       fabric verify TOPOLOGY TABLES RANKS [TRAFFIC]\n"
    ++ codes "       fabric dot TOPOLOGY TABLES [TRAFFIC]\n"
    ++ codes "       fabric dot TOPOLOGY TABLES SL2VL LEVELS|any|LEVEL [REPLIES] [SILENT] [TRAFFIC]\n"
    ++ codes "       fabric route TOPOLOGY [TRAFFIC]\n"
    ++ codes "       fabric repair TOPOLOGY TABLES [TRAFFIC]\n"
    ++ codes "       fabric repaired TOPOLOGY TABLES [TRAFFIC]\n"
    ++ codes "       fabric lanes TOPOLOGY TABLES SL2VL LEVELS|any|LEVEL [REPLIES] [SILENT] [TRAFFIC]\n"
    ++ codes "       fabric between TOPOLOGY OLD NEW\n"
    ++ codes "TRAFFIC: hosts|lids|managed|all|rows as last word; or -t TRAFFIC, --traffic TRAFFIC after the command\n"
    ++ codes "REPLIES: --replies yes|no after the command; SILENT: --silent LEVEL after the command\n"
line_of (TopologyRefused line cause) = refusal_line (codes "topology") line (topology_cause cause)
line_of (TopologyTooLong line) = refusal_line (codes "topology") line (codes "too many")
line_of (TablesRefused line cause) = refusal_line (codes "tables") line (tables_cause cause)
line_of (LanesRefused line cause) = refusal_line (codes "lanes") line (lanes_cause cause)
line_of (LevelsRefused line cause) = refusal_line (codes "levels") line (lanes_cause cause)
line_of (RanksRefused line cause) = refusal_line (codes "ranks") line (ranks_cause cause)
line_of (RanksTooLong line) = refusal_line (codes "ranks") line (codes "too many")
line_of (NewTablesRefused line cause) = refusal_line (codes "new tables") line (tables_cause cause)
line_of ReadFault = codes "fabric: read fault\n"
line_of WriteFault = codes "fabric: write fault\n"
line_of Undecided = codes "fabric: not decided\n"
line_of RoutesLost = codes "fabric: routes lost\n"
line_of Cycle = codes "fabric: cycle\n"
line_of RanksRise = codes "fabric: ranks rise\n"
line_of OutOfMemory = codes "fabric: out of memory\n"

-- a status was told: the answer is its number, and err gained its line, unless err failed
abbrev pub IsToldOf : (old new : Seen) → Status → (answer : ℕ) → Type 0
IsToldOf old new status answer = IsLineTold old new (code_of status) (line_of status) answer
