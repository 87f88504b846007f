-- The number and the line of each status.

use Rattle.std.specs.Prelude.{ℕ, List, [], ◌++◌, codes}
use Rattle.std.specs.Fmt.{decimal}
use Rattle.net_script.specs.Causes.{cause_text}
use Rattle.journal_cause.specs.Causes.{cause_text as journal_cause_text}
use Rattle.autonet_call.specs.declared.status.Status.{Status}
use Rattle.autonet_call.specs.declared.status.Status.TheVariants.{Ok, Usage, ScriptRefused, ReadFault, WriteFault, TablesRefused, Unsettled, EpochsSpent, JournalRefused, JournalFull, OutOfMemory}

-- the number of a status
abbrev pub code_of : Status → ℕ
code_of Ok = 0
code_of Usage = 2
code_of (ScriptRefused line cause) = 3
code_of ReadFault = 4
code_of WriteFault = 5
code_of TablesRefused = 8
code_of (Unsettled tick) = 1
code_of (EpochsSpent name) = 6
code_of (JournalRefused line cause) = 7
code_of JournalFull = 10
code_of OutOfMemory = 9

-- the line of a status
abbrev pub line_of : Status → List ℕ
line_of Ok = []
line_of Usage = codes "usage: autonet expect, run, replay, check, flow B, flood, names or gen SEED N\n"
line_of (ScriptRefused line cause) =
    codes "autonet: script line " ++ decimal line ++ codes ": " ++ cause_text cause ++ codes "\n"
line_of ReadFault = codes "autonet: read fault\n"
line_of WriteFault = codes "autonet: write fault\n"
line_of TablesRefused = codes "autonet: tables refused\n"
line_of (Unsettled tick) = codes "autonet: unsettled at tick " ++ decimal tick ++ codes "\n"
line_of (EpochsSpent name) = codes "autonet: epochs spent at " ++ name ++ codes "\n"
line_of (JournalRefused line cause) =
    codes "autonet: journal line " ++ decimal line ++ codes ": " ++ journal_cause_text cause ++ codes "\n"
line_of JournalFull = codes "autonet: journal full\n"
line_of OutOfMemory = codes "autonet: out of memory\n"
