use Rattle.std.proofs.Common.{length, ◌+◌, ◌≤◌}
use Rattle.table_script.specs.TableTexts.{AddsTold, none_told}
use Rattle.table_script.specs.TableSteps.{told_of, IsReady}
use Rattle.common_lines.proofs.ChainLaws.{IsReadBy}
use Rattle.table_script.proofs.table_reader.read_all.Given as goal

-- the lines before the rest are good, and no more than the bytes before it
abbrev pub invariant-lines : goal.invariant-lines
invariant-lines l = record { read : IsReadBy AddsTold none_told l.bytes l.rest (told_of l.reading) l.line; ready : IsReady l.reading; few : l.line + length l.rest ≤ length l.bytes + 1 }

abbrev pub decreases-lines : goal.decreases-lines
decreases-lines l = length l.rest
