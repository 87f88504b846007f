use Rattle.std.proofs.Common.{length, ◌+◌, ◌≤◌}
use Rattle.net_script.proofs.ReadLemmas.{IsRead}
use Rattle.net_script.proofs.reader.read_all.Given as goal

-- the lines before the rest are good, and no more than the bytes before it
abbrev pub invariant-lines : goal.invariant-lines
invariant-lines l = record { read : IsRead l.bytes l.rest l.draft l.line; few : l.line + length l.rest ≤ length l.bytes + 1 }

abbrev pub decreases-lines : goal.decreases-lines
decreases-lines l = length l.rest
