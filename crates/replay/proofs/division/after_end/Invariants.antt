use Rattle.std.proofs.Common.{length}
use Rattle.replay.proofs.DivisionLemmas.{IsBefore}
use Rattle.replay.proofs.division.after_end.Given as goal

-- none of the lines before the rest is the end
abbrev pub invariant-lines : goal.invariant-lines
invariant-lines l = IsBefore l.bytes l.rest

abbrev pub decreases-lines : goal.decreases-lines
decreases-lines l = length l.rest
