use Rattle.std.proofs.Common.{length}
use Rattle.replay.proofs.DivisionLemmas.{IsAhead}
use Rattle.replay.proofs.division.from_words.Given as goal

-- none of the lines before the rest has words
abbrev pub invariant-lines : goal.invariant-lines
invariant-lines l = IsAhead l.bytes l.rest

abbrev pub decreases-lines : goal.decreases-lines
decreases-lines l = length l.rest
