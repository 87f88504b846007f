use Rattle.std.proofs.Common.{length}
use Rattle.journal.proofs.ReadingLemmas.{ReadsOn}
use Rattle.journal.proofs.reader.Reader.check_rest.Given as goal

-- so many events more were read
abbrev pub invariant-lines : goal.invariant-lines
invariant-lines l = ReadsOn l.initial.self l.self

abbrev pub decreases-lines : goal.decreases-lines
decreases-lines l = length l.self.rest
