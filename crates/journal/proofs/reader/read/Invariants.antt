use Rattle.std.proofs.Common.{length}
use Rattle.journal.specs.Reading.{HasRead}
use Rattle.journal.proofs.reader.read.Given as goal

-- the events so far were read
abbrev pub invariant-events : goal.invariant-events
invariant-events l = HasRead l.script l.bytes l.journal l.reader

abbrev pub decreases-events : goal.decreases-events
decreases-events l = length l.reader.rest
