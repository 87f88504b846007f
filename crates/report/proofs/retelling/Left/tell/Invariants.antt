use Rattle.std.proofs.Common.{length}
use Rattle.report.specs.Events.{told_text}
use Rattle.report.proofs.RetellingLemmas.{AreTold}
use Rattle.report.proofs.retelling.Left.tell.Given as goal

-- these lines are told, and this is left
abbrev pub invariant-lines : goal.invariant-lines
invariant-lines l = AreTold l.telling.course.events (told_text l.telling.script.now l.telling.course l.rows) l.fn.self l.self l.fn.text.items l.text.items

abbrev pub decreases-lines : goal.decreases-lines
decreases-lines l = length l.self.lines
