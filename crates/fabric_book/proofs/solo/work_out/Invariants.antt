-- It is this worker's turn still, and each turn takes an event.

use Rattle.std.proofs.Common.{◌≡◌, ◌-◌, length}
use Rattle.fabric_book.specs.Rounds.{GoesOn, IsTurnOf, told_of}
use Rattle.fabric_book.proofs.solo.work_out.Given as goal

abbrev pub invariant-turns : goal.invariant-turns
invariant-turns l = IsTurnOf l.s l.net × GoesOn l.initial.net l.net × (told_of l.net ≡ told_of l.initial.net)

abbrev pub decreases-turns : goal.decreases-turns
decreases-turns l = l.net.script.limits.events - length l.net.events
