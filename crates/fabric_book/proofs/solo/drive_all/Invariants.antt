-- It is the driver's turn still, and each turn takes an event.

use Rattle.std.proofs.Common.{◌≡◌, ◌-◌, length}
use Rattle.fabric_book.specs.Rounds.{GoesOn, IsTurnOfDriver, told_of}
use Rattle.fabric_book.proofs.solo.drive_all.Given as goal

abbrev pub invariant-turns : goal.invariant-turns
invariant-turns l = IsTurnOfDriver l.net × GoesOn l.initial.net l.net × (l.told ≡ told_of l.net)

abbrev pub decreases-turns : goal.decreases-turns
decreases-turns l = l.net.script.limits.events - length l.net.events
