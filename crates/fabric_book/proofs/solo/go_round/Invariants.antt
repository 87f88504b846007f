-- It is the first worker's turn, and each round takes an event.

use Rattle.std.proofs.Common.{◌≡◌, ◌-◌, length}
use Rattle.fabric_book.specs.Rounds.{IsTurnOf, told_of}
use Rattle.fabric_book.proofs.solo.go_round.Given as goal

abbrev pub invariant-rounds : goal.invariant-rounds
invariant-rounds l = IsTurnOf 0 l.net × (l.net.script ≡ l.initial.net.script) × (l.told ≡ told_of l.net)

abbrev pub decreases-rounds : goal.decreases-rounds
decreases-rounds l = l.net.script.limits.events - length l.net.events
