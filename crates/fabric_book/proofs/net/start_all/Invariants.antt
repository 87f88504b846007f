-- Those before were started.

use Rattle.std.proofs.Common.{◌≡◌, length}
use Rattle.fabric_book.proofs.StartLemmas.{AreStartedBefore}
use Rattle.fabric_book.proofs.net.start_all.Given as goal

abbrev pub invariant-switches : goal.invariant-switches
invariant-switches l = (length l.switches.items ≡ l.s) × AreStartedBefore l.s l.powers l.wiring l.switches.items
