-- It is the turn of this worker, and those before have nothing to do where nothing came.

use Rattle.std.proofs.Common.{◌≡◌}
use Rattle.fabric_book.specs.Rounds.{AreIdleBefore, GoesOn, IsTurnOf, told_of}
use Rattle.fabric_book.proofs.solo.work_all.Given as goal

abbrev pub invariant-switches : goal.invariant-switches
invariant-switches l = IsTurnOf l.s l.net × GoesOn l.initial.net l.net × AreIdleBefore l.s l.initial.net l.net × (told_of l.net ≡ told_of l.initial.net)
