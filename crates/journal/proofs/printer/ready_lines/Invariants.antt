use Rattle.std.proofs.Common.{◌≡◌, length}
use Rattle.journal.specs.Ready.{AreReady}
use Rattle.journal.proofs.printer.ready_lines.Given as goal

-- the lines of the switches so far
abbrev pub invariant-switches : goal.invariant-switches
invariant-switches l = (length l.ready.items ≡ l.s) × AreReady l.script l.ready.items
