use Rattle.std.proofs.Common.{◌≡◌, ◌+◌, length}
use Rattle.journal.specs.Ready.{AreTakesOf}
use Rattle.journal.proofs.printer.lines_of_takes.Given as goal

-- the lines of the ports so far
abbrev pub invariant-ports : goal.invariant-ports
invariant-ports l = (length l.takes.items + 1 ≡ l.port) × AreTakesOf l.script l.s l.takes.items
