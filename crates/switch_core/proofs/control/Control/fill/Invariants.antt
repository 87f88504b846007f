use Rattle.std.proofs.Common.{◌≤◌}
use Rattle.switch_core.specs.Steps.{fills}
use Rattle.switch_core.specs.Stands.{Does}
use Rattle.switch_core.proofs.control.Control.fill.Given as goal

-- so many went out
abbrev pub invariant-window : goal.invariant-window
invariant-window l = (l.counter ≤ 7) × Does (fills l.counter l.port l.peer) l.initial.self l.self l.initial.out l.out
