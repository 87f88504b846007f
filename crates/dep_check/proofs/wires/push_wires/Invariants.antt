use Rattle.std.proofs.Common.{◌+◌, ◌*◌}
use Rattle.dep_check.specs.Channels.{far_at}
use Rattle.dep_check.specs.Tables.{AreWiresBelow}
use Rattle.dep_check.proofs.wires.push_wires.Given as goal

-- the wires so far
abbrev pub invariant-ports : goal.invariant-ports
invariant-ports l = AreWiresBelow (far_at l.graph l.numbers) (l.at * 13 + l.port) l.wires.items
