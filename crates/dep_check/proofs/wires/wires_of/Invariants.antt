use Rattle.std.proofs.Common.{◌*◌}
use Rattle.dep_check.specs.Channels.{far_at}
use Rattle.dep_check.specs.Tables.{AreWiresBelow}
use Rattle.dep_check.proofs.wires.wires_of.Given as goal

-- the wires of the numbers so far
abbrev pub invariant-members : goal.invariant-members
invariant-members l = AreWiresBelow (far_at l.graph l.numbers) (l.at * 13) l.wires.items
