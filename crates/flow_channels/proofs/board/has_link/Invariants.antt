use Rattle.std.proofs.Common.{◌≡◌, ◌<◌, ℕ, None}
use Rattle.dep_check.specs.Tables.{wire_at}
use Rattle.flow_channels.specs.Layout.{spot}
use Rattle.flow_channels.proofs.board.has_link.Given as goal

-- the ports so far have none
abbrev pub invariant-ports : goal.invariant-ports
invariant-ports l = (k : ℕ) → k < l.port → wire_at l.tables.wires.items (spot l.at k) ≡ None
