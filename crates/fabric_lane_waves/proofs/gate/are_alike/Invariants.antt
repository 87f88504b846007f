use Rattle.std.proofs.Common.{◌≡◌, ◌<◌, ℕ}
use Rattle.fabric_lane_tables.specs.Lanes.{told_row}
use Rattle.fabric_lane_waves.proofs.gate.are_alike.Given as goal

abbrev pub invariant-ports : goal.invariant-ports
invariant-ports l = (port : ℕ) → port < l.port → told_row l.lanes l.one.switch l.one.port port ≡ told_row l.lanes l.one.switch l.other.port port
