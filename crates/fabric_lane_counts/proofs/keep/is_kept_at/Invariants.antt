use Rattle.std.proofs.Common.{◌<◌, ℕ}
use Rattle.fabric_lane_counts.specs.Keep.{IsKeptBy}
use Rattle.fabric_lane_tables.specs.Lanes.{lanes_of}
use Rattle.fabric_lane_counts.proofs.keep.is_kept_at.Given as goal

-- the ports so far
abbrev pub invariant-ports : goal.invariant-ports
invariant-ports l = (port : ℕ) → port < l.port → IsKeptBy l.fabric (lanes_of l.lanes) l.used l.at port
