use Rattle.std.proofs.Common.{◌≡◌, take}
use Rattle.fabric_read_lanes.specs.LaneLines.{spaced}
use Rattle.fabric_read_lanes.proofs.lane_line.spaced.Given as goal

-- so many bytes are copied
abbrev pub invariant-bytes : goal.invariant-bytes
invariant-bytes l = l.text.items ≡ spaced (take l.byte-index l.line)
