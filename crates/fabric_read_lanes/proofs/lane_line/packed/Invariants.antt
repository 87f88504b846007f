use Rattle.std.proofs.Common.{◌≡◌, ◌≤◌, Some, length, drop, map}
use Rattle.fabric_read_lanes.specs.LaneLines.{packed}
use Rattle.fabric_read_lanes.proofs.lane_line.packed.Given as goal

-- the row of the lanes from this place on
abbrev pub invariant-lanes : goal.invariant-lanes
invariant-lanes l = record {
  row : packed (drop l.left (map (λ w. w.now) l.lanes)) ≡ Some l.row;
  within : l.left ≤ length l.lanes;
}

abbrev pub decreases-lanes : goal.decreases-lanes
decreases-lanes l = l.left
