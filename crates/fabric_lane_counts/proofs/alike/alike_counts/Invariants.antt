use Rattle.std.proofs.Common.{◌≡◌, ◌+◌, ◌*◌, ◌^◌, ◌≤◌}
use Rattle.fabric_tables.specs.Cells.{TablesOf}
use Rattle.fabric_counts.specs.Counts.{AreCounts}
use Rattle.fabric_lane_counts.specs.Alike.{IsBelow}
use Rattle.fabric_lane_counts.specs.Keep.{IsKept}
use Rattle.fabric_lane_counts.specs.LaneCounts.{AreCountsOf, lane_sum_of}
use Rattle.fabric_model.specs.Fabric.{FabricOf, IsFabric}
use Rattle.fabric_model.specs.declared.traffic.Traffic.{Traffic}
use Rattle.fabric_lane_tables.specs.Lanes.{LanesOf}
use Rattle.fabric_lane_counts.proofs.alike.alike_counts.Given as goal

-- the counts with the levels so far
abbrev pub invariant-levels : goal.invariant-levels
invariant-levels l = record {
  all : l.all.routes ≡ l.all.arrived + lane_sum_of l.all.lost;
  unowned : l.all.unowned ≤ l.all.arrived;
  few : l.all.routes ≤ l.level * 2 ^ 40;
  counts : (fabric : FabricOf) (tables : TablesOf) (lanes : LanesOf) (traffic : Traffic) → IsFabric fabric → IsKept fabric lanes l.told → AreCounts fabric tables traffic l.counts
      → AreCountsOf fabric tables lanes (IsBelow fabric tables traffic l.told l.level) l.all;
}
