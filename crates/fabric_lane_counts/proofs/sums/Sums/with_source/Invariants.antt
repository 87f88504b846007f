use Rattle.fabric_tables.specs.Cells.{tables_of}
use Rattle.fabric_counts.specs.Steps.{place_of}
use Rattle.fabric_lane_counts.specs.Sums.{AreSums}
use Rattle.fabric_lane_tables.specs.Levels.{levels_of}
use Rattle.fabric_lane_counts.proofs.sums.Sums.with_source.Given as goal

-- the sums with the LIDs so far
abbrev pub invariant-lids : goal.invariant-lids
invariant-lids l = AreSums l.routing.fabric.now (tables_of l.routing.cells.now) l.routing.traffic (levels_of l.routing.levels.now) (place_of l.routing.fabric.now l.source) l.lid l.sums
