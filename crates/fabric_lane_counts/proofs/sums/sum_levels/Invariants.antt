use Rattle.fabric_tables.specs.Cells.{tables_of}
use Rattle.fabric_lane_counts.specs.Sums.{AreSums}
use Rattle.fabric_lane_tables.specs.Levels.{levels_of}
use Rattle.fabric_lane_counts.proofs.sums.sum_levels.Given as goal

-- the sums with the end ports so far
abbrev pub invariant-places : goal.invariant-places
invariant-places l = AreSums l.routing.fabric.now (tables_of l.routing.cells.now) l.routing.traffic (levels_of l.routing.levels.now) l.place 0 l.sums
