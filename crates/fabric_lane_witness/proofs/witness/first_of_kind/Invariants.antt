use Rattle.std.proofs.Common.{◌<◌, ℕ}
use Rattle.fabric_tables.specs.Cells.{tables_of}
use Rattle.fabric_lane_tables.specs.Lanes.{lanes_of}
use Rattle.fabric_lane_tables.specs.Levels.{levels_of}
use Rattle.fabric_lane_witness.specs.Search.{IsReadyFor, TakesAs, end_at}
use Rattle.fabric_lane_witness.proofs.witness.first_of_kind.Given as goal

-- none of those so far
abbrev pub invariant-places : goal.invariant-places
invariant-places l =
    record {
      ready : IsReadyFor l.routing.fabric.now (tables_of l.routing.cells.now) l.sought l.marks;
      none : (other : ℕ) → other < l.place → TakesAs l.routing.fabric.now (tables_of l.routing.cells.now) (lanes_of l.routing.lanes.now) l.routing.traffic (levels_of l.routing.levels.now) l.sought (end_at l.kind other) → ⊥;
    }
