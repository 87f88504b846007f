use Rattle.fabric_lane_counts.proofs.KeepLemmas.{AreCablesBelow}
use Rattle.fabric_lane_tables.specs.Lanes.{lanes_of}
use Rattle.fabric_lane_counts.proofs.keep.are_cables_kept.Given as goal

-- the cables so far
abbrev pub invariant-ends : goal.invariant-ends
invariant-ends l = AreCablesBelow l.fabric (lanes_of l.lanes) l.used l.end
