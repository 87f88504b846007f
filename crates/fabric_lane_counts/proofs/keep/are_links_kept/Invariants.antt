use Rattle.fabric_lane_counts.proofs.KeepLemmas.{AreSidesKept}
use Rattle.fabric_lane_tables.specs.Lanes.{lanes_of}
use Rattle.fabric_lane_counts.proofs.keep.are_links_kept.Given as goal

-- the sides so far
abbrev pub invariant-places : goal.invariant-places
invariant-places l = AreSidesKept l.fabric (lanes_of l.lanes) l.used l.place
