use Rattle.fabric_lane_counts.specs.Sums.{AreAudiencesBelow}
use Rattle.fabric_lane_counts.proofs.sums.find_audiences.Given as goal

-- those so far
abbrev pub invariant-lids : goal.invariant-lids
invariant-lids l = AreAudiencesBelow l.routing l.lid l.audiences.items
