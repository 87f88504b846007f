use Rattle.fabric_lane_tables.proofs.InUseLemmas.{AreLidsBelow}
use Rattle.fabric_lane_tables.proofs.in_use.lids_of.Given as goal

-- the LIDs so far
abbrev pub invariant-lids : goal.invariant-lids
invariant-lids l = AreLidsBelow l.fabric l.source l.lids.items l.lid
