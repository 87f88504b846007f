use Rattle.fabric_lane_waves.specs.LaneBlocks.{AreSetBy}
use Rattle.fabric_lane_waves.proofs.SetLemmas.{OwnsBelow}
use Rattle.fabric_lane_waves.proofs.start.put_owned.Given as goal

abbrev pub invariant-bits : goal.invariant-bits
invariant-bits l = AreSetBy l.initial.owned l.owned (OwnsBelow l.fabric l.block l.bit)
