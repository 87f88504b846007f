use Rattle.fabric_lane_waves.specs.LaneSteps.{AreLaneBases}
use Rattle.fabric_lane_waves.proofs.find.find_bases.Given as goal

abbrev pub invariant-channels : goal.invariant-channels
invariant-channels l = AreLaneBases l.fabric l.count l.channel l.bases.items
