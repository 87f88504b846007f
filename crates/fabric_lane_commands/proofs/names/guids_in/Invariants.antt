use Rattle.std.proofs.Common.{◌≡◌, [], take}
use Rattle.fabric_lane_commands.specs.LaneJudged.{lane_mentioned}
use Rattle.fabric_lane_commands.proofs.names.guids_in.Given as goal

-- the nodes so far
abbrev pub invariant-steps : goal.invariant-steps
invariant-steps l = l.guids.keys ≡ lane_mentioned l.fn.mute (take l.one-index l.steps) []

abbrev pub invariant-lost : goal.invariant-lost
invariant-lost l = l.guids.keys ≡ lane_mentioned l.fn.mute l.steps (take l.route-index l.lost)
