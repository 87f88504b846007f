use Rattle.std.proofs.Common.{◌≡◌, take}
use Rattle.fabric_lane_commands.specs.LaneDrawn.{lane_arrows_of}
use Rattle.fabric_lane_commands.proofs.picture.arrows_of.Given as goal

-- the arrows so far
abbrev pub invariant-channels : goal.invariant-channels
invariant-channels l = l.arrows.items ≡ lane_arrows_of l.fabric (take l.one-index l.cycle)
