use Rattle.std.proofs.Common.{◌≡◌, take}
use Rattle.fabric_lane_commands.specs.LaneDrawn.{lane_switches_of}
use Rattle.fabric_lane_commands.proofs.picture.switches_of.Given as goal

-- the switches so far
abbrev pub invariant-arrows : goal.invariant-arrows
invariant-arrows l = l.switches.keys ≡ lane_switches_of (take l.one-index l.arrows)
