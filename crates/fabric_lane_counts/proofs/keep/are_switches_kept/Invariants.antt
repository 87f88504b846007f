use Rattle.fabric_lane_counts.proofs.KeepLemmas.{AreSwitchesBelow}
use Rattle.fabric_lane_tables.specs.Lanes.{lanes_of}
use Rattle.fabric_lane_counts.proofs.keep.are_switches_kept.Given as goal

-- the switches so far
abbrev pub invariant-switches : goal.invariant-switches
invariant-switches l = AreSwitchesBelow l.fabric (lanes_of l.lanes) l.used l.switch
