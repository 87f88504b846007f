use Rattle.std.proofs.Common.{length}
use Rattle.fabric_lane_tables.specs.Levels.{levels_of}
use Rattle.fabric_lane_commands.specs.Silence.{IsLeastQuiet}
use Rattle.fabric_lane_commands.proofs.mute.first_to.Given as goal

-- the least so far
abbrev pub invariant-ends : goal.invariant-ends
invariant-ends l = IsLeastQuiet l.fabric (levels_of l.levels) l.audience l.lid l.end 0 l.first

abbrev pub invariant-switches : goal.invariant-switches
invariant-switches l = IsLeastQuiet l.fabric (levels_of l.levels) l.audience l.lid (length l.fabric.cables) l.switch l.first
