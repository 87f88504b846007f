use Rattle.std.proofs.Common.{subst}
use Rattle.fabric_lane_verdict.specs.LaneVerdict.{IsLaneVerdict}
use Rattle.fabric_lane_commands.proofs.LaneEndLemmas.{cycle_ends}
use Rattle.fabric_lane_commands.proofs.judged.status_of.Goals as goal

pub returns-in-Cycle : goal.returns-in-Cycle
returns-in-Cycle c fabric tables lanes traffic levels given count is mute = cycle_ends fabric tables lanes traffic levels given count c.in-Cycle.channels.items (subst (IsLaneVerdict fabric tables lanes traffic levels count) c.in-Cycle.is is.verdict)
