use Rattle.std.proofs.Common.{subst, sym, List}
use Rattle.fabric_lane_verdict.specs.declared.verdict.LaneLoopChannel.{LaneLoopChannel}
use Rattle.fabric_lane_verdict.specs.LaneVerdict.{IsLaneVerdict, LaneHasRanks}
use Rattle.fabric_lane_commands.specs.LaneJudged.{IsLaneLoop}
use Rattle.fabric_lane_commands.proofs.LaneEndLemmas.{loop_is}
use Rattle.fabric_lane_commands.proofs.judged.cycle_of.Goals as goal

pub returns-in-Cycle : goal.returns-in-Cycle
returns-in-Cycle c fabric tables lanes traffic levels count is = subst (λ (found : List LaneLoopChannel). IsLaneLoop fabric tables lanes traffic levels found) (sym c.deref.ensures.value) (loop_is fabric tables lanes traffic levels c.in-Cycle.channels.items (subst (IsLaneVerdict fabric tables lanes traffic levels count) c.in-Cycle.is is.verdict))

pub returns-in-Ranks : goal.returns-in-Ranks
returns-in-Ranks c fabric tables lanes traffic levels count is =
    let ranks : LaneHasRanks fabric tables lanes traffic levels count c.in-Ranks.ranks.items = subst (IsLaneVerdict fabric tables lanes traffic levels count) c.in-Ranks.is is.verdict in
    ranks.no_cycle
