use Rattle.fabric_call.proofs.FoundLemmas.{answer_by}
use Rattle.fabric_lane_commands.specs.Inputs.{IsStop, lane_sources}
use Rattle.fabric_lane_commands.specs.LaneCall.{IsGiven}
use Rattle.fabric_lane_commands.proofs.command.answer.Goals as goal

pub returns : goal.returns
returns g c =
    let old = lane_sources (g.T.Source.seen c.args.topology.now) (g.S.Source.seen c.args.tables.now) (g.L.Source.seen c.args.lanes.now) (g.P.Source.seen c.args.levels.now) in
    let new = lane_sources (g.T.Source.seen c.found-found.new.topology) (g.S.Source.seen c.found-found.new.tables) (g.L.Source.seen c.found-found.new.lanes) (g.P.Source.seen c.found-found.new.levels) in
    answer_by (IsGiven (g.C.LaneCommand.gives c.args.command.now c.args.asked) c.args.asked old new) (IsStop c.args.asked old new) _ _ c.found-found.result _ _ _ c.found-found.ensures.given c.found-found.ensures.stopped c.tell_found.ensures
