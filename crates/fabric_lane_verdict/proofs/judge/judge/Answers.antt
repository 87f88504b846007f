use Rattle.std.proofs.Common.{◌*◌, sym, subst, ℕ}
use Rattle.fabric_tables.specs.Cells.{tables_of}
use Rattle.fabric_lane_tables.specs.Lanes.{IsLaneCount, lanes_of}
use Rattle.fabric_lane_tables.specs.Levels.{levels_of}
use Rattle.fabric_lane_verdict.specs.LaneJudgements.{IsLaneChannelCount}
use Rattle.fabric_lane_verdict.proofs.ChannelLemmas.{lane_count}
use Rattle.fabric_lane_verdict.proofs.ArriveLemmas.{pass}
use Rattle.fabric_lane_verdict.proofs.NumberLemmas.{dependencies}
use Rattle.fabric_lane_verdict.proofs.judge.judge.Goals as goal

pub returns : goal.returns
returns c =
    let counted = subst (IsLaneCount (lanes_of c.args.routing.now.lanes.now)) c.count.ensures.count c.count.ensures.lanes in
    let found = c.in_ok-found.found in
    let are = c.in_ok-found.ensures in
    let verdict = c.in_ok-verdict.ensures in
    record {
      verdict = verdict;
      stops = are.stopped;
      passes = λ none. pass c.args.routing.now.fabric.now (tables_of c.args.routing.now.cells.now) (lanes_of c.args.routing.now.lanes.now) c.args.routing.now.traffic (levels_of c.args.routing.now.levels.now) c.args.routing.now.lanes.now.count counted found.stopped are.stopped c.in_ok-verdict.verdict verdict none;
      channels = subst (λ (n : ℕ). IsLaneChannelCount c.args.routing.now.fabric.now c.args.routing.now.lanes.now.count (c.count_links.result.channels * n)) (sym c.count.ensures.count) (lane_count c.args.routing.now.fabric.now c.args.routing.now.lanes.now.count c.count_links.result.channels c.count_links.ensures.channels);
      dependencies = dependencies c.args.routing.now.fabric.now c.args.routing.now.lanes.now.count (tables_of c.args.routing.now.cells.now) (lanes_of c.args.routing.now.lanes.now) c.args.routing.now.traffic (levels_of c.args.routing.now.levels.now) counted found.graph are.graph c.count_steps-dependencies.result c.count_steps-dependencies.ensures;
    }
