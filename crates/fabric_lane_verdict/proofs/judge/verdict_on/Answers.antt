use Rattle.std.proofs.Common.{ap, map, subst, arith}
use Rattle.fabric_tables.specs.Cells.{tables_of}
use Rattle.fabric_lane_tables.specs.Lanes.{IsLaneCount, lanes_of}
use Rattle.fabric_lane_tables.specs.Levels.{levels_of}
use Rattle.fabric_lane_verdict.specs.LaneVerdict.{lane_spot_at}
use Rattle.fabric_lane_verdict.proofs.NumberLemmas.{loop, ranked}
use Rattle.fabric_lane_verdict.proofs.judge.verdict_on.Goals as goal

pub with_witnesses-requires-clause-least : goal.with_witnesses-requires-clause-least
with_witnesses-requires-clause-least c = loop c.args.routing.now.fabric.now c.args.routing.now.lanes.now.count (tables_of c.args.routing.now.cells.now) (lanes_of c.args.routing.now.lanes.now) c.args.routing.now.traffic (levels_of c.args.routing.now.levels.now) (subst (IsLaneCount (lanes_of c.args.routing.now.lanes.now)) c.count.ensures.count c.count.ensures.lanes) c.args.graph.now c.requires.graph c.max-most.result c.max-count.result c.in-Cycle.nodes.items (map (lane_spot_at c.max-most.result c.max-count.result) c.deref.result.now) (omega arith) (omega arith) (ap (map (lane_spot_at c.max-most.result c.max-count.result)) c.deref.ensures.value) (rw c.in-Cycle.is at c.in_ok-ranks.ensures)

pub returns-in-Ranks : goal.returns-in-Ranks
returns-in-Ranks c = ranked c.args.routing.now.fabric.now c.args.routing.now.lanes.now.count (tables_of c.args.routing.now.cells.now) (lanes_of c.args.routing.now.lanes.now) c.args.routing.now.traffic (levels_of c.args.routing.now.levels.now) (subst (IsLaneCount (lanes_of c.args.routing.now.lanes.now)) c.count.ensures.count c.count.ensures.lanes) c.args.graph.now c.requires.graph c.most.ensures.fabric c.in-Ranks.ranks.items (rw c.in-Ranks.is at c.in_ok-ranks.ensures)
