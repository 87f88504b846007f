use Rattle.std.proofs.Common.{length-set, arith}
use Rattle.fabric_tables.specs.Cells.{tables_of}
use Rattle.fabric_lane_counts.proofs.GoneLemmas.{joined_some}
use Rattle.fabric_routes.proofs.WordLemmas.{gap_less}
use Rattle.fabric_lane_tables.specs.Lanes.{lanes_of}
use Rattle.fabric_lane_counts.proofs.gone.join_next.Goals as goal

pub returns-clause-joined : goal.returns-clause-joined
returns-clause-joined c = record {
  some = joined_some c.args.routing.now.fabric.now (tables_of c.args.routing.now.cells.now) (lanes_of c.args.routing.now.lanes.now) c.args.lid c.args.gone.now c.args.switch c.joined.result c.fresh_of-fresh.result (omega arith) c.joined.ensures.bits
      (λ level new. (c.gone_next.ensures level).0 ((c.fresh_of-fresh.ensures level).0 new).0);
  less = gap_less c.args.gone.now c.args.switch c.joined.result (omega arith) c.joined.ensures.more (omega arith);
  count = length-set c.args.gone.now c.args.switch c.joined.result;
}
