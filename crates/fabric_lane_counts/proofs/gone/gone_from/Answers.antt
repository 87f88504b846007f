use Rattle.std.proofs.Common.{get_or}
use Rattle.fabric_tables.specs.Cells.{tables_of}
use Rattle.fabric_lane_counts.proofs.GoneLemmas.{from_words}
use Rattle.fabric_routes.proofs.WordLemmas.{joined_is}
use Rattle.fabric_lane_tables.specs.Lanes.{lanes_of}
use Rattle.fabric_lane_counts.proofs.gone.gone_from.Goals as goal

pub returns : goal.returns
returns c = λ level.
    let joined = joined_is c.gone_at.result (get_or c.args.gone.now c.args.at.switch 0) level in
    let from = from_words c.args.routing.now.fabric.now (tables_of c.args.routing.now.cells.now) (lanes_of c.args.routing.now.lanes.now) c.args.lid c.args.gone.now c.args.at c.gone_at.result c.requires.at c.requires.gone c.gone_at.ensures level in
    (λ bit. from.0 (joined.0 bit), λ gone. joined.1 (from.1 gone))
