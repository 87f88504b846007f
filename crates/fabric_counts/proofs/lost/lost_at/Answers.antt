use Rattle.fabric_tables.specs.Cells.{tables_of}
use Rattle.fabric_counts.specs.Counts.{hop_for}
use Rattle.fabric_counts.proofs.LostLemmas.{lost_there}
use Rattle.fabric_model.specs.Fabric.{switch_count}
use Rattle.fabric_routes.proofs.ChannelLemmas.{hop_within}
use Rattle.fabric_counts.proofs.lost.lost_at.Goals as goal

pub returns-clause-lost : goal.returns-clause-lost
returns-clause-lost c = lost_there (hop_for c.args.fabric.now (tables_of c.args.cells.now) c.args.lid) c.args.start (switch_count c.args.fabric.now) c.requires.start
    (λ at port next on. hop_within c.args.fabric.now c.far_on-far.ensures.fabric (tables_of c.args.cells.now) at c.args.lid port next on)
    c.far_on-far.result c.least_on.result c.far_on-far.ensures.far c.least_on.ensures.least
