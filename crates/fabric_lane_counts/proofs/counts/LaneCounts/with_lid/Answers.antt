use Rattle.std.proofs.Common.{subst}
use Rattle.fabric_tables.specs.Cells.{tables_of}
use Rattle.fabric_lane_counts.proofs.StepLemmas.{unsent_counts}
use Rattle.fabric_routes.specs.declared.audience.Audience.{Audience}
use Rattle.fabric_routes.specs.Audience.{IsHeardFrom}
use Rattle.fabric_lane_tables.specs.Lanes.{lanes_of}
use Rattle.fabric_lane_tables.specs.Levels.{levels_of}
use Rattle.fabric_lane_counts.proofs.counts.LaneCounts.with_lid.Goals as goal

pub returns-in-Nobody-clause-counts : goal.returns-in-Nobody-clause-counts
returns-in-Nobody-clause-counts c = unsent_counts c.args.routing.now.fabric.now (tables_of c.args.routing.now.cells.now) (lanes_of c.args.routing.now.lanes.now) c.args.routing.now.traffic (levels_of c.args.routing.now.levels.now) c.args.lid c.args.self
    (λ source sends. subst (λ (a : Audience). IsHeardFrom c.args.routing.now.fabric.now a source) c.in-Nobody.is ((c.audience_of-audience.ensures source).0 sends).is_from) c.requires.counts
