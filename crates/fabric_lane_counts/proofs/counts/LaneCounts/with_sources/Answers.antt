use Rattle.std.proofs.Common.{◌+◌, sym, subst, ℕ, arith}
use Rattle.fabric_tables.specs.Cells.{tables_of}
use Rattle.fabric_lane_counts.specs.Steps.{AreCountsUntil}
use Rattle.fabric_lane_counts.proofs.StepLemmas.{next_counts}
use Rattle.fabric_lane_tables.specs.Lanes.{lanes_of}
use Rattle.fabric_lane_tables.specs.Levels.{levels_of}
use Rattle.fabric_lane_counts.proofs.counts.LaneCounts.with_sources.Goals as goal

pub add_source-requires-clause-counts : goal.add_source-requires-clause-counts
add_source-requires-clause-counts c = subst (λ (n : ℕ). AreCountsUntil c.args.routing.now.fabric.now (tables_of c.args.routing.now.cells.now) (lanes_of c.args.routing.now.lanes.now) c.args.routing.now.traffic (levels_of c.args.routing.now.levels.now) c.args.lid n 0 c.places.counts) (sym c.end_port_at-source.ensures.place) c.places.invariant.counts

pub places-preserved : goal.places-preserved
places-preserved c = record {
  ready = c.add_source.ensures.ready;
  counts = subst (λ (n : ℕ). AreCountsUntil c.args.routing.now.fabric.now (tables_of c.args.routing.now.cells.now) (lanes_of c.args.routing.now.lanes.now) c.args.routing.now.traffic (levels_of c.args.routing.now.levels.now) c.args.lid (n + 1) 0 c.add_source.new.self) c.end_port_at-source.ensures.place c.add_source.ensures.counts;
}

pub returns-clause-counts : goal.returns-clause-counts
returns-clause-counts c = next_counts c.args.routing.now.fabric.now (tables_of c.args.routing.now.cells.now) (lanes_of c.args.routing.now.lanes.now) c.args.routing.now.traffic (levels_of c.args.routing.now.levels.now) c.args.lid c.places.counts c.places.place (omega arith) (omega arith) c.places.invariant.counts
