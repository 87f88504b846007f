use Rattle.std.proofs.Common.{◌+◌, sym, subst, ℕ, arith}
use Rattle.fabric_tables.specs.Cells.{tables_of}
use Rattle.fabric_counts.specs.Steps.{AreCountsUntil}
use Rattle.fabric_counts.proofs.StepLemmas.{next_counts}
use Rattle.fabric_counts.proofs.counts.Counts.with_sources.Goals as goal

pub add_source-requires-clause-all : goal.add_source-requires-clause-all
add_source-requires-clause-all c = c.places.invariant.counts.exact.all

pub add_source-requires-clause-unowned : goal.add_source-requires-clause-unowned
add_source-requires-clause-unowned c = c.places.invariant.counts.few_unowned

pub add_source-requires-clause-fits : goal.add_source-requires-clause-fits
add_source-requires-clause-fits c = (let few = c.places.invariant.counts.few in omega arith)

pub places-preserved : goal.places-preserved
places-preserved c =
    let fabric = c.args.fabric.now in
    let tables = tables_of c.args.cells.now in
    let before = subst (λ (n : ℕ). AreCountsUntil fabric tables c.args.traffic c.args.lid n c.places.counts) (sym c.end_port_at-source.ensures.place) c.places.invariant.counts in
    record {
      ready = c.add_source.ensures.ready;
      counts = subst (λ (n : ℕ). AreCountsUntil fabric tables c.args.traffic c.args.lid (n + 1) c.add_source.new.self) c.end_port_at-source.ensures.place (c.add_source.ensures.counts c.args.traffic c.audience_of-audience.ensures before);
    }

pub returns : goal.returns
returns c = next_counts c.args.fabric.now (tables_of c.args.cells.now) c.args.traffic c.args.lid c.places.counts c.places.place (omega arith) (omega arith) c.places.invariant.counts
