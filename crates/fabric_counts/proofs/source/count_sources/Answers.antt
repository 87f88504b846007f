use Rattle.std.proofs.Common.{◌≤◌, Bool, true, false, arith}
use Rattle.std.specs.Int.{from_bool}
use Rattle.fabric_counts.proofs.PlaceLemmas.{no_source, source_step, sources_all}
use Rattle.fabric_counts.proofs.source.count_sources.Goals as goal

one_at_most : (b : Bool) → from_bool b ≤ 1
one_at_most true = omega arith
one_at_most false = omega arith

pub places-init : goal.places-init
places-init c = record { so_far = no_source c.args.fabric.now c.args.traffic; few = omega arith }

pub places-preserved : goal.places-preserved
places-preserved c = record {
  so_far = source_step c.args.fabric.now c.args.traffic c.places.place c.places.count c.end_port_at.result c.is_source-sends.result c.from-count.result c.end_port_at.ensures.is c.end_port_at.ensures.place c.is_source-sends.ensures c.from-count.ensures c.places.invariant.so_far;
  few = (let few = c.places.invariant.few in let one = one_at_most c.is_source-sends.result in let is = c.from-count.ensures in omega arith);
}

pub returns-clause-count : goal.returns-clause-count
returns-clause-count c = sources_all c.args.fabric.now c.args.traffic c.places.place c.places.count (omega arith) c.places.invariant.so_far
