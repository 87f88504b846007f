use Rattle.std.proofs.Common.{◌≡◌, ◌+◌, ◌*◌, ◌/◌, subst, ℕ, arith}
use Rattle.fabric_tables.specs.Cells.{tables_of}
use Rattle.fabric_counts.specs.Steps.{AreCountsUntil}
use Rattle.fabric_routes.specs.Waves.{AreStarts}
use Rattle.fabric_counts.proofs.count.count_block.Goals as goal

pub bits-init : goal.bits-init
bits-init c = record {
  rooms = c.requires.rooms;
  counts = subst (λ (n : ℕ). AreCountsUntil c.args.fabric.now (tables_of c.args.cells.now) c.args.traffic n 0 c.args.counts) (let e : 64 * c.args.block ≡ 64 * c.args.block + 0 = omega arith in e) c.requires.counts;
}

pub bits-preserved : goal.bits-preserved
bits-preserved c = record {
  rooms = c.count_lid-counts.ensures.rooms;
  counts = subst (λ (n : ℕ). AreCountsUntil c.args.fabric.now (tables_of c.args.cells.now) c.args.traffic n 0 c.count_lid-counts.result) (let e : 64 * c.args.block + c.bits.bit + 1 ≡ 64 * c.args.block + (c.bits.bit + 1) = omega arith in e) c.count_lid-counts.ensures.counts;
}

pub count_lid-counts-requires-clause-starts : goal.count_lid-counts-requires-clause-starts
count_lid-counts-requires-clause-starts c = subst (λ (b : ℕ). AreStarts c.args.fabric.now (tables_of c.args.cells.now) c.args.traffic b c.args.starts.now) (let e : c.args.block ≡ (64 * c.args.block + c.bits.bit) / 64 = omega arith in e) c.requires.starts

pub returns-clause-counts : goal.returns-clause-counts
returns-clause-counts c = subst (λ (n : ℕ). AreCountsUntil c.args.fabric.now (tables_of c.args.cells.now) c.args.traffic n 0 c.bits.counts) (omega arith) c.bits.invariant.counts
