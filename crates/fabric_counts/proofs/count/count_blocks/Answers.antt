use Rattle.std.proofs.Common.{sym, subst, ℕ, arith}
use Rattle.fabric_tables.specs.Cells.{tables_of}
use Rattle.fabric_counts.specs.Steps.{AreCountsUntil}
use Rattle.fabric_counts.specs.declared.counts.Counts.{Counts}
use Rattle.fabric_counts.proofs.StepLemmas.{first_counts}
use Rattle.fabric_counts.proofs.count.count_blocks.Goals as goal

pub rounds-init : goal.rounds-init
rounds-init c = record {
  rooms = c.requires.rooms;
  counts = subst (λ (n : Counts). AreCountsUntil c.args.fabric.now (tables_of c.args.cells.now) c.args.traffic 0 0 n) (sym c.none-counts.ensures) (first_counts c.args.fabric.now (tables_of c.args.cells.now) c.args.traffic);
}

pub returns-clause-counts : goal.returns-clause-counts
returns-clause-counts c = subst (λ (n : ℕ). AreCountsUntil c.args.fabric.now (tables_of c.args.cells.now) c.args.traffic n 0 c.rounds.counts) (omega arith) c.rounds.invariant.counts
