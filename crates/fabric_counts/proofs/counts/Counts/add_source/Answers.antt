use Rattle.std.proofs.Common.{arith}
use Rattle.fabric_tables.specs.Cells.{tables_of}
use Rattle.fabric_counts.proofs.StepLemmas.{silent_counts}
use Rattle.fabric_counts.proofs.counts.Counts.add_source.Goals as goal

pub returns-in_default-clause-counts : goal.returns-in_default-clause-counts
returns-in_default-clause-counts c = λ traffic is are. silent_counts c.args.fabric.now (tables_of c.args.cells.now) traffic c.args.lid c.args.self.now c.args.source c.requires.source (λ sends. c.in_default.ensures.start ((is c.args.source).0 sends)) are

pub returns-clause-counts : goal.returns-clause-counts
returns-clause-counts c = λ traffic is are. record {
  exact = c.add.ensures.counts traffic ((is c.args.source).1 c.in-Some.ensures.start.0) c.end_from-outcome.ensures.ends are.exact;
  few = (let few = are.few in let more = c.add.ensures.routes in omega arith);
  few_unowned = c.add.ensures.unowned;
}
