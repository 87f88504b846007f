use Rattle.std.proofs.Common.{arith}
use Rattle.std.proofs.Common.{◌*◌}
use Rattle.fabric_tables.specs.Cells.{tables_of}
use Rattle.fabric_counts.proofs.StepLemmas.{all_counts, few_lost}
use Rattle.fabric_counts.proofs.count.count_routes.Goals as goal

pub returns-clause-counts : goal.returns-clause-counts
returns-clause-counts c = all_counts c.args.fabric.now (tables_of c.args.cells.now) c.args.traffic c.args.cells.now.blocks c.count_blocks.result c.requires.owners c.count_blocks.ensures.past c.count_blocks.ensures.counts

pub returns-clause-few : goal.returns-clause-few
returns-clause-few c = few_lost c.args.fabric.now (tables_of c.args.cells.now) c.args.traffic (64 * c.args.cells.now.blocks) c.count_blocks.result (let low = c.count_blocks.ensures.low in omega arith) c.count_blocks.ensures.counts

pub returns-clause-most : goal.returns-clause-most
returns-clause-most c = (let few = c.count_blocks.ensures.counts.few in let low = c.count_blocks.ensures.low in omega arith)

pub returns-clause-unowned : goal.returns-clause-unowned
returns-clause-unowned c = c.count_blocks.ensures.counts.few_unowned
