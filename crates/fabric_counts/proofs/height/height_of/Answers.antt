use Rattle.fabric_tables.specs.Cells.{tables_of}
use Rattle.fabric_counts.specs.Counts.{hop_for}
use Rattle.fabric_model.specs.Fabric.{switch_count}
use Rattle.fabric_counts.proofs.height.height_of.Goals as goal

pub returns-clause-heights : goal.returns-clause-heights
returns-clause-heights c = (c.settle.ensures (hop_for c.args.fabric.now (tables_of c.args.cells.now) c.args.lid) (switch_count c.args.fabric.now) c.args.start c.in_ok-way.ensures.way c.requires.heights).0

pub returns-clause-ends : goal.returns-clause-ends
returns-clause-ends c = (c.settle.ensures (hop_for c.args.fabric.now (tables_of c.args.cells.now) c.args.lid) (switch_count c.args.fabric.now) c.args.start c.in_ok-way.ensures.way c.requires.heights).1
