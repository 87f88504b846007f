use Rattle.std.proofs.Common.{refl}
use Rattle.fabric_tables.specs.Cells.{tables_of}
use Rattle.fabric_counts.proofs.StepLemmas.{looping_more}
use Rattle.fabric_routes.specs.declared.hop.Outcome.TheVariants.{Loops}
use Rattle.fabric_counts.proofs.counts.Losses.add_loop.Goals as goal

pub returns-clause-losses : goal.returns-clause-losses
returns-clause-losses c = λ traffic sends ends are. looping_more c.args.fabric.now (tables_of c.args.cells.now) traffic c.args.lid c.args.source sends c.args.start c.requires.begins Loops ends c.args.self.now c.add.new.self are refl (c.add.ensures.loss traffic Loops tt sends ends are.looping)
