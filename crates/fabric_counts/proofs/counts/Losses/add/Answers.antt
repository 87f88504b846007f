use Rattle.std.proofs.Common.{ap, subst}
use Rattle.fabric_tables.specs.Cells.{tables_of}
use Rattle.fabric_counts.specs.Counts.{hop_for}
use Rattle.fabric_counts.proofs.StepLemmas.{dead_more, missing_more, wrong_more}
use Rattle.fabric_routes.specs.declared.hop.Cause.{Cause}
use Rattle.fabric_routes.specs.declared.hop.Cause.TheVariants.{Missing, Dead, Wrong}
use Rattle.fabric_routes.specs.declared.hop.Outcome.TheVariants.{Stops}
use Rattle.fabric_routes.specs.Routes.{EndsAs}
use Rattle.fabric_counts.proofs.counts.Losses.add.Goals as goal

pub returns-in-Missing-clause-losses : goal.returns-in-Missing-clause-losses
returns-in-Missing-clause-losses c = λ traffic sends ends are.
    let is = ap (λ (k : Cause). Stops k) c.in-Missing.is in
    missing_more c.args.fabric.now (tables_of c.args.cells.now) traffic c.args.lid c.args.source sends c.args.start c.requires.begins (Stops c.args.cause) ends c.args.self.now c.add.new.self are is
    (c.add.ensures.loss traffic (Stops Missing) tt sends (subst (EndsAs (hop_for c.args.fabric.now (tables_of c.args.cells.now) c.args.lid) c.args.start) is ends) are.missing)

pub returns-in-Dead-clause-losses : goal.returns-in-Dead-clause-losses
returns-in-Dead-clause-losses c = λ traffic sends ends are.
    let is = ap (λ (k : Cause). Stops k) c.in-Dead.is in
    dead_more c.args.fabric.now (tables_of c.args.cells.now) traffic c.args.lid c.args.source sends c.args.start c.requires.begins (Stops c.args.cause) ends c.args.self.now c.add-in-Dead.new.self are is
    (c.add-in-Dead.ensures.loss traffic (Stops Dead) tt sends (subst (EndsAs (hop_for c.args.fabric.now (tables_of c.args.cells.now) c.args.lid) c.args.start) is ends) are.dead)

pub returns-in-Wrong-clause-losses : goal.returns-in-Wrong-clause-losses
returns-in-Wrong-clause-losses c = λ traffic sends ends are.
    let is = ap (λ (k : Cause). Stops k) c.in-Wrong.is in
    wrong_more c.args.fabric.now (tables_of c.args.cells.now) traffic c.args.lid c.args.source sends c.args.start c.requires.begins (Stops c.args.cause) ends c.args.self.now c.add-in-Wrong.new.self are is
    (c.add-in-Wrong.ensures.loss traffic (Stops Wrong) tt sends (subst (EndsAs (hop_for c.args.fabric.now (tables_of c.args.cells.now) c.args.lid) c.args.start) is ends) are.wrong)
