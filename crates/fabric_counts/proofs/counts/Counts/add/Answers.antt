use Rattle.std.proofs.Common.{◌∙◌, subst}
use Rattle.fabric_tables.specs.Cells.{tables_of}
use Rattle.fabric_counts.specs.Counts.{hop_for}
use Rattle.fabric_counts.proofs.StepLemmas.{one_arrives, one_lost}
use Rattle.fabric_routes.specs.Routes.{EndsAs}
use Rattle.fabric_counts.proofs.counts.Counts.add.Goals as goal

pub returns-in-Arrives-clause-counts : goal.returns-in-Arrives-clause-counts
returns-in-Arrives-clause-counts c = λ traffic sends ends are. one_arrives c.args.fabric.now (tables_of c.args.cells.now) traffic c.args.lid c.args.source sends c.args.start c.requires.begins c.args.outcome ends c.in-Arrives.switches c.max-self.result c.args.self.now c.unowned_of.result c.in-Arrives.is c.max-self.ensures c.unowned_of.ensures.count are

pub returns-in-Stops-clause-counts : goal.returns-in-Stops-clause-counts
returns-in-Stops-clause-counts c = λ traffic sends ends are.
    one_lost c.args.fabric.now (tables_of c.args.cells.now) traffic c.args.lid c.args.source sends c.args.start c.requires.begins c.args.outcome ends c.args.self.now c.add.new.self (λ switches e. (let f = e ∙ c.in-Stops.is in absurd (cc))) c.add.ensures.sum
    (c.add.ensures.losses traffic sends (subst (EndsAs (hop_for c.args.fabric.now (tables_of c.args.cells.now) c.args.lid) c.args.start) c.in-Stops.is ends) are.lost) are

pub returns-in-Loops-clause-counts : goal.returns-in-Loops-clause-counts
returns-in-Loops-clause-counts c = λ traffic sends ends are.
    one_lost c.args.fabric.now (tables_of c.args.cells.now) traffic c.args.lid c.args.source sends c.args.start c.requires.begins c.args.outcome ends c.args.self.now c.add_loop.new.self (λ switches e. (let f = e ∙ c.in-Loops.is in absurd (cc))) c.add_loop.ensures.sum
    (c.add_loop.ensures.losses traffic sends (subst (EndsAs (hop_for c.args.fabric.now (tables_of c.args.cells.now) c.args.lid) c.args.start) c.in-Loops.is ends) are.lost) are
