use Rattle.std.proofs.Common.{◌+◌, refl}
use Rattle.fabric_tables.specs.Cells.{tables_of}
use Rattle.fabric_counts.proofs.StepLemmas.{told_before, told_now}
use Rattle.fabric_counts.proofs.counts.Loss.add.Goals as goal

pub returns-then-not-is_less-clause-loss : goal.returns-then-not-is_less-clause-loss
returns-then-not-is_less-clause-loss c = λ traffic outcome lost sends ends is. told_before c.args.fabric.now (tables_of c.args.cells.now) traffic c.args.lid c.args.source sends c.args.start c.requires.begins outcome ends (c.args.self.now.count + 1) c.args.self.now refl (λ lesser. absurd (let t = c.is_less.ensures.1 lesser in let f = c.if-not-is_less.true in cc)) is

pub returns-clause-loss : goal.returns-clause-loss
returns-clause-loss c = λ traffic outcome lost sends ends is. told_now c.args.fabric.now (tables_of c.args.cells.now) traffic c.args.lid c.args.source sends c.args.start c.requires.begins outcome ends (c.args.self.now.count + 1) c.args.self.now c.lost_at-at.result refl (c.is_less.ensures.0 c.if-not-is_less.false) (c.lost_at-at.ensures.lost outcome lost ends) is
