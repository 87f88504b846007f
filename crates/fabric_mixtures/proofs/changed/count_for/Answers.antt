use Rattle.std.proofs.Common.{ap, ℕ, ◌+◌, arith}
use Rattle.fabric_tables.specs.Cells.{tables_of}
use Rattle.fabric_mixtures.proofs.ChangedLemmas.{few_more, for_more, for_none}
use Rattle.fabric_mixtures.proofs.changed.count_for.Goals as goal

pub switches-init : goal.switches-init
switches-init c = record { so_far = for_none c.args.fabric.now (tables_of c.args.old.now) (tables_of c.args.new.now) c.args.lid; few = omega arith }

pub switches-preserved : goal.switches-preserved
switches-preserved c =
    let i = c.switches.invariant in
    let sum = ap (λ (n : ℕ). c.switches.count + n) c.from-count.ensures in
    record {
      so_far = for_more c.args.fabric.now (tables_of c.args.old.now) (tables_of c.args.new.now) c.args.lid c.switches.switch c.switches.count _ c.differs.result sum (omega arith) c.differs.ensures i.so_far;
      few = few_more c.switches.switch c.switches.count _ c.differs.result sum i.few;
    }
