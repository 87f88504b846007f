use Rattle.std.proofs.Common.{arith}
use Rattle.fabric_tables.specs.Cells.{tables_of}
use Rattle.fabric_mixtures.proofs.ChangedLemmas.{below_all, below_more}
use Rattle.fabric_mixtures.proofs.changed.count_changed.Goals as goal

pub lids-preserved : goal.lids-preserved
lids-preserved c =
    let i = c.lids.invariant in
    record {
      so_far = below_more c.args.fabric.now (tables_of c.args.old.now) (tables_of c.args.new.now) c.lids.lid c.lids.count c.count_for-count.result i.so_far c.count_for-count.ensures.count;
      few = (let before = i.few in let own = c.count_for-count.ensures.few in omega arith);
    }

pub returns : goal.returns
returns c = below_all c.args.fabric.now (tables_of c.args.old.now) (tables_of c.args.new.now) c.lids.lid c.lids.count (λ switch lid over. c.lids_of-lid-end.ensures.past switch lid (let past = c.lids-test.false in omega arith)) c.lids.invariant.so_far
