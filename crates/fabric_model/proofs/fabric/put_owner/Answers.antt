use Rattle.std.proofs.Common.{◌∙◌, Some, arith, length-set}
use Rattle.fabric_model.proofs.OwnerLemmas.{puts_all, puts_more, puts_none}
use Rattle.fabric_model.proofs.fabric.put_owner.Goals as goal

pub lids-init : goal.lids-init
lids-init c = record { count = c.requires.count; puts = puts_none c.args.owners.now.items c.args.lids.base c.args.owner }

pub lids-preserved : goal.lids-preserved
lids-preserved c =
    let count = c.lids.invariant.count in
    let low = c.end_of-end.ensures.low in
    record {
      count = length-set c.lids.owners.items c.lids.lid (Some c.args.owner) ∙ c.lids.invariant.count;
      puts = puts_more c.args.owners.now.items c.lids.owners.items c.args.lids.base c.lids.lid c.args.owner (omega arith) (omega arith) c.lids.invariant.puts;
    }

pub returns-clause-puts : goal.returns-clause-puts
returns-clause-puts c =
    let is = c.end_of-end.ensures.end in
    puts_all c.args.lids c.args.owners.now.items c.lids.owners.items c.lids.lid c.args.owner (omega arith) (omega arith) c.lids.invariant.puts
