use Rattle.std.proofs.Common.{arith}
use Rattle.fabric_model.proofs.NewLemmas.{most_all, most_more}
use Rattle.fabric_model.proofs.fabric.most_ports.Goals as goal

pub switches-preserved : goal.switches-preserved
switches-preserved c =
    let is = c.max-most.ensures in
    record {
      all = most_all c.args.switches.now.entries c.switches.place c.switches.most c.ports_at.result c.max-most.result c.ports_at.ensures.at (grind (arith, is)) (grind (arith, is)) c.switches.invariant.all;
      some = most_more c.args.switches.now.entries c.switches.place c.switches.most c.ports_at.result c.max-most.result (omega arith) c.ports_at.ensures.at is c.switches.invariant.some;
      low = grind (arith, is);
    }
