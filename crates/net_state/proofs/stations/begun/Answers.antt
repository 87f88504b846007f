use Rattle.net_state.proofs.TallyLemmas.{begun_more}
use Rattle.net_state.proofs.stations.begun.Goals as goal

pub switches-preserved : goal.switches-preserved
switches-preserved c = begun_more c.args.wiring.now c.args.epoch c.switches.s c.begin.result c.switches.stations.items c.push.new.self.items c.switches.invariant (cc) c.in_ok-push.ensures.items
