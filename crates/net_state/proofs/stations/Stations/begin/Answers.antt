use Rattle.std.proofs.Common.{◌∙◌, length}
use Rattle.net_state.proofs.TallyLemmas.{begun_tally}
use Rattle.net_state.proofs.stations.Stations.begin.Goals as goal

pub invariant_of-result : goal.invariant_of-result
invariant_of-result c = begun_tally c.args.wiring.now c.args.epoch (length c.args.wiring.now.switches) c.in_ok-items.items.items c.from.result c.in_ok-items.ensures (c.from.ensures ∙ c.count.ensures.count) c.count.ensures.wired.count
