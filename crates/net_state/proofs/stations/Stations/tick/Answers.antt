use Rattle.std.proofs.Common.{arith}
use Rattle.net_state.proofs.TallyLemmas.{ticked}
use Rattle.net_state.proofs.stations.Stations.tick.Goals as goal

pub invariant_of-self : goal.invariant_of-self
invariant_of-self c =
    let room = rw (← c.self.view_is) at c.requires.room in
    ticked c.self.inside.tick c.self.inside.items.items c.self.inside.tally c.len.result (omega (arith, c.len.ensures)) room c.self.invariant
