use Rattle.net_state.specs.Kept.{fabric_of_all}
use Rattle.net_state.proofs.FitsLemmas.{shows_fits}
use Rattle.net_state.specs.Fabric.{count, full_hands}
use Rattle.std.specs.Prelude.{◌<◌, ◌+◌}
use Rattle.net_state.proofs.fabric.Fabric.show.Goals as goal

pub invariant_of-self : goal.invariant_of-self
invariant_of-self c =
    let f = fabric_of_all c.self.inside.plan c.self.inside.wires c.self.inside.stations c.self.inside.traffic c.self.inside.sent c.self.inside.past in
    let below : c.args.s < count f = rw (← c.self.view_is) at c.requires.within in
    let room : f.events + full_hands f < f.script.limits.events = rw (← c.self.view_is) at c.requires.room in
    rw (c.show.ensures, c.event.ensures) (record { fits = shows_fits f c.args.s c.args.note.now c.args.spent c.self.invariant.fits below room; most = c.self.invariant.most })
