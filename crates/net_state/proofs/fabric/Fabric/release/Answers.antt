use Rattle.net_state.specs.Kept.{fabric_of_all}
use Rattle.net_state.proofs.FitsLemmas.{emptied_fits}
use Rattle.std.specs.Prelude.{◌≡◌, true, ◌<◌}
use Rattle.net_state.specs.Fabric.{is_full_at, count}
use Rattle.net_state.proofs.fabric.Fabric.release.Goals as goal

pub give_up-requires : goal.give_up-requires
give_up-requires c =
    let f = fabric_of_all c.self.inside.plan c.self.inside.wires c.self.inside.stations c.self.inside.traffic c.self.inside.sent c.self.inside.past in
    let below : c.args.s < count f = rw (← c.self.view_is) at c.requires.within in
    rw (c.hand-hand.ensures, c.station.ensures, ← c.self.view_is) (c.self.invariant.fits.hands c.args.s below).holds

pub invariant_of-self : goal.invariant_of-self
invariant_of-self c =
    let f = fabric_of_all c.self.inside.plan c.self.inside.wires c.self.inside.stations c.self.inside.traffic c.self.inside.sent c.self.inside.past in
    let below : c.args.s < count f = rw (← c.self.view_is) at c.requires.within in
    let full : is_full_at f c.args.s ≡ true = rw (← c.self.view_is) at c.requires.full in
    rw (c.empty.ensures, c.give_up.ensures, c.hand-hand.ensures, c.station.ensures, ← c.self.view_is)
    (record { fits = emptied_fits f c.args.s c.self.invariant.fits below full; most = c.self.invariant.most })
