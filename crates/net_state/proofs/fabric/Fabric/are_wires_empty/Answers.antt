use Rattle.net_state.specs.Kept.{fabric_of_all}
use Rattle.net_state.proofs.EmptyLemmas.{wires_empty_is}
use Rattle.net_state.specs.Fabric.{full_hands}
use Rattle.std.specs.Prelude.{◌≡◌}
use Rattle.net_state.proofs.fabric.Fabric.are_wires_empty.Goals as goal

pub returns : goal.returns
returns c =
    let f = fabric_of_all c.self.inside.plan c.self.inside.wires c.self.inside.stations c.self.inside.traffic c.self.inside.sent c.self.inside.past in
    let none : full_hands f ≡ 0 = rw (← c.self.view_is) at c.requires in
    rw (c.free.ensures.free, c.limits.ensures.limits, ← c.self.view_is) (wires_empty_is f c.self.invariant.fits none)
