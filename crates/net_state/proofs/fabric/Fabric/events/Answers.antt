use Rattle.net_state.specs.Kept.{fabric_of_all}
use Rattle.net_state.proofs.StepLemmas.{events_most}
use Rattle.net_state.proofs.fabric.Fabric.events.Goals as goal

pub returns-clause-most : goal.returns-clause-most
returns-clause-most c =
    events_most (fabric_of_all c.self.inside.plan c.self.inside.wires c.self.inside.stations c.self.inside.traffic c.self.inside.sent c.self.inside.past) c.self.invariant.fits

pub returns-clause-kept : goal.returns-clause-kept
returns-clause-kept c = rw (← c.self.view_is) c.self.invariant.fits.script
