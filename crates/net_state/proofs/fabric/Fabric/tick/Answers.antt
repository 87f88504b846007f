use Rattle.net_state.proofs.StepLemmas.{tick_next}
use Rattle.net_state.proofs.FitsLemmas.{tick_fits}
use Rattle.net_state.proofs.LawfulLemmas.{lawful_in}
use Rattle.net_state.proofs.fabric.Fabric.tick.Goals as goal

pub tick-requires-clause-none_due : goal.tick-requires-clause-none_due
tick-requires-clause-none_due c = (tick_next _ c.self.invariant.fits (lawful_in _ c.self.view_is c.requires)).none_due

pub tick-requires-clause-room : goal.tick-requires-clause-room
tick-requires-clause-room c = (tick_next _ c.self.invariant.fits (lawful_in _ c.self.view_is c.requires)).room

pub invariant_of-self : goal.invariant_of-self
invariant_of-self c = rw (c.tick.ensures, c.tick-2.ensures) (record { fits = tick_fits _ c.self.invariant.fits (lawful_in _ c.self.view_is c.requires); most = c.self.invariant.most })
