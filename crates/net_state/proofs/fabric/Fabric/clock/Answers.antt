use Rattle.net_state.proofs.StepLemmas.{clock_free, clock_due}
use Rattle.net_state.proofs.FitsLemmas.{clock_fits}
use Rattle.std.specs.Prelude.{refl}
use Rattle.net_state.proofs.LawfulLemmas.{lawful_in}
use Rattle.net_state.proofs.fabric.Fabric.clock.Goals as goal

pub take_clock-requires-clause-within : goal.take_clock-requires-clause-within
take_clock-requires-clause-within c = (clock_free _ c.args.s c.self.invariant.fits (lawful_in _ c.self.view_is c.requires.lawful)).within

pub take_clock-requires-clause-empty : goal.take_clock-requires-clause-empty
take_clock-requires-clause-empty c = (clock_free _ c.args.s c.self.invariant.fits (lawful_in _ c.self.view_is c.requires.lawful)).empty

pub take_clock-requires-clause-due : goal.take_clock-requires-clause-due
take_clock-requires-clause-due c = clock_due _ c.args.s (lawful_in _ c.self.view_is c.requires.lawful)

pub invariant_of-self : goal.invariant_of-self
invariant_of-self c = rw (c.take_clock.ensures, c.event.ensures, c.requires.samples, ← c.self.view_is) (record { fits = clock_fits _ c.args.s c.self.invariant.fits (lawful_in _ c.self.view_is c.requires.lawful); most = c.self.invariant.most })

pub returns : goal.returns
returns c = rw (c.take_clock.ensures, c.event.ensures, c.requires.samples, ← c.self.view_is) refl
