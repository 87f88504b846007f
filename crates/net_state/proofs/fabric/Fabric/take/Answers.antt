use Rattle.net_state.proofs.StepLemmas.{take_free, taken_is, taken_held}
use Rattle.net_state.proofs.FitsLemmas.{take_fits}
use Rattle.net_state.proofs.LawfulLemmas.{lawful_in}
use Rattle.net_state.proofs.fabric.Fabric.take.Goals as goal

pub take-taken-requires-clause-link : goal.take-taken-requires-clause-link
take-taken-requires-clause-link c = (taken_is _ c.args.s c.args.port c.self.invariant.fits (lawful_in _ c.self.view_is c.requires)).link

pub take-taken-requires-clause-some : goal.take-taken-requires-clause-some
take-taken-requires-clause-some c = (taken_is _ c.args.s c.args.port c.self.invariant.fits (lawful_in _ c.self.view_is c.requires)).some

pub take-taken-requires-clause-none_held : goal.take-taken-requires-clause-none_held
take-taken-requires-clause-none_held c = (taken_is _ c.args.s c.args.port c.self.invariant.fits (lawful_in _ c.self.view_is c.requires)).none_held

pub take_frame-requires-clause-within : goal.take_frame-requires-clause-within
take_frame-requires-clause-within c = (take_free _ c.args.s c.args.port c.self.invariant.fits (lawful_in _ c.self.view_is c.requires)).within

pub take_frame-requires-clause-empty : goal.take_frame-requires-clause-empty
take_frame-requires-clause-empty c = (take_free _ c.args.s c.args.port c.self.invariant.fits (lawful_in _ c.self.view_is c.requires)).empty

pub invariant_of-self : goal.invariant_of-self
invariant_of-self c = rw (c.take_frame.ensures, c.event.ensures, c.take-taken.ensures.taken) (record { fits = take_fits _ c.args.s c.args.port c.self.invariant.fits (lawful_in _ c.self.view_is c.requires); most = c.self.invariant.most })

pub returns-clause-bytes : goal.returns-clause-bytes
returns-clause-bytes c = rw (c.take-taken.ensures.taken, c.take-taken.ensures.out) (taken_held _ c.args.s c.args.port c.self.invariant.fits (lawful_in _ c.self.view_is c.requires))
