use Rattle.net_state.proofs.StepLemmas.{load_free}
use Rattle.net_state.proofs.FitsLemmas.{load_fits}
use Rattle.net_state.proofs.LawfulLemmas.{lawful_in}
use Rattle.net_state.proofs.fabric.Fabric.load.Goals as goal

pub load-requires : goal.load-requires
load-requires c = record { within = (load_free _ c.args.s c.self.invariant.fits (lawful_in _ c.self.view_is c.requires)).within }

pub invariant_of-self : goal.invariant_of-self
invariant_of-self c = rw (c.load.ensures, c.event.ensures) (record { fits = load_fits _ c.args.s c.args.table c.args.note.now c.self.invariant.fits (lawful_in _ c.self.view_is c.requires); most = c.self.invariant.most })
