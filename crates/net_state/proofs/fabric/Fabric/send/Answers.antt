use Rattle.net_state.proofs.StepLemmas.{send_room, all_lower}
use Rattle.net_state.proofs.FitsLemmas.{send_fits}
use Rattle.std.specs.Prelude.{refl}
use Rattle.net_state.proofs.LawfulLemmas.{lawful_in}
use Rattle.net_state.proofs.fabric.Fabric.send.Goals as goal

pub admit-requires-clause-room : goal.admit-requires-clause-room
admit-requires-clause-room c = rw (c.self.invariant.most) (send_room _ c.args.host c.args.to c.self.invariant.fits (lawful_in _ c.self.view_is c.requires))

pub admit-requires-clause-above : goal.admit-requires-clause-above
admit-requires-clause-above c = all_lower _ c.self.invariant.fits

pub invariant_of-self : goal.invariant_of-self
invariant_of-self c =
    rw (c.admit.ensures, c.command.ensures, c.address_for-address.ensures.address, c.host-from.ensures, c.host-target.ensures, ← c.self.view_is)
    (record { fits = send_fits _ c.args.host c.args.to c.self.invariant.fits (lawful_in _ c.self.view_is c.requires); most = c.self.invariant.most })

pub returns-clause-sent : goal.returns-clause-sent
returns-clause-sent c =
    rw (c.admit.ensures, c.command.ensures, c.address_for-address.ensures.address, c.host-from.ensures, c.host-target.ensures, ← c.self.view_is) refl
