use Rattle.net_state.specs.Kept.{fabric_of_all}
use Rattle.net_state.proofs.StepLemmas.{restart_free}
use Rattle.net_state.proofs.FitsLemmas.{restart_fits}
use Rattle.net_state.specs.Starts.{next_note_at}
use Rattle.net_state.proofs.LawfulLemmas.{lawful_in}
use Rattle.net_state.proofs.fabric.Fabric.restart.Goals as goal

pub next_life-life-requires-clause-within : goal.next_life-life-requires-clause-within
next_life-life-requires-clause-within c = rw (← c.self.view_is) (restart_free _ c.args.s c.self.invariant.fits (lawful_in _ c.self.view_is c.requires.lawful)).switch

pub restart-requires : goal.restart-requires
restart-requires c = record { within = (restart_free _ c.args.s c.self.invariant.fits (lawful_in _ c.self.view_is c.requires.lawful)).within }

pub invariant_of-self : goal.invariant_of-self
invariant_of-self c =
    let f = fabric_of_all c.self.inside.plan c.self.inside.wires c.self.inside.stations c.self.inside.traffic c.self.inside.sent c.self.inside.past in
    rw (c.restart.ensures, c.command.ensures, c.started_note.ensures, c.next_life-life.ensures, c.epoch.ensures, ← c.self.view_is)
    (record { fits = restart_fits f c.args.s (next_note_at f c.args.s) c.self.invariant.fits (lawful_in _ c.self.view_is c.requires.lawful); most = c.self.invariant.most })
