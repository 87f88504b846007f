use Rattle.std.proofs.Common.{subst, sym}
use Rattle.net_world.specs.Histories.{IsLawful}
use Rattle.fabric_book.specs.Nets.{NetOf}
use Rattle.net_world.proofs.CountLemmas.{lawful_more}
use Rattle.replay.proofs.world.step.Goals as goal

pub returns-in-Ok-clause-lawful : goal.returns-in-Ok-clause-lawful
returns-in-Ok-clause-lawful c =
    let net = c.args.net.now in
    subst (λ (n : NetOf). IsLawful n.script n.events) (sym c.in-Ok.ensures.stepped) (lawful_more net.script net.events c.args.event.now c.requires.lawful c.in-Ok.ensures.lawful)
