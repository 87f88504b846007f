use Rattle.fabric_routes.specs.declared.audience.Audience.TheVariants.{Hosts, Everyone}
use Rattle.fabric_routes.proofs.SenderLemmas.{hosts_heard, starts_all}
use Rattle.fabric_routes.proofs.sender.starts_at.Goals as goal

pub returns : goal.returns
returns c = λ tables traffic are.
    let heard = hosts_heard c.args.fabric.now c.args.switch c.args.senders c.requires.senders in
    starts_all c.args.fabric.now tables traffic c.args.block c.args.targets are c.args.switch c.starts_of-hosts.result c.starts_of-everyone.result
    (c.starts_of-hosts.ensures Hosts c.args.switch heard)
    (c.starts_of-everyone.ensures Everyone c.args.switch (c.with_switch-all.ensures c.args.fabric.now c.requires.switch heard))
