use Rattle.std.proofs.Common.{◌∙◌}
use Rattle.net_gen.proofs.MadeLemmas.{can_host, host_more}
use Rattle.net_gen.proofs.script.add_hosts.Goals as goal

pub add_host-requires : goal.add_host-requires
add_host-requires c = record {
  can = rw (c.places.invariant, c.in_ok-name.ensures, c.from.ensures) (can_host c.args.count c.places.place c.args.script.now.wires.links c.requires.most c.places-test.true c.requires.low);
}

pub places-preserved : goal.places-preserved
places-preserved c =
    c.in_ok-add_host.ensures.ok ∙ rw (c.places.invariant, c.in_ok-name.ensures, c.from.ensures) (host_more c.args.count c.places.place c.args.script.now.wires.links)
