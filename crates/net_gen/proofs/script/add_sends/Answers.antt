use Rattle.std.proofs.Common.{◌∙◌}
use Rattle.net_gen.proofs.MadeLemmas.{can_send, send_more}
use Rattle.net_gen.proofs.script.add_sends.Goals as goal

pub add_command-requires : goal.add_command-requires
add_command-requires c = record {
  can = rw (c.places.invariant, c.from.ensures, c.from-in-places.ensures) (can_send c.args.script.now c.args.count c.places.place c.args.time c.requires.made c.requires.can c.places-test.true c.requires.most);
}

pub places-preserved : goal.places-preserved
places-preserved c =
    c.in_ok-add_command.ensures.ok ∙ rw (c.places.invariant, c.from.ensures, c.from-in-places.ensures) (send_more c.args.script.now c.args.count c.places.place c.args.time)
