use Rattle.std.proofs.Common.{◌∙◌, arith}
use Rattle.net_gen.proofs.MadeLemmas.{can_switch, switch_more}
use Rattle.net_gen.proofs.script.add_switches.Goals as goal

pub add_switch-requires : goal.add_switch-requires
add_switch-requires c = record {
  can = rw (c.places.invariant, c.in_ok-name.ensures, c.from.ensures) (can_switch c.places.place (omega (arith, c.places-test.true, c.requires.most)));
}

pub places-preserved : goal.places-preserved
places-preserved c =
    c.in_ok-add_switch.ensures.ok ∙ rw (c.places.invariant, c.in_ok-name.ensures, c.from.ensures) (switch_more c.places.place)
