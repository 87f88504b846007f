use Rattle.std.proofs.Common.{◌∙◌, sym}
use Rattle.net_gen.proofs.LinkLemmas.{lowest_is}
use Rattle.net_gen.proofs.MadeLemmas.{can_link}
use Rattle.net_gen.proofs.script.link.Goals as goal

pub add_link-requires : goal.add_link-requires
add_link-requires c =
    let script = c.args.script.now in
    let p = c.in-Some-Some.a_port in
    let q = c.in-Some-Some.b_port in
    record {
      can = can_link script c.args.a c.args.b p q c.requires.none c.requires.a c.requires.b c.requires.apart
          (lowest_is script.wires.links c.args.a p (sym c.lowest_free.ensures ∙ c.in-Some-Some.is-0))
          (lowest_is script.wires.links c.args.b q (sym c.lowest_free-2.ensures ∙ c.in-Some-Some.is-1));
    }
