use Rattle.std.proofs.Common.{◌∙◌, sym}
use Rattle.std.proofs.lemmas.Bool.{eqb-false}
use Rattle.net_graph.specs.Wires.{network}
use Rattle.net_graph.proofs.LinkLemmas.{one_link}
use Rattle.net_graph.proofs.tree.push_link.Goals as goal

pub returns : goal.returns
returns c =
    rw (c.push.ensures, c.new-2.ensures, c.new.ensures, c.life.ensures, c.as_u8.ensures, c.as_u8-2.ensures)
    (one_link (network c.args.wiring.now) c.args.x c.args.port c.in-Some.y c.in-Some.q c.args.links.now c.requires (eqb-false c.in-Some.y c.args.x (sym c.eq.ensures ∙ c.if-eq.false)) (sym c.link_end.ensures.far ∙ c.in-Some.is))
