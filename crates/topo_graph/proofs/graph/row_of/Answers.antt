use Rattle.std.proofs.Common.{◌∙◌, ◌<◌, sym, subst, arith, length, List}
use Rattle.an_base.specs.Values.{PeerAt}
use Rattle.an_base.specs.Order.{PortsRise}
use Rattle.std.proofs.lemmas.List.{length-set}
use Rattle.topo_graph.proofs.RowLemmas.{row_more, far_more}
use Rattle.topo_graph.proofs.graph.row_of.Goals as goal

pub links-preserved : goal.links-preserved
links-preserved c =
    let at = c.from-in-links.ensures ∙ c.port.ensures.port in
    let fits : c.from-in-links.result < length c.links.cells = omega (arith, c.links.invariant.2, c.port.ensures) in
    let rising = subst (λ (ls : List PeerAt). PortsRise ls) (sym c.as_slice-link-items.ensures.all) c.as_slice-link-items.ensures.rising in (
      row_more c.args.entries.now c.args.x c.as_slice-link-items.result.now c.links.link-index c.from-in-links.result c.link-item.result c.links.cells c.far_end.result rising (omega arith) c.link-item.is at fits c.links.invariant.0 c.far_end.ensures.far,
      far_more c.args.entries.now c.args.x c.link-item.result.port c.from-in-links.result c.links.cells c.far_end.result at fits c.links.invariant.1 c.far_end.ensures.range,
      length-set c.links.cells c.from-in-links.result c.far_end.result ∙ c.links.invariant.2,
    )
