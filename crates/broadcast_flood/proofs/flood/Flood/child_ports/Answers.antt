use Rattle.std.proofs.Common.{◌≡◌, ◌∙◌, sym, ap, subst, List, [], Some, ℕ, ◌<◌, arith, get_or, length}
use Rattle.std.proofs.lemmas.List.{get_or_default}
use Rattle.an_base.specs.Values.{EntryOf}
use Rattle.topo_graph.specs.Topology.{place_of}
use Rattle.topo_graph.proofs.PlaceLemmas.{place_is}
use Rattle.broadcast_flood.specs.Tree.{AreChildPorts, AreChildPortsOf}
use Rattle.broadcast_flood.proofs.flood.Flood.child_ports.Goals as goal

pub returns : goal.returns
returns c =
    let inside = c.self.inside.graph.now in
    let x = c.unwrap-x.result in
    let at : place_of inside c.args.life ≡ Some x = sym c.place.ensures.place ∙ c.unwrap-x.ensures in
    let low = (place_is inside x c.args.life at).0 in
    let children = c.self.inside.children.items in
    let few : x < length children = omega (arith, c.self.invariant.children.count) in
    let ports = c.as_slice.ensures.all ∙ c.index-ports.ensures ∙ ap (λ (n : ℕ). get_or children n c.index-ports.result.now) c.from.ensures ∙ get_or_default children x c.index-ports.result.now [] few in
    subst (λ (es : List EntryOf). AreChildPortsOf es c.args.life c.as_slice.result.now) c.self.view_is
    (x, at, subst (λ (ps : List ℕ). AreChildPorts inside x ps) (sym ports) (c.self.invariant.children.each x low))
