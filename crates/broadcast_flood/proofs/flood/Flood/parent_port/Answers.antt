use Rattle.std.proofs.Common.{◌≡◌, ◌∙◌, sym, ap, subst, refl, List, Some}
use Rattle.an_base.specs.Values.{Place, EntryOf}
use Rattle.topo_graph.specs.Topology.{life_at, place_of}
use Rattle.broadcast_flood.specs.Tree.{parent_port, IsParentPort}
use Rattle.broadcast_flood.proofs.RootLemmas.{root_port, no_port_root, port_up}
use Rattle.broadcast_flood.proofs.flood.Flood.parent_port.Goals as goal

-- where the entry has no port it is the root's
pub returns-then-port-eq0-clause-none : goal.returns-then-port-eq0-clause-none
returns-then-port-eq0-clause-none c =
    let inside = c.self.inside.graph.now in
    let at : place_of inside c.args.life ≡ Some c.unwrap-x.result = sym c.place.ensures.place ∙ c.unwrap-x.ensures in
    let port : c.port.inside.port ≡ parent_port inside c.unwrap-x.result = ap (λ (p : Place). p.port) (c.port.view_is ∙ c.position.ensures) in
    let root = no_port_root inside c.args.life c.unwrap-x.result c.self.invariant.graph c.self.invariant.tree at (sym port ∙ c.if-port-eq0.true) in
    (λ _. root ∙ ap (λ (es : List EntryOf). life_at es 0) c.self.view_is, λ _. refl)

pub returns-else-port-eq0-clause-none : goal.returns-else-port-eq0-clause-none
returns-else-port-eq0-clause-none c =
    let inside = c.self.inside.graph.now in
    let at : place_of inside c.args.life ≡ Some c.unwrap-x.result = sym c.place.ensures.place ∙ c.unwrap-x.ensures in
    let port : c.port.inside.port ≡ parent_port inside c.unwrap-x.result = ap (λ (p : Place). p.port) (c.port.view_is ∙ c.position.ensures) in (
      λ no. absurd (cc),
      λ root. absurd (
          let none = root_port inside c.args.life c.unwrap-x.result c.self.invariant.graph c.self.invariant.tree at (root ∙ sym (ap (λ (es : List EntryOf). life_at es 0) c.self.view_is)) in
          c.if-port-eq0.false (port ∙ none)),
    )

pub returns-else-port-eq0-clause-port : goal.returns-else-port-eq0-clause-port
returns-else-port-eq0-clause-port c =
    let inside = c.self.inside.graph.now in
    let at : place_of inside c.args.life ≡ Some c.unwrap-x.result = sym c.place.ensures.place ∙ c.unwrap-x.ensures in
    let port : c.port.inside.port ≡ parent_port inside c.unwrap-x.result = ap (λ (p : Place). p.port) (c.port.view_is ∙ c.position.ensures) in
    subst (λ (es : List EntryOf). IsParentPort es c.args.life c.port.inside.port) c.self.view_is
    (port_up inside c.args.life c.unwrap-x.result c.self.invariant.graph c.self.invariant.tree at c.port.inside.port port c.if-port-eq0.false)
