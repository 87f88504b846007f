use Rattle.std.proofs.Common.{◌≡◌, ◌∙◌, sym, subst, ℕ, Some}
use Rattle.std.proofs.lemmas.Option.{same_Some}
use Rattle.an_base.specs.Values.{LifeId}
use Rattle.topo_graph.specs.Topology.{IsLink, far_of, end_at}
use Rattle.topo_graph.proofs.PlaceLemmas.{place_found, place_is}
use Rattle.topo_graph.proofs.FarLemmas.{far_is_link, link_is_far}
use Rattle.topo_graph.proofs.graph.Graph.far.Goals as goal

pub returns-in_err-x : goal.returns-in_err-x
returns-in_err-x c =
    rw c.from_residual.ensures (λ b link.
    let far = link_is_far c.args.self.now _ b c.in_err-x.ensures.graph link in
    let placed = place_found c.args.self.now far.0 c.args.life c.in_err-x.ensures.graph.rising far.2 far.4 in
    let none = c.in_err-x.ensures.place in
    absurd (cc))

pub returns-in_err-y : goal.returns-in_err-y
returns-in_err-y c =
    rw c.from_residual-in_err-y.ensures (λ b link.
    let far = link_is_far c.args.self.now _ b c.in_err-y.ensures.graph link in
    let placed = place_found c.args.self.now far.0 c.args.life c.in_err-y.ensures.graph.rising far.2 far.4 in
    let none = c.in_err-y.ensures.far in
    let same : far.0 ≡ c.in_ok-x.x = same_Some far.0 c.in_ok-x.x (sym placed ∙ sym c.in_ok-x.ensures.place) in
    let there : far_of c.args.self.now c.in_ok-x.x c.args.port ≡ Some (far.1, b.port) = subst (λ (n : ℕ). far_of c.args.self.now n c.args.port ≡ Some (far.1, b.port)) same far.6 in
    absurd (cc))

pub returns : goal.returns
returns c =
    let link = far_is_link c.args.self.now c.in_ok-x.x c.args.port c.in_ok-y.y c.in_ok-y.q c.in_ok-y.ensures.graph.rising (sym c.in_ok-y.ensures.far) in
    let at = (place_is c.args.self.now c.in_ok-x.x c.args.life (sym c.in_ok-x.ensures.place)).1 in
    rw (c.new.ensures, c.life.ensures)
    (subst (λ (f : LifeId). IsLink c.args.self.now (record { life = f; port = c.args.port }) (end_at c.args.self.now c.in_ok-y.y c.in_ok-y.q)) at link.2)
