use Rattle.std.proofs.Common.{◌≡◌, ◌∙◌, sym, ap, subst, refl, ℕ, Some, true}
use Rattle.std.proofs.lemmas.Option.{same_Some}
use Rattle.topo_graph.specs.Topology.{far_of, place_of}
use Rattle.topo_graph.proofs.PlaceLemmas.{place_is}
use Rattle.updown.specs.Routes.{is_up_end}
use Rattle.updown.proofs.PlaceLemmas.{link_here}
use Rattle.updown.proofs.route.up_end.Goals as goal

pub unwrap-x-requires : goal.unwrap-x-requires
unwrap-x-requires c =
    let here = link_here c.args.graph.now c.args.life c.args.port c.place.ensures.graph c.requires in
    rw (c.place.ensures.place, here.3) refl

pub unwrap-y-requires : goal.unwrap-y-requires
unwrap-y-requires c =
    let here = link_here c.args.graph.now c.args.life c.args.port c.place.ensures.graph c.requires in
    let same : here.0 ≡ c.unwrap-x.result = same_Some here.0 c.unwrap-x.result (sym here.3 ∙ sym c.place.ensures.place ∙ c.unwrap-x.ensures) in
    let e : far_of c.args.graph.now c.unwrap-x.result c.args.port ≡ Some (here.1, here.2) = subst (λ (n : ℕ). far_of c.args.graph.now n c.args.port ≡ Some (here.1, here.2)) same here.4 in
    rw (c.far_place.ensures.far, e) refl

pub returns-then-is_up_end : goal.returns-then-is_up_end
returns-then-is_up_end c = λ x y q at e.
    let g = c.args.graph.now in
    let placed : place_of g c.args.life ≡ Some c.unwrap-x.result = sym c.place.ensures.place ∙ c.unwrap-x.ensures in
    let x_is : c.unwrap-x.result ≡ x = same_Some c.unwrap-x.result x (sym placed ∙ at) in
    let there : far_of g x c.args.port ≡ Some c.unwrap-y.result = subst (λ (n : ℕ). far_of g n c.args.port ≡ Some c.unwrap-y.result) x_is (sym c.far_place.ensures.far ∙ c.unwrap-y.ensures) in
    let y_is : c.unwrap-y.result.0 ≡ y = ap (λ (f : ℕ × ℕ). f.0) (same_Some c.unwrap-y.result (y, q) (sym there ∙ e)) in
    let up : is_up_end g x y ≡ true = subst (λ (n : ℕ). is_up_end g x n ≡ true) y_is (subst (λ (n : ℕ). is_up_end g n c.unwrap-y.result.0 ≡ true) x_is (sym c.is_up_end.ensures ∙ c.if-is_up_end.true)) in
    rw up (sym (place_is g x c.args.life at).1)
