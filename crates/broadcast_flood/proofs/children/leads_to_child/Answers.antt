use Rattle.std.proofs.Common.{◌≡◌, ◌∙◌, sym, ap, eqb-true, eq-eqb}
use Rattle.an_base.specs.Values.{Place}
use Rattle.broadcast_flood.specs.Tree.{parent_port}
use Rattle.broadcast_flood.proofs.ChildLemmas.{is_child, child_is, no_child}
use Rattle.broadcast_flood.proofs.children.leads_to_child.Goals as goal

pub returns-in-Some : goal.returns-in-Some
returns-in-Some c =
    let es = c.args.graph.now in
    let at : c.result.inside.port ≡ parent_port es c.in-Some.child = ap (λ (p : Place). p.port) (c.result.view_is ∙ c.position.ensures) in
    let far = sym c.in-Some.ensures.far in (
      λ test. is_child es c.args.x c.args.port c.in-Some.child c.in-Some.far_port c.requires far (sym at ∙ eqb-true c.result.inside.port c.in-Some.far_port test),
      λ down. eq-eqb c.result.inside.port c.in-Some.far_port (at ∙ child_is es c.args.x c.args.port c.in-Some.child c.in-Some.far_port c.requires far down),
    )

pub returns-in-None : goal.returns-in-None
returns-in-None c = (λ no. absurd (cc), λ down. absurd (no_child c.args.graph.now c.args.x c.args.port c.requires (sym c.in-None.ensures.far) down))
