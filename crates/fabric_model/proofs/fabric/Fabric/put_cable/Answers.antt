use Rattle.std.proofs.Common.{◌∙◌, ◌<◌, sym, subst, refl, length, set, Some}
use Rattle.fabric_model.specs.declared.node.Side.TheVariants.{End}
use Rattle.fabric_model.specs.Fabric.{FabricOf, switch_count}
use Rattle.fabric_model.specs.Nodes.{NodesOf}
use Rattle.fabric_model.specs.Sides.{IsSideSet}
use Rattle.fabric_model.proofs.FabricLemmas.{cable_fits, cabled_to, fabric_of}
use Rattle.fabric_model.proofs.fabric.Fabric.put_cable.Goals as goal

pub returns : goal.returns
returns c =
    let e = c.self.view_is in
    let nodes : NodesOf = record { switches = c.self.inside.switches.entries; ends = c.self.inside.ends.entries } in
    cabled_to c.args.self.now (fabric_of nodes c.self.inside.most c.self.inside.owners.items c.self.inside.sides.items c.self.inside.cables.items)
    (fabric_of nodes c.self.inside.most c.self.inside.owners.items c.self.inside.sides.items (set c.self.inside.cables.items c.args.end (Some c.args.spot)))
    c.args.end c.args.spot (subst (λ (v : FabricOf). IsSideSet c.args.self.now v c.args.spot (End c.args.end)) (sym e) c.put_side.ensures)
    (subst (λ (v : FabricOf). c.args.end < length v.cables) (sym (e ∙ c.put_side.ensures.rest)) c.requires.end) refl

pub invariant_of-self : goal.invariant_of-self
invariant_of-self c =
    let e = c.self.view_is in
    let nodes : NodesOf = record { switches = c.self.inside.switches.entries; ends = c.self.inside.ends.entries } in
    cable_fits nodes c.self.inside.most c.self.inside.owners.items c.self.inside.sides.items c.self.inside.cables.items c.args.end c.args.spot c.self.invariant
    (subst (λ (v : FabricOf). c.args.end < length v.cables) (sym (e ∙ c.put_side.ensures.rest)) c.requires.end)
    (subst (λ (v : FabricOf). c.args.spot.switch < switch_count v) (sym (e ∙ c.put_side.ensures.rest)) c.requires.switch)
