use Rattle.std.proofs.Common.{◌+◌, ◌-◌, ◌*◌, ◌<◌, arith, sym, ap, subst, ℕ, length, set}
use Rattle.fabric_model.specs.Fabric.{FabricOf, IsPort, LeadsWithin, switch_count}
use Rattle.fabric_model.specs.Nodes.{NodesOf}
use Rattle.fabric_model.specs.Sides.{IsSideSet}
use Rattle.fabric_model.proofs.FabricLemmas.{fabric_of, side_fits, side_low, side_put, small_of}
use Rattle.fabric_model.proofs.fabric.Fabric.put_side.Goals as goal

pub pack-requires : goal.pack-requires
pack-requires c = small_of (length c.self.inside.switches.entries) c.args.side c.self.invariant.few (subst (λ (v : FabricOf). LeadsWithin (switch_count v) c.args.side) (sym c.self.view_is) c.requires.within) c.requires.small

pub index_mut-requires : goal.index_mut-requires
index_mut-requires c =
    let e = c.self.view_is in
    let nodes : NodesOf = record { switches = c.self.inside.switches.entries; ends = c.self.inside.ends.entries } in
    let ok = c.self.inside.sides.ok.0 in
    let low = side_low nodes c.self.inside.most c.self.inside.owners.items c.self.inside.sides.items c.self.inside.cables.items c.args.spot c.pack.result (c.args.spot.switch * c.self.inside.most + (c.from.result - 1)) c.self.invariant
    (subst (λ (v : FabricOf). c.args.spot.switch < switch_count v) (sym e) c.requires.switch) (subst (λ (v : FabricOf). IsPort v c.args.spot) (sym e) c.requires.port) (ap (λ (p : ℕ). c.args.spot.switch * c.self.inside.most + (p - 1)) c.from.ensures) in
    omega arith

pub returns : goal.returns
returns c =
    let e = c.self.view_is in
    let nodes : NodesOf = record { switches = c.self.inside.switches.entries; ends = c.self.inside.ends.entries } in
    subst (λ (v : FabricOf). IsSideSet v (fabric_of nodes c.self.inside.most c.self.inside.owners.items (set c.self.inside.sides.items (c.args.spot.switch * c.self.inside.most + (c.from.result - 1)) c.pack.result) c.self.inside.cables.items) c.args.spot c.args.side) e
    (side_put nodes c.self.inside.most c.self.inside.owners.items c.self.inside.sides.items c.self.inside.cables.items c.args.spot c.pack.result (c.args.spot.switch * c.self.inside.most + (c.from.result - 1)) c.self.invariant
    (subst (λ (v : FabricOf). c.args.spot.switch < switch_count v) (sym e) c.requires.switch) (subst (λ (v : FabricOf). IsPort v c.args.spot) (sym e) c.requires.port) (ap (λ (p : ℕ). c.args.spot.switch * c.self.inside.most + (p - 1)) c.from.ensures)
    c.args.side c.pack.ensures)

pub invariant_of-self : goal.invariant_of-self
invariant_of-self c =
    let e = c.self.view_is in
    let nodes : NodesOf = record { switches = c.self.inside.switches.entries; ends = c.self.inside.ends.entries } in
    side_fits nodes c.self.inside.most c.self.inside.owners.items c.self.inside.sides.items c.self.inside.cables.items c.args.spot c.pack.result (c.args.spot.switch * c.self.inside.most + (c.from.result - 1)) c.self.invariant
    (subst (λ (v : FabricOf). c.args.spot.switch < switch_count v) (sym e) c.requires.switch) (subst (λ (v : FabricOf). IsPort v c.args.spot) (sym e) c.requires.port) (ap (λ (p : ℕ). c.args.spot.switch * c.self.inside.most + (p - 1)) c.from.ensures)
    (subst (LeadsWithin (length c.self.inside.switches.entries)) (sym c.pack.ensures) (subst (λ (v : FabricOf). LeadsWithin (switch_count v) c.args.side) (sym e) c.requires.within))
