use Rattle.fabric_model.proofs.fabric.Fabric.of.Goals as goal

pub bare_parts-requires : goal.bare_parts-requires
bare_parts-requires c = c.nodes.invariant.0
