use Rattle.std.proofs.Common.{◌≡◌, Some, arith, rules}
use Rattle.fabric_model.specs.declared.node.EndPort.TheVariants as port
use Rattle.fabric_model.specs.Fabric.{owner_of}
use Rattle.fabric_read_lanes.proofs.OwnerLemmas.{owner_low}
use Rattle.fabric_read_lanes.proofs.lane_reading.asked_of.Goals as goal

pub returns-in-Some-Switch-clause-within : goal.returns-in-Some-Switch-clause-within
returns-in-Some-Switch-clause-within c =
    let at : owner_of c.args.fabric.now c.args.lid ≡ Some (port.Switch c.in-Some-Switch.switch) = first_of (cc, grind arith, search rules) in
    owner_low c.args.fabric.now c.most-most.ensures.fabric c.args.lid c.in-Some-Switch.switch at
