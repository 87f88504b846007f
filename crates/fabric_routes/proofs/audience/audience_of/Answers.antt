use Rattle.std.proofs.Common.{◌≡◌, Some}
use Rattle.fabric_model.specs.declared.node.EndPort.TheVariants.{Host, Switch}
use Rattle.fabric_model.specs.Fabric.{owner_of}
use Rattle.fabric_tables.specs.Cells.{tables_of}
use Rattle.fabric_routes.proofs.audience.audience_of.Goals as goal

pub returns-in-Some-Host : goal.returns-in-Some-Host
returns-in-Some-Host c =
    let owns : owner_of c.args.fabric.now c.args.lid ≡ Some (Host c.in-Some-Host.end) = cc (c.owner.ensures, c.in-Some-Host.is) in
    c.audience_of_host.ensures (tables_of c.args.cells.now) c.args.lid owns

pub returns-in-Some-Switch : goal.returns-in-Some-Switch
returns-in-Some-Switch c =
    let owns : owner_of c.args.fabric.now c.args.lid ≡ Some (Switch c.in-Some-Switch.field-0-0) = cc (c.owner.ensures, c.in-Some-Switch.is) in
    c.audience_of_switch.ensures c.args.fabric.now (tables_of c.args.cells.now) c.args.lid c.in-Some-Switch.field-0-0 owns
