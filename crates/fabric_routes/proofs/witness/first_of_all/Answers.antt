use Rattle.fabric_tables.specs.Cells.{tables_of}
use Rattle.fabric_routes.specs.Witness.{ComesFor}
use Rattle.fabric_routes.proofs.WitnessLemmas.{first_of, host_low, switch_low}
use Rattle.fabric_routes.proofs.witness.first_of_all.Goals as goal

pub returns : goal.returns
returns c = first_of c.args.fabric.now c.requires.fabric (ComesFor c.args.fabric.now (tables_of c.args.cells.now) c.args.audience c.args.lid c.args.via) (host_low c.args.fabric.now (tables_of c.args.cells.now) c.args.audience c.args.lid c.args.via) (switch_low c.args.fabric.now (tables_of c.args.cells.now) c.args.audience c.args.lid c.args.via) c.first_host-host.result c.first_switch-switch.result c.lesser.result c.first_host-host.ensures.first c.first_switch-switch.ensures c.lesser.ensures
