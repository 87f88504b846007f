use Rattle.std.proofs.Common.{arith}
use Rattle.fabric_tables.specs.Cells.{tables_of}
use Rattle.fabric_model.specs.Fabric.{FabricOf}
use Rattle.fabric_read_tables.specs.declared.reading.Part.TheVariants.{Dumped}
use Rattle.fabric_print_tables.proofs.StepLemmas.{on_ok, port_low, row_printed, skip_printed}
use Rattle.fabric_print_tables.proofs.printer.push_cell.Goals as goal

pub returns-in-Some : goal.returns-in-Some
returns-in-Some c =
    let low = port_low c.args.cells.now c.args.switch c.args.lid c.in-Some.port c.in-Some.ensures (omega arith) in
    on_ok (λ is (fabric : FabricOf). row_printed fabric (tables_of c.args.cells.now) c.args.text.now.items c.push_row.new.text.items c.args.switch c.args.lid c.in-Some.port c.requires.reserved (omega arith) low c.in-Some.ensures is) c.push_row.result c.push_row.ensures

pub returns-in-None : goal.returns-in-None
returns-in-None c fabric = skip_printed fabric (tables_of c.args.cells.now) c.args.text.now.items (Dumped c.args.switch) c.args.switch c.args.lid c.in-None.ensures
