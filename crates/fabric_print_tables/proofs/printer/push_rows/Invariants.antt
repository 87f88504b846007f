use Rattle.fabric_tables.specs.Cells.{tables_of}
use Rattle.fabric_model.specs.Fabric.{FabricOf}
use Rattle.fabric_read_tables.specs.declared.reading.Part.TheVariants.{Dumped}
use Rattle.fabric_print_tables.specs.Printed.{HasPrinted}
use Rattle.fabric_print_tables.proofs.printer.push_rows.Given as goal

-- the rows so far
abbrev pub invariant-lids : goal.invariant-lids
invariant-lids l = (fabric : FabricOf) → HasPrinted fabric (tables_of l.cells) l.initial.text.items (Dumped l.switch) l.switch 0 → HasPrinted fabric (tables_of l.cells) l.text.items (Dumped l.switch) l.switch l.lid
