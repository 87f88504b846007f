use Rattle.fabric_tables.specs.Cells.{tables_of}
use Rattle.fabric_print_tables.specs.Printed.{HasPrinted, part_at}
use Rattle.fabric_print_tables.proofs.printer.print.Given as goal

-- the tables of the switches so far
abbrev pub invariant-switches : goal.invariant-switches
invariant-switches l = HasPrinted l.fabric (tables_of l.cells) l.text.items (part_at l.switch) l.switch 0
