use Rattle.fabric_engine.specs.Made.{AreTablesFor}
use Rattle.fabric_engine.proofs.writing.write_row.Given as goal

-- they have the shape
abbrev pub invariant-switches : goal.invariant-switches
invariant-switches l = AreTablesFor l.fabric l.cells
