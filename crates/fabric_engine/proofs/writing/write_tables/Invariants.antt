use Rattle.fabric_engine.specs.Made.{AreTablesFor}
use Rattle.fabric_engine.proofs.writing.write_tables.Given as goal

-- they have the shape
abbrev pub invariant-targets : goal.invariant-targets
invariant-targets l = AreTablesFor l.fabric l.cells
