use Rattle.std.proofs.Common.{◌≡◌}
use Rattle.fabric_engine.specs.Made.{AreTablesFor}
use Rattle.fabric_repair.proofs.writing.put_rows.Given as goal

-- they have the shape
abbrev pub invariant-rows : goal.invariant-rows
invariant-rows l = record {
  tables : AreTablesFor l.fabric l.made;
  blocks : l.made.blocks ≡ l.initial.made.blocks;
}
