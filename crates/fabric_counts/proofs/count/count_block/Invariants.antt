use Rattle.std.proofs.Common.{◌+◌, ◌*◌}
use Rattle.fabric_tables.specs.Cells.{tables_of}
use Rattle.fabric_counts.specs.Steps.{AreCountsUntil, AreRooms}
use Rattle.fabric_model.specs.Fabric.{switch_count}
use Rattle.fabric_counts.proofs.count.count_block.Given as goal

-- the counts with the LIDs so far
abbrev pub invariant-bits : goal.invariant-bits
invariant-bits l = record {
  rooms : AreRooms (switch_count l.fabric) l.rooms;
  counts : AreCountsUntil l.fabric (tables_of l.cells) l.traffic (64 * l.block + l.bit) 0 l.counts;
}
