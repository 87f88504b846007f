use Rattle.std.proofs.Common.{◌*◌}
use Rattle.fabric_tables.specs.Cells.{tables_of}
use Rattle.fabric_counts.specs.Steps.{AreCountsUntil, AreRooms}
use Rattle.fabric_model.specs.Fabric.{switch_count}
use Rattle.fabric_counts.proofs.count.count_blocks.Given as goal

-- the counts with the blocks so far
abbrev pub invariant-rounds : goal.invariant-rounds
invariant-rounds l = record {
  rooms : AreRooms (switch_count l.fabric) l.rooms;
  counts : AreCountsUntil l.fabric (tables_of l.cells) l.traffic (64 * l.block) 0 l.counts;
}
