use Rattle.std.proofs.Common.{◌%◌}
use Rattle.fabric_tables.specs.Cells.{tables_of}
use Rattle.fabric_counts.specs.Counts.{hop_for}
use Rattle.fabric_counts.specs.Heights.{AreHeights}
use Rattle.fabric_counts.specs.Steps.{AreLongest}
use Rattle.fabric_counts.proofs.count.longest_to.Given as goal

-- of the switches so far
abbrev pub invariant-switches : goal.invariant-switches
invariant-switches l = record {
  heights : AreHeights (hop_for l.fabric (tables_of l.cells) l.lid) l.heights;
  longest : AreLongest (hop_for l.fabric (tables_of l.cells) l.lid) l.starts (l.lid % 64) l.switch l.hops;
}
