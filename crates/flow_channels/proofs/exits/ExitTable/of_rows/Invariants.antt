use Rattle.std.proofs.Common.{◌≡◌, length, take}
use Rattle.flow_channels.specs.Exits.{AreExitsOf}
use Rattle.flow_channels.proofs.exits.ExitTable.of_rows.Given as goal

-- the sets have the exits of the rows so far
abbrev pub invariant-rows : goal.invariant-rows
invariant-rows l = record {
  count : length l.sets.items ≡ 209677;
  exits : AreExitsOf (take l.row-index l.rows) l.sets.items;
}
