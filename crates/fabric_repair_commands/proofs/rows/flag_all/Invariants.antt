use Rattle.std.proofs.Common.{◌≤◌, take}
use Rattle.fabric_repair_commands.specs.Flags.{AreFlagged}
use Rattle.fabric_repair_commands.proofs.rows.flag_all.Given as goal

-- the LIDs of the rows so far are flagged and counted
abbrev pub invariant-rows : goal.invariant-rows
invariant-rows l = record {
  flagged : AreFlagged (take l.row-index l.rows) l.flags l.count;
  few : l.count ≤ l.row-index;
}
