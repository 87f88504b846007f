use Rattle.std.proofs.Common.{◌≡◌, ◌≤◌, take}
use Rattle.std.specs.Prelude.{count_by, is_some}
use Rattle.fabric_repair_commands.proofs.commands.count_cells.Given as goal

-- those of the LIDs so far that have an owner
abbrev pub invariant-lids : goal.invariant-lids
invariant-lids l = record {
  owned : l.owned ≡ count_by is_some (take l.lid l.fabric.owners);
  few : l.owned ≤ l.lid;
}
