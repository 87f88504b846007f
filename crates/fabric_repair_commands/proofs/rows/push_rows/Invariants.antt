use Rattle.std.proofs.Common.{◌≡◌, ◌++◌}
use Rattle.std.specs.List.{flat_map, range_with_len}
use Rattle.fabric_tables.specs.Cells.{tables_of}
use Rattle.fabric_repair_commands.specs.Repairs.{row_at}
use Rattle.fabric_repair_commands.proofs.rows.push_rows.Given as goal

-- the rows for the LIDs so far
abbrev pub invariant-lids : goal.invariant-lids
invariant-lids l = l.rows.items ≡ l.initial.rows.items ++ flat_map (row_at l.fabric (tables_of l.given) (tables_of l.made) l.switch) (range_with_len 0 l.lid)
