use Rattle.std.proofs.Common.{◌≡◌}
use Rattle.std.specs.List.{flat_map, range_with_len}
use Rattle.fabric_tables.specs.Cells.{tables_of}
use Rattle.fabric_repair_commands.specs.Repairs.{rows_for}
use Rattle.fabric_repair_commands.proofs.rows.rows_set.Given as goal

-- the rows of the switches so far
abbrev pub invariant-switches : goal.invariant-switches
invariant-switches l = l.rows.items ≡ flat_map (rows_for l.fabric (tables_of l.given) (tables_of l.made)) (range_with_len 0 l.switch)
