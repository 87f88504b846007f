use Rattle.std.proofs.Common.{◌≡◌, ◌++◌, map, take}
use Rattle.table_build.specs.Routing.{row_of}
use Rattle.table_build.proofs.table.push_rows.Given as goal

-- the rows of the ways so far
abbrev pub invariant-ways : goal.invariant-ways
invariant-ways l = l.rows.items ≡ l.initial.rows.items ++ map (row_of l.at l.entry l.up) (take l.way-index l.ways)
