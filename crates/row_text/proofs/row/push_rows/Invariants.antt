use Rattle.std.proofs.Common.{◌≡◌, ◌++◌, take}
use Rattle.std.specs.List.{flat_map}
use Rattle.row_text.specs.Rows.{rows_at}
use Rattle.row_text.specs.Pieces.{spaced_pair}
use Rattle.row_text.proofs.row.push_rows.Given as goal

-- the rows so far
abbrev pub invariant-rows : goal.invariant-rows
invariant-rows l = l.text.items ≡ l.initial.text.items ++ flat_map spaced_pair (rows_at (take l.row-index l.rows) l.entry)
