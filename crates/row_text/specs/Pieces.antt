use Rattle.std.specs.Prelude.{List, ◌++◌, ℕ, codes}
use Rattle.std.specs.Fmt.{decimal}
use Rattle.an_base.specs.Rows.{RowOf}
use Rattle.row_text.specs.Rows.{exits_text}

-- Pieces of a line, used only by private functions.

-- a pair after a space: the number of the target, a colon, and the exits
unfoldable pub spaced_pair : RowOf → List ℕ
spaced_pair row = codes " " ++ decimal row.to ++ codes ":" ++ exits_text row.exits
