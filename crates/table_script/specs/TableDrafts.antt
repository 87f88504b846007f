use Rattle.std.specs.Prelude.{◌+◌, ◌*◌, ◌<◌, ℕ, All, Bool, false, List, []}
use Rattle.an_base.specs.Rows.{RowOf}
use Rattle.table_script.specs.declared.table_draft.NumberAt.{NumberAt}
use Rattle.table_script.specs.declared.table_draft.EntryAt.{EntryAt}

-- The content of the lines of tables that were read so far.

-- the content of the lines of tables read so far: the numbers, the switches and entries that had their line, and
-- the rows, each in the order of the lines; and whether the last line was read
pub record TableDraftOf : Type 0 where
  pub numbers : List NumberAt
  pub entries : List EntryAt
  pub rows : List RowOf
  pub ended : Bool

-- the draft of no lines
abbrev pub no_tables : TableDraftOf
no_tables = record { numbers = []; entries = []; rows = []; ended = false }

-- the height of an entry of a switch: entries are ordered by switch, then by entry
abbrev pub height_of : EntryAt → ℕ
height_of one = one.s * 256 + one.entry

-- each of `entries` has a height below `top`
abbrev pub AreEntriesBelow : ℕ → List EntryAt → Type 0
AreEntriesBelow top entries = All (λ one. height_of one < top) entries
