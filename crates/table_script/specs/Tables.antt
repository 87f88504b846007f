use Rattle.std.specs.Prelude.{◌≡◌, ◌≢◌, ◌==◌, ◌&&◌, ◌||◌, ℕ, ◌<◌, ◌≤◌, Bool, List, [], ◌∷◌, length, All}
use Rattle.std.specs.Prelude.{AllPairs, slice_index, slice_index_or}
use Rattle.an_base.specs.Rows.{RowOf}
use Rattle.an_base.specs.Tree.{Walk}
use Rattle.net_graph.specs.declared.wiring.LinkAt.{LinkAt}
use Rattle.net_graph.specs.Wires.{Wires, network}

-- Tables, and their invariants.

-- tables: the numbers of the switches, by index, and rows, whose `at` is the switch's index
pub record TablesOf : Type 0 where
  pub numbers : List ℕ
  pub rows : List RowOf

-- the row, with the switch's number instead of its index
abbrev pub with_number_at : List ℕ → RowOf → RowOf
with_number_at numbers row =
    record { at = slice_index_or numbers row.at 0; entry = row.entry; to = row.to; exits = row.exits }

-- a row for one of `count` switches: its entry is 0 or a port, and its target is a number
pub record IsRowOf (count : ℕ) (row : RowOf) : Type 0 where
  pub at : row.at < count
  pub entry : row.entry ≤ 12
  pub to_least : 1 ≤ row.to
  pub to_most : row.to ≤ 126

-- the rows differ in switch, entry or target
abbrev pub AreRowsApart : RowOf → RowOf → Type 0
AreRowsApart row other = row.at ≡ other.at → row.entry ≡ other.entry → row.to ≢ other.to

-- the invariant of all tables
pub record IsTables (tables : TablesOf) : Type 0 where
  pub numbers : All (λ number. (1 ≤ number) × (number ≤ 126)) tables.numbers
  pub rows : All (IsRowOf (length tables.numbers)) tables.rows
  pub rows_apart : AllPairs AreRowsApart tables.rows

-- the tables are those of a network: each switch has a number, and the switches of a component have
-- different ones
pub record AreTablesOf (wires : Wires) (tables : TablesOf) : Type 0 where
  pub count : length tables.numbers ≡ length wires.switches
  pub apart :
      (steps node other : ℕ) → node < length wires.switches → other < length wires.switches
      → Walk (network wires) steps node other
      → slice_index tables.numbers node ≡ slice_index tables.numbers other → node ≡ other

-- whether the links join two switches: they are equal, or the links after the first join them, or those links
-- join one of them to one end of the first link and the other to its other end
unfoldable pub are_joined : List LinkAt → ℕ → ℕ → Bool
are_joined [] node other = node == other
are_joined (link ∷ links) node other =
    are_joined links node other
    || ((are_joined links node link.a && are_joined links link.b other)
    || (are_joined links node link.b && are_joined links link.a other))

-- the labels of `count` switches, by index, are equal if and only if the links join the switches
pub record AreLabels (count : ℕ) (links : List LinkAt) (labels : List ℕ) : Type 0 where
  pub count_is : length labels ≡ count
  pub alike :
      (node other : ℕ) → node < count → other < count
      → are_joined links node other ≡ (slice_index labels node == slice_index labels other)
