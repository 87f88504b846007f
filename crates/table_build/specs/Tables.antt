-- Routing tables: rows, and the table of a member.
use Rattle.std.specs.Prelude.{◌≡◌, ◌≢◌, ◌==◌, ◌&&◌, ◌⊎◌, ℕ, ◌<◌, List, [], length, Bool, true, false, Some}
use Rattle.std.specs.Prelude.{All, AllPairs, Any, find, slice_index}
use Rattle.std.specs.Option.{option_map_or}
use Rattle.an_base.specs.Values.{LifeId, EntryOf}
use Rattle.an_base.specs.Rows.{RowOf}
use Rattle.topo_graph.specs.Topology.{place_of}
use Rattle.table_build.specs.declared.way.Way.{Way}
use Rattle.table_build.specs.Exits.{AreExits, IsEntry, may_go_up}

-- a routing table: the number of its switch, and its rows
pub record TableOf : Type 0 where
  pub number : ℕ
  pub rows : List RowOf

-- `row` is a row of the member at index `place`: the exits for packets that arrive at a port and go to the number of
-- another member
pub record IsRow (entries : List EntryOf) (numbers : List ℕ) (any : Bool) (place : ℕ) (row : RowOf)
    : Type 0 where
  pub at : row.at ≡ slice_index numbers place
  pub entry : IsEntry entries place row.entry
  pub to : ℕ
  pub to_low : to < length entries
  pub to_other : to ≢ place
  pub number : row.to ≡ slice_index numbers to
  pub exits : AreExits entries any (may_go_up entries place row.entry) place to row.exits

-- `one` is before `other`: by ingress port, then by number
abbrev pub IsBefore : RowOf → RowOf → Type 0
IsBefore one other = (one.entry < other.entry) ⊎ ((one.entry ≡ other.entry) × (one.to < other.to))

-- `table` is the table of the member at index `place`: one row for each ingress port and each number of another member,
-- in ascending order of ingress port, then of number
pub record IsTable (entries : List EntryOf) (numbers : List ℕ) (any : Bool) (place : ℕ) (table : TableOf)
    : Type 0 where
  pub number : table.number ≡ slice_index numbers place
  pub each : All (IsRow entries numbers any place) table.rows
  pub whole :
      (entry target : ℕ) → IsEntry entries place entry → target < length entries → target ≢ place
      → Any (λ row. (row.entry ≡ entry) × (row.to ≡ slice_index numbers target)) table.rows
  pub rising : AllPairs IsBefore table.rows

-- `table` is the table of the member `life`
abbrev pub IsTableOf : List EntryOf → List ℕ → Bool → LifeId → TableOf → Type 0
IsTableOf entries numbers any life table =
    (place : ℕ) × (place_of entries life ≡ Some place) × IsTable entries numbers any place table

-- the exits of `table` for packets to `number` that arrive at the port `entry`; there are none without such a row
abbrev pub exits_of : TableOf → ℕ → ℕ → List ℕ
exits_of table entry number =
    option_map_or (λ row. row.exits) (find (λ row. (row.entry == entry) && (row.to == number)) table.rows) []

-- `way` has the exits of the member at index `place` towards another member
pub record IsWay (entries : List EntryOf) (numbers : List ℕ) (any : Bool) (place : ℕ) (way : Way)
    : Type 0 where
  pub low : way.place < length entries
  pub other : way.place ≢ place
  pub number : way.number ≡ slice_index numbers way.place
  pub up : AreExits entries any true place way.place way.up
  pub down : AreExits entries any false place way.place way.down

-- `ways` are the exits towards the other members with numbers below `end`
pub record AreWays (entries : List EntryOf) (numbers : List ℕ) (any : Bool) (place end : ℕ) (ways : List Way)
    : Type 0 where
  pub each : All (IsWay entries numbers any place) ways
  pub below : All (λ way. way.number < end) ways
  pub whole :
      (target : ℕ) → target < length entries → target ≢ place → slice_index numbers target < end
      → Any (λ way. way.place ≡ target) ways
  pub rising : AllPairs (λ one other. one.number < other.number) ways

-- `rows` are the rows of the ingress ports below `end`
pub record AreRowsBelow (entries : List EntryOf) (numbers : List ℕ) (any : Bool) (place end : ℕ)
    (rows : List RowOf) : Type 0 where
  pub each : All (IsRow entries numbers any place) rows
  pub below : All (λ row. row.entry < end) rows
  pub whole :
      (entry target : ℕ) → entry < end → IsEntry entries place entry → target < length entries
      → target ≢ place
      → Any (λ row. (row.entry ≡ entry) × (row.to ≡ slice_index numbers target)) rows
  pub rising : AllPairs IsBefore rows
