-- Rows of lanes, kept once each, and as a function.
use Rattle.std.specs.Prelude.{◌≡◌, ◌≢◌, ◌<◌, ◌≤◌, ◌⊎◌, ◌+◌, ◌*◌, ◌/◌, ◌%◌, ◌^◌, ◌==◌, ◌&&◌, ℕ, List, Option}
use Rattle.std.specs.Prelude.{Some, None}
use Rattle.std.specs.Prelude.{length, slice_get, slice_index_or, if◌then◌else◌, nat_lt}

-- The lane on which a switch sends out of a port what came in by another one and has a service level: of
-- the switch, the port in, the port out and the level. Port 0 in is the switch itself. Lane 15 discards the
-- packet.
abbrev pub LanesOf : Type 0
LanesOf = ℕ → ℕ → ℕ → ℕ → ℕ

-- the row of lanes of a switch, a port in and a port out, if one was told
abbrev pub RowsOf : Type 0
RowsOf = ℕ → ℕ → ℕ → Option ℕ

-- the lane of a service level in a row, which has four bits for each
abbrev pub lane_in : (row level : ℕ) → ℕ
lane_in row level = row / 2 ^ (4 * level) % 16

-- the lane of a service level: a packet is discarded if no row was told, or if there is no such level
abbrev pub lane_by : ℕ → Option ℕ → ℕ
lane_by level None = 15
lane_by level (Some row) = if nat_lt level 16 then lane_in row level else 15

abbrev pub lanes_by : RowsOf → LanesOf
lanes_by told switch entry port level = lane_by level (told switch entry port)

-- how many switches there are, the most ports of one, and how many lanes there are; the different rows; and,
-- of each switch, port in and port out, the place of its row among them
pub record LaneRowsOf : Type 0 where
  pub switches : ℕ
  pub most : ℕ
  pub count : ℕ
  pub rows : List ℕ
  pub places : List ℕ

-- where the place of a switch, a port in and a port out stands
abbrev pub index_of : (most switch entry port : ℕ) → ℕ
index_of most switch entry port = (switch * (most + 1) + entry) * (most + 1) + port

-- the row that was told: the place 65535 is that of none
abbrev pub told_row : LaneRowsOf → RowsOf
told_row table switch entry port =
    if nat_lt entry (table.most + 1) && nat_lt port (table.most + 1)
    then slice_get table.rows (slice_index_or table.places (index_of table.most switch entry port) 65535)
    else None

abbrev pub lanes_of : LaneRowsOf → LanesOf
lanes_of table = lanes_by (told_row table)

-- a row stands at this place
abbrev pub HasRowAt : List ℕ → (row place : ℕ) → Type 0
HasRowAt rows row place = slice_get rows place ≡ Some row

-- the rows stand where they stood, and are not too many
pub record KeepsRows (old new : List ℕ) : Type 0 where
  pub same : (place : ℕ) → place < length old → slice_get new place ≡ slice_get old place
  pub more : length old ≤ length new
  pub few : length new ≤ 65535

-- a place is that of no row, or of one that there is
abbrev pub IsPlace : List ℕ → ℕ → Type 0
IsPlace rows place = (place ≡ 65535) ⊎ (place < length rows)

-- how many lanes a row has: one more than the greatest but 15, which is none
pub record IsCountOf (row count : ℕ) : Type 0 where
  pub each : (level : ℕ) → level < 16 → (lane_in row level ≡ 15) ⊎ (lane_in row level < count)
  pub some :
      (count ≡ 0)
      ⊎ ((level : ℕ) × (level < 16) × (lane_in row level < 15) × (count ≡ lane_in row level + 1))

-- .. and how many all have
pub record IsLaneCount (lanes : LanesOf) (count : ℕ) : Type 0 where
  pub each :
      (switch entry port level : ℕ)
      → (lanes switch entry port level ≡ 15) ⊎ (lanes switch entry port level < count)
  pub some :
      (count ≡ 0)
      ⊎ ((switch entry port level : ℕ) × (lanes switch entry port level < 15)
      × (count ≡ lanes switch entry port level + 1))

-- what holds of all rows of lanes that are kept
pub record AreLaneRows (table : LaneRowsOf) : Type 0 where
  pub size : length table.places ≡ table.switches * (table.most + 1) * (table.most + 1)
  pub few : table.switches ≤ 2 ^ 14
  pub low : table.most < 255
  pub rows : length table.rows ≤ 65535
  pub each : (k : ℕ) → k < length table.places → IsPlace table.rows (slice_index_or table.places k 65535)
  pub few_lanes : table.count ≤ 15
  pub lanes : IsLaneCount (lanes_of table) table.count

-- the rows with one more, or with one told again
abbrev pub with_row : RowsOf → (switch entry port row : ℕ) → RowsOf
with_row told switch entry port row at other_entry other_port =
    if at == switch && (other_entry == entry && other_port == port) then Some row
    else told at other_entry other_port

abbrev pub IsRowPut : RowsOf → RowsOf → (switch entry port row : ℕ) → Type 0
IsRowPut old new switch entry port row =
    (at other_entry other_port : ℕ)
    → new at other_entry other_port ≡ with_row old switch entry port row at other_entry other_port

-- no row but this one was told there
abbrev pub HasNoOtherRow : RowsOf → (switch entry port row : ℕ) → Type 0
HasNoOtherRow told switch entry port row = (other : ℕ) → told switch entry port ≡ Some other → other ≡ row

-- another was
abbrev pub HasOtherRow : RowsOf → (switch entry port row : ℕ) → Type 0
HasOtherRow told switch entry port row = (other : ℕ) × (told switch entry port ≡ Some other) × (other ≢ row)
