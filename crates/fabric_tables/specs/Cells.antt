-- Tables as bytes, in blocks of LIDs.
use Rattle.std.specs.Prelude.{◌≡◌, ◌≢◌, ◌<◌, ◌≤◌, ◌+◌, ◌*◌, ◌/◌, ◌%◌, ◌^◌, ◌==◌, ◌&&◌, ℕ, List, Option, Some, None}
use Rattle.std.specs.Prelude.{length, slice_index_or, if◌then◌else◌, nat_lt}

-- the port of a switch for a LID, if its table has one
abbrev pub TablesOf : Type 0
TablesOf = ℕ → ℕ → Option ℕ

-- the number of switches, the number of blocks of 64 LIDs, and a byte for each switch and LID, block by block
pub record CellsOf : Type 0 where
  pub switches : ℕ
  pub blocks : ℕ
  pub bytes : List ℕ

-- the index of the byte for `switch` and `lid`: in the block of 64 LIDs, in which each switch has 64 bytes
abbrev pub place_of : ℕ → ℕ → ℕ → ℕ
place_of switches switch lid = (lid / 64 * switches + switch) * 64 + lid % 64

-- the port that `byte` encodes; 255 encodes no port
abbrev pub port_of : ℕ → Option ℕ
port_of byte = if byte == 255 then None else Some byte

-- the tables that `cells` represents
abbrev pub tables_of : CellsOf → TablesOf
tables_of cells switch lid = if nat_lt switch cells.switches
    then port_of (slice_index_or cells.bytes (place_of cells.switches switch lid) 255)
    else None

-- at least one switch has a port for `lid`
abbrev pub HasRow : TablesOf → ℕ → Type 0
HasRow tables lid = (switch port : ℕ) × (tables switch lid ≡ Some port)

-- `tables` with `port` set for `switch` and `lid`
abbrev pub with_port : TablesOf → ℕ → ℕ → ℕ → TablesOf
with_port tables switch lid port other_switch other_lid = if other_switch == switch && other_lid == lid
    then Some port
    else tables other_switch other_lid

-- `new` is `old` with `port` set for `switch` and `lid`
abbrev pub IsPut : TablesOf → TablesOf → ℕ → ℕ → ℕ → Type 0
IsPut old new switch lid port =
    (other_switch other_lid : ℕ) → new other_switch other_lid ≡ with_port old switch lid port other_switch other_lid

-- `tables` has no port other than `port` for `switch` and `lid`
abbrev pub HasNoOther : TablesOf → ℕ → ℕ → ℕ → Type 0
HasNoOther tables switch lid port = (other : ℕ) → tables switch lid ≡ Some other → other ≡ port

-- `tables` has a port other than `port` for `switch` and `lid`
abbrev pub HasOther : TablesOf → ℕ → ℕ → ℕ → Type 0
HasOther tables switch lid port = (other : ℕ) × (tables switch lid ≡ Some other) × (other ≢ port)

-- the invariant of `cells`
pub record AreCells (cells : CellsOf) : Type 0 where
  pub count : length cells.bytes ≡ cells.blocks * cells.switches * 64
  pub few : cells.switches < 2 ^ 20
  pub low : cells.blocks ≤ 1024
