-- Tables of all spots: far sides, exits and levels. Public contracts cite only spots and their indices, far sides and
-- ranks.
use Rattle.std.specs.Prelude.{◌≡◌, ◌==◌, ◌*◌, ◌+◌, ◌<◌, ◌↔◌, ℕ, List, [], length, Option, Some, None, Bool}
use Rattle.std.specs.Prelude.{true, Contains, slice_index_or, nat_lt, ◌&&◌, if◌then◌else◌}
use Rattle.std.specs.Int.{bit_at}
use Rattle.an_base.specs.Rows.{RowOf}
use Rattle.dep_check.specs.declared.channel.Channel.{Channel}

-- `spot` is a switch, by its number, and one of its ports, or 0 for the switch itself
pub record IsSpot (spot : Channel) : Type 0 where
  pub at : spot.at < 127
  pub port : spot.port < 13

abbrev pub is_spot : Channel → Bool
is_spot spot = nat_lt spot.at 127 && nat_lt spot.port 13

-- the index of `spot` in a table of all spots, which are 127 times 13, so 1,651
abbrev pub place_of : Channel → ℕ
place_of spot = spot.at * 13 + spot.port

-- the level that a table has for `spot`
abbrev pub level_at : List (Option ℕ) → Channel → Option ℕ
level_at levels spot = slice_index_or levels (place_of spot) None

-- the level that a table has for `spot`; there is none if it is not valid
abbrev pub rank_at : List (Option ℕ) → Channel → Option ℕ
rank_at levels spot = if is_spot spot then level_at levels spot else None

-- the far side that a table has for `spot`; there is none if it is not valid
abbrev pub wire_at : List (Option Channel) → Channel → Option Channel
wire_at wires spot = if is_spot spot then slice_index_or wires (place_of spot) None else None

-- every far side is a valid spot
abbrev pub WiresAreWithin : List (Option Channel) → Type 0
WiresAreWithin wires = (spot far : Channel) → wire_at wires spot ≡ Some far → IsSpot far

-- every far side is a valid spot, and its far side is the original spot
pub record AreLinks (wires : List (Option Channel)) : Type 0 where
  pub within : WiresAreWithin wires
  pub back : (spot far : Channel) → wire_at wires spot ≡ Some far → wire_at wires far ≡ Some spot

-- the table `wires` has the far side of each port, over links
pub record AreWires (far : Channel → Option Channel) (wires : List (Option Channel)) : Type 0 where
  pub each : (spot : Channel) → wire_at wires spot ≡ far spot
  pub links : AreLinks wires

-- the table `wires` has the far sides of the spots before the index `end`
pub record AreWiresBelow (far : Channel → Option Channel) (end : ℕ) (wires : List (Option Channel))
    : Type 0 where
  pub count : length wires ≡ end
  pub each :
      (spot : Channel) → IsSpot spot → place_of spot < end
      → slice_index_or wires (place_of spot) None ≡ far spot
  pub within :
      (spot far_side : Channel) → IsSpot spot → place_of spot < end
      → slice_index_or wires (place_of spot) None ≡ Some far_side → IsSpot far_side

-- whether `set` has `port`: its bit with that number is 1
unfoldable pub has_port : ℕ → ℕ → Bool
has_port set port = bit_at set port == 1

abbrev pub set_at : List ℕ → Channel → ℕ
set_at table spot = slice_index_or table (place_of spot) 0

-- whether `table` has the exit `port` for packets that arrive at `spot`
abbrev pub has_at : List ℕ → Channel → ℕ → Bool
has_at table spot port = has_port (set_at table spot) port

-- the row at `index`
abbrev pub row_at : List RowOf → ℕ → RowOf
row_at rows index = slice_index_or rows index (record { at = 0; entry = 0; to = 0; exits = [] })

-- `row` counts: every row does, or only the rows towards one number
abbrev pub Counts : Option ℕ → RowOf → Type 0
Counts None row = row ≡ row
Counts (Some to) row = row.to ≡ to

-- one of the rows before the index `end` that count has the exit `port` for `spot`
pub record HasBelow (rows : List RowOf) (to : Option ℕ) (end : ℕ) (spot : Channel) (port : ℕ) : Type 0 where
  pub index : ℕ
  pub below : index < end
  pub counts : Counts to (row_at rows index)
  pub at : (row_at rows index).at ≡ spot.at
  pub entry : (row_at rows index).entry ≡ spot.port
  pub has : Contains (row_at rows index).exits port

-- `table`, with a set for each of the 1,651 spots, has the exits of the rows before the index `end`
pub record AreExitsBelow (rows : List RowOf) (to : Option ℕ) (end : ℕ) (table : List ℕ) : Type 0 where
  pub count : length table ≡ 1651
  pub ports : (spot : Channel) (port : ℕ) → IsSpot spot → HasBelow rows to end spot port → port < 13
  pub each :
      (spot : Channel) (port : ℕ) → IsSpot spot → port < 13
      → ((has_at table spot port ≡ true) ↔ HasBelow rows to end spot port)
