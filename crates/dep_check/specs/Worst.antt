-- The illegal exits of rows, up to some row. Only private functions cite this.
use Rattle.std.specs.Prelude.{◌≡◌, ◌<◌, ◌≤◌, ◌⊎◌, ◌↔◌, ℕ, List, length, Option, Some, None, Contains, Bool, true}
use Rattle.std.specs.Prelude.{false, slice_index_or, if◌then◌else◌}
use Rattle.an_base.specs.Values.{EntryOf}
use Rattle.an_base.specs.Rows.{RowOf}
use Rattle.dep_check.specs.declared.illegal.RowExit.{RowExit}
use Rattle.dep_check.specs.declared.channel.Channel.{Channel}
use Rattle.dep_check.specs.Channels.{far_at, place_in}
use Rattle.dep_check.specs.Packets.{IsUpTo}
use Rattle.dep_check.specs.Illegal.{IsBad, LeadsUp}
use Rattle.dep_check.specs.Tables.{IsSpot, has_at, is_spot, place_of, row_at, wire_at}

-- the port of `spot` has a link whose far end is its up end
abbrev pub LeadsUpAt : List EntryOf → List ℕ → Channel → Type 0
LeadsUpAt entries numbers spot =
    (place : ℕ) × (place_in numbers spot.at ≡ Some place) × LeadsUp entries place spot.port

-- whether the table `up` says that `spot` leads up; false if it is not valid
abbrev pub up_at : List Bool → Channel → Bool
up_at up spot = if is_spot spot then slice_index_or up (place_of spot) false else false

-- the table `up` says which spots before the index `end` lead up
pub record AreUpBelow (entries : List EntryOf) (numbers : List ℕ) (end : ℕ) (up : List Bool) : Type 0 where
  pub count : length up ≡ end
  pub each :
      (spot : Channel) → IsSpot spot → place_of spot < end
      → ((slice_index_or up (place_of spot) false ≡ true) ↔ LeadsUpAt entries numbers spot)

-- the tables say for each port what is at its far side (`wires`), and whether it leads up (`up`)
pub record AreSides (entries : List EntryOf) (numbers : List ℕ) (wires : List (Option Channel))
    (up : List Bool)
    : Type 0 where
  pub far : (spot : Channel) → wire_at wires spot ≡ far_at entries numbers spot
  pub leads_up : (spot : Channel) → ((up_at up spot ≡ true) ↔ LeadsUpAt entries numbers spot)

-- by the tables, `exit` has no link, or it goes upward although the packets came down
abbrev pub IsBadExit : List (Option Channel) → List Bool → ℕ → Bool → ℕ → Type 0
IsBadExit wires up at came_down exit =
    (wire_at wires (record { at = at; port = exit }) ≡ None)
    ⊎ ((came_down ≡ true) × (up_at up (record { at = at; port = exit }) ≡ true))

-- whether `row` is for packets that arrive at a valid spot
abbrev pub is_at_spot : RowOf → Bool
is_at_spot row = is_spot (record { at = row.at; port = row.entry })

-- by the tables `wires` and `up`, no exit in the table `exits` is illegal; packets that arrive at a port that leads up
-- came down
abbrev pub AreLegalBy : List (Option Channel) → List Bool → List ℕ → Type 0
AreLegalBy wires up exits =
    (spot : Channel) (port : ℕ) → IsSpot spot → port < 13 → has_at exits spot port ≡ true
    → IsBadExit wires up spot.at (up_at up spot) port → ⊥

-- `found` is an illegal exit of `row`
pub record IsBadOf (entries : List EntryOf) (numbers : List ℕ) (row : RowOf) (found : RowExit) : Type 0 where
  pub at : row.at ≡ found.at
  pub entry : row.entry ≡ found.entry
  pub to : row.to ≡ found.to
  pub has : Contains row.exits found.exit
  pub bad : IsBad entries numbers found.at found.entry found.exit

-- the least illegal exit of `row`, or None if there is none
abbrev pub FirstBad : List EntryOf → List ℕ → RowOf → Option RowExit → Type 0
FirstBad entries numbers row None = (other : RowExit) → IsBadOf entries numbers row other → ⊥
FirstBad entries numbers row (Some found) =
    IsBadOf entries numbers row found
    × ((other : RowExit) → IsBadOf entries numbers row other → found.exit ≤ other.exit)

-- `one` is not after `other`
abbrev pub IsNotAfter : RowExit → RowExit → Type 0
IsNotAfter one other =
    IsUpTo (one.at, one.entry, one.to, one.exit) (other.at, other.entry, other.to, other.exit)

-- the least illegal exit of the rows before the index `end`, or None if there is none
abbrev pub LeastBelow : List EntryOf → List ℕ → List RowOf → ℕ → Option RowExit → Type 0
LeastBelow entries numbers rows end None =
    (index : ℕ) (other : RowExit) → index < end → IsBadOf entries numbers (row_at rows index) other → ⊥
LeastBelow entries numbers rows end (Some found) =
    ((index : ℕ) × (index < end) × IsBadOf entries numbers (row_at rows index) found)
    × ((index : ℕ) (other : RowExit) → index < end → IsBadOf entries numbers (row_at rows index) other
    → IsNotAfter found other)
