-- Illegal exits of rows.
use Rattle.std.specs.Prelude.{◌≡◌, ◌⊎◌, ℕ, List, Some, None, true}
use Rattle.an_base.specs.Values.{EntryOf}
use Rattle.an_base.specs.Rows.{RowOf}
use Rattle.topo_graph.specs.Topology.{far_of}
use Rattle.updown.specs.Routes.{is_up_end}
use Rattle.dep_check.specs.Channels.{far_at, place_in, HasExit}
use Rattle.dep_check.specs.Packets.{IsUpTo}

-- `port` of the switch at index `place` has a link whose far end is its up end
abbrev pub LeadsUp : List EntryOf → ℕ → ℕ → Type 0
LeadsUp entries place port =
    (far far_port : ℕ) × (far_of entries place port ≡ Some (far, far_port))
    × (is_up_end entries far place ≡ true)

-- packets that arrive at the port `entry` of the switch `at` came down, and go up again by `exit`
pub record Turns (entries : List EntryOf) (numbers : List ℕ) (at entry exit : ℕ) : Type 0 where
  pub place : ℕ
  pub is : place_in numbers at ≡ Some place
  pub came_down : LeadsUp entries place entry
  pub goes_up : LeadsUp entries place exit

-- `exit` has no link, or it goes upward although packets that arrive at the port `entry` came down
abbrev pub IsBad : List EntryOf → List ℕ → ℕ → ℕ → ℕ → Type 0
IsBad entries numbers at entry exit =
    (far_at entries numbers (record { at = at; port = exit }) ≡ None) ⊎ Turns entries numbers at entry exit

-- a row has the illegal exit `exit`
pub record IsIllegal (entries : List EntryOf) (numbers : List ℕ) (rows : List RowOf) (at entry to exit : ℕ)
    : Type 0 where
  pub has : HasExit rows at entry to exit
  pub bad : IsBad entries numbers at entry exit

abbrev pub AllAreLegal : List EntryOf → List ℕ → List RowOf → Type 0
AllAreLegal entries numbers rows =
    (at entry to exit : ℕ) → IsIllegal entries numbers rows at entry to exit → ⊥

-- `at`, `entry`, `to` and `exit` are the least illegal exit of the rows
pub record IsLeastIllegal (entries : List EntryOf) (numbers : List ℕ) (rows : List RowOf)
    (at entry to exit : ℕ)
    : Type 0 where
  pub illegal : IsIllegal entries numbers rows at entry to exit
  pub least :
      (place came target port : ℕ) → IsIllegal entries numbers rows place came target port
      → IsUpTo (at, entry, to, exit) (place, came, target, port)
