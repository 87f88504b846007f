use Rattle.std.specs.Prelude.{◌≡◌, ◌≢◌, ℕ, List, Option, Some, None, length, slice_index_or, [], ◌⊎◌}
use Rattle.net_graph.specs.declared.wiring.Far.{Far}
use Rattle.net_graph.specs.declared.wiring.PortRow.{PortRow}
use Rattle.net_graph.specs.Wires.{Wires, IsWired, far_at}

-- The table in which a wiring finds the far side of a port.

-- the cell of `port` of the switch `node`; there is none outside the table
abbrev pub cell_at : List PortRow → (node port : ℕ) → Option Far
cell_at rows node port = slice_index_or (slice_index_or rows node (record { cells = [] })).cells port None

-- the table `new` is `old` with `far` at `port` of the switch `node`
pub record Puts (old new : List PortRow) (node port : ℕ) (far : Far) : Type 0 where
  pub count : length new ≡ length old
  pub here : cell_at new node port ≡ Some far
  pub others :
      (other other_port : ℕ) → (other ≢ node) ⊎ (other_port ≢ port)
      → cell_at new other other_port ≡ cell_at old other other_port

-- the wiring is valid and its table has a row for each switch, where each cell is the far side of its port
pub record IsKept (wires : Wires) (rows : List PortRow) : Type 0 where
  pub wired : IsWired wires
  pub count : length rows ≡ length wires.switches
  pub cells : (node port : ℕ) → cell_at rows node port ≡ far_at wires node port
