-- The table of the far sides of all ports in a graph. Only private functions cite this.
use Rattle.std.specs.Prelude.{◌≡◌, ℕ, ◌<◌, List, Option, Some, None, [], length, slice_index_or}
use Rattle.std.specs.Option.{option_and_then}
use Rattle.an_base.specs.Values.{EntryOf, PeerAt}
use Rattle.an_base.specs.Order.{PortsRise}
use Rattle.topo_graph.specs.declared.graph.PortRow.{PortRow}
use Rattle.topo_graph.specs.Topology.{entry_at, far_of, joined, link_at, AreWithin, IsGraph}

-- the cell of `port`; there is none past the end
abbrev pub cell_of : PortRow → ℕ → Option (ℕ × ℕ)
cell_of row port = slice_index_or row.cells port None

-- the cell of `port` of the entry at index `place`; there is none outside the table
abbrev pub cell_at : List PortRow → ℕ → ℕ → Option (ℕ × ℕ)
cell_at rows place port = cell_of (slice_index_or rows place (record { cells = [] })) port

-- the row `cells` has `links`, the first links of the entry at index `place`
abbrev pub HasLinks : List EntryOf → ℕ → List PeerAt → List (Option (ℕ × ℕ)) → Type 0
HasLinks entries place links cells =
    (port : ℕ) → slice_index_or cells port None ≡ option_and_then (joined entries place) (link_at links port)

-- every link of the row `cells` is within the graph
abbrev pub LinksAreWithin : List EntryOf → ℕ → List (Option (ℕ × ℕ)) → Type 0
LinksAreWithin entries place cells =
    (port : ℕ) (far : ℕ × ℕ) → slice_index_or cells port None ≡ Some far → AreWithin entries place port far

-- the table `rows` has the rows of the entries below `end`
pub record AreRows (entries : List EntryOf) (rows : List PortRow) (end : ℕ) : Type 0 where
  pub count : length rows ≡ end
  pub cells : (place port : ℕ) → place < end → cell_at rows place port ≡ far_of entries place port
  pub ports : (place : ℕ) → place < end → PortsRise (entry_at entries place).links
  pub within :
      (place port : ℕ) (far : ℕ × ℕ) → cell_at rows place port ≡ Some far → AreWithin entries place port far

-- the invariant of a graph: the table `rows` has what is at the far side of each port
pub record IsKept (entries : List EntryOf) (rows : List PortRow) : Type 0 where
  pub graph : IsGraph entries
  pub cells : (place port : ℕ) → cell_at rows place port ≡ far_of entries place port
