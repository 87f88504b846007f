-- The invariant of a `Flood`.
use Rattle.std.specs.Prelude.{◌≡◌, ◌<◌, ℕ, List, [], false, length, map, slice_index_or}
use Rattle.an_base.specs.Values.{EntryOf}
use Rattle.topo_graph.specs.Topology.{IsGraph, IsTree}
use Rattle.broadcast_flood.specs.Tree.{AreChildPorts}
use Rattle.broadcast_flood.specs.Floods.{HopOf, GoesDown, hop_at}
use Rattle.broadcast_flood.specs.declared.hop.FloodHop.{FloodHop}

-- `children` are the ports to the children of each entry below `end`
pub record AreChildren (entries : List EntryOf) (end : ℕ) (children : List (List ℕ)) : Type 0 where
  pub count : length children ≡ end
  pub each : (place : ℕ) → place < end → AreChildPorts entries place (slice_index_or children place [])

-- `hops` are the hops down, with the lives of their senders
abbrev pub AreHopsDown : List EntryOf → List FloodHop → Type 0
AreHopsDown entries hops =
    (downs : List HopOf) × GoesDown entries downs × (hops ≡ map (hop_at entries false) downs)

-- `ports` are the ports to the children of each member, and `hops` are the hops down, which every broadcast has
pub record IsKept (entries : List EntryOf) (ports : List (List ℕ)) (hops : List FloodHop) : Type 0 where
  pub graph : IsGraph entries
  pub tree : IsTree entries
  pub children : AreChildren entries (length entries) ports
  pub downs : AreHopsDown entries hops
