-- The tree links of a topology, by the positions of its entries. An entry is named by its index.
use Rattle.std.specs.Prelude.{◌≡◌, ℕ, List, Option, Some, All, Contains}
use Rattle.an_base.specs.Values.{LifeId, EntryOf}
use Rattle.an_base.specs.Rows.{ExitsRise}
use Rattle.topo_graph.specs.Topology.{entry_at, far_of, place_of}

-- the own port of the parent link of the entry at index `place`, 0 for the root
abbrev pub parent_port : List EntryOf → ℕ → ℕ
parent_port entries place = (entry_at entries place).position.port

-- the parent's index and its port of the parent link of the entry at index `place`; none for the root, since no link
-- has port 0
abbrev pub parent_of : List EntryOf → ℕ → Option (ℕ × ℕ)
parent_of entries place = far_of entries place (parent_port entries place)

-- the parent link of the entry of `life` is at `port`
abbrev pub IsParentPort : List EntryOf → LifeId → ℕ → Type 0
IsParentPort entries life port =
    (place : ℕ) × (far : ℕ × ℕ) × (place_of entries life ≡ Some place)
    × (port ≡ parent_port entries place) × (parent_of entries place ≡ Some far)

-- a tree link leads downward from `port` of the entry at index `place`: it is the parent link of `child`
-- (`IsDownTo`), or of some member (`IsDown`)
abbrev pub IsDownTo : List EntryOf → ℕ → ℕ → ℕ → Type 0
IsDownTo entries place port child = parent_of entries child ≡ Some (place, port)

abbrev pub IsDown : List EntryOf → ℕ → ℕ → Type 0
IsDown entries place port = (child : ℕ) × IsDownTo entries place port child

-- `ports` are the ports, in ascending order, of the tree links to the children of the entry at index `place`
pub record AreChildPorts (entries : List EntryOf) (place : ℕ) (ports : List ℕ) : Type 0 where
  pub rising : ExitsRise ports
  pub each : All (IsDown entries place) ports
  pub whole : (port : ℕ) → IsDown entries place port → Contains ports port

-- `ports` are the ports, in ascending order, of the tree links to the children of the entry of `life`
abbrev pub AreChildPortsOf : List EntryOf → LifeId → List ℕ → Type 0
AreChildPortsOf entries life ports =
    (place : ℕ) × (place_of entries life ≡ Some place) × AreChildPorts entries place ports
