-- The links of entries that name each other, and their tree.
use Rattle.std.specs.Prelude.{◌≡◌, ◌≢◌, ◌==◌, ◌&&◌, ℕ, ◌<◌, ◌≤◌, List, [], length, Option, Some, None, Bool}
use Rattle.std.specs.Prelude.{not, find, position, slice_index_or, Contains, if◌then◌else◌}
use Rattle.std.specs.List.{list_any}
use Rattle.std.specs.Option.{option_and_then}
use Rattle.std.specs.Ordering.{is_eq}
use Rattle.an_base.specs.Values.{LifeId, EndId, PeerAt, EntryOf}
use Rattle.an_base.specs.Order.{life_cmp, LivesRise, PortsRise}
use Rattle.an_base.specs.Tree.{Network, IsPlace}
use Rattle.an_base.specs.declared.limits.TheConstants.{LAST_PORT, MOST_SWITCHES}

-- an entry of the life at the end `one` names the end `other` at the port of `one`
abbrev pub Names : List EntryOf → EndId → EndId → Type 0
Names entries one other =
    (entry : EntryOf) × Contains entries entry × (entry.life ≡ one.life)
    × Contains entry.links (record { port = one.port; peer = other })

-- `one` and `other` are joined by a link of a topology: each end names the other, and they belong to two lives
pub record IsLink (entries : List EntryOf) (one other : EndId) : Type 0 where
  pub there : Names entries one other
  pub back : Names entries other one
  pub apart : one.life ≢ other.life

-- the value that represents a missing entry
abbrev pub nothing : EntryOf
nothing = record {
  life = record { uid = 0; boot = 0 };
  position = record {
    root = record { uid = 0; boot = 0 };
    level = 0;
    parent = record { uid = 0; boot = 0 };
    port = 0;
  };
  proposed = 0;
  links = [];
}

-- the entry at index `place`
abbrev pub entry_at : List EntryOf → ℕ → EntryOf
entry_at entries place = slice_index_or entries place nothing

-- the life of the entry at index `place`, and its end at `port`
abbrev pub life_at : List EntryOf → ℕ → LifeId
life_at entries place = (entry_at entries place).life

abbrev pub end_at : List EntryOf → ℕ → ℕ → EndId
end_at entries place port = record { life = life_at entries place; port = port }

-- the level that the entry at index `place` states
abbrev pub level_at : List EntryOf → ℕ → ℕ
level_at entries place = (entry_at entries place).position.level

-- the index of the entry of `life`, if there is one
abbrev pub place_of : List EntryOf → LifeId → Option ℕ
place_of entries life = position (λ entry. is_eq (life_cmp entry.life life)) entries

-- whether a link has the port `port` and the other end `end`
abbrev pub is_to : ℕ → EndId → PeerAt → Bool
is_to port end link =
    (link.port == port) && (is_eq (life_cmp link.peer.life end.life) && (link.peer.port == end.port))

-- whether the entry at index `place` names `end` at `port`
abbrev pub names_at : List EntryOf → ℕ → ℕ → EndId → Bool
names_at entries place port end = list_any (is_to port end) (entry_at entries place).links

-- the far index and port of a link that the entry at index `place` names, if the far entry also names it and is a
-- different entry
abbrev pub joined_at : List EntryOf → ℕ → PeerAt → ℕ → Option (ℕ × ℕ)
joined_at entries place link far =
    if not (far == place) && names_at entries far link.peer.port (end_at entries place link.port)
    then Some (far, link.peer.port) else None

abbrev pub joined : List EntryOf → ℕ → PeerAt → Option (ℕ × ℕ)
joined entries place link = option_and_then (joined_at entries place link) (place_of entries link.peer.life)

-- the link of a list at `port`
abbrev pub link_at : List PeerAt → ℕ → Option PeerAt
link_at links port = find (λ link. link.port == port) links

-- the far index and port of the link at `port` of the entry at index `place`
abbrev pub far_of : List EntryOf → ℕ → ℕ → Option (ℕ × ℕ)
far_of entries place port =
    option_and_then (joined entries place) (link_at (entry_at entries place).links port)

-- the network whose nodes are the entries of a topology
abbrev pub network : List EntryOf → Network
network entries = record { count = length entries; life = life_at entries; far = far_of entries }

-- Every entry has its position in the tree of shortest walks to the lowest life. So the entries are one component.
abbrev pub IsTree : List EntryOf → Type 0
IsTree entries =
    (place : ℕ) → place < length entries → IsPlace (network entries) 0 place (entry_at entries place).position

-- the indices and ports at both sides of a link are those of a topology
pub record AreWithin (entries : List EntryOf) (here out : ℕ) (far : ℕ × ℕ) : Type 0 where
  pub place : here < length entries
  pub port_least : 1 ≤ out
  pub port_most : out ≤ LAST_PORT
  pub far_place : far.0 < length entries
  pub far_port_least : 1 ≤ far.1
  pub far_port_most : far.1 ≤ LAST_PORT

-- the invariant of the entries of every graph
pub record IsGraph (entries : List EntryOf) : Type 0 where
  pub some : 1 ≤ length entries
  pub most : length entries ≤ MOST_SWITCHES
  pub rising : LivesRise entries
  pub ports : (place : ℕ) → PortsRise (entry_at entries place).links
  pub within :
      (place port : ℕ) (far : ℕ × ℕ) → far_of entries place port ≡ Some far → AreWithin entries place port far
