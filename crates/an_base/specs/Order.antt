-- The orders of lives, ends, links, positions and entries, and lists in ascending order.
use Rattle.std.specs.declared.cmp.Ordering.{Ordering}
use Rattle.std.specs.Ordering.{nat_cmp, ordering_then, is_lt}
use Rattle.std.specs.Cmp.Lexicographic.{slice_cmp}
use Rattle.std.specs.Prelude.{◌<◌, List, AllPairs, IsTrue}
use Rattle.an_base.specs.Values.{LifeId, EndId, Place, PeerAt, EntryOf}

-- the order of lives: by identifier, then by boot
abbrev pub life_cmp : LifeId → LifeId → Ordering
life_cmp one other = ordering_then (nat_cmp one.uid other.uid) (nat_cmp one.boot other.boot)

-- the order of ends: by life, then by port
abbrev pub end_cmp : EndId → EndId → Ordering
end_cmp one other = ordering_then (life_cmp one.life other.life) (nat_cmp one.port other.port)

-- the order of links: by the own port, then by the other end
abbrev pub link_cmp : PeerAt → PeerAt → Ordering
link_cmp one other = ordering_then (nat_cmp one.port other.port) (end_cmp one.peer other.peer)

-- the order of positions: by root, level, parent and port
abbrev pub position_cmp : Place → Place → Ordering
position_cmp one other =
    ordering_then (life_cmp one.root other.root)
    (ordering_then (nat_cmp one.level other.level)
    (ordering_then (life_cmp one.parent other.parent) (nat_cmp one.port other.port)))

-- the order of entries: by position, proposed number and links
abbrev pub entry_cmp : EntryOf → EntryOf → Ordering
entry_cmp one other =
    ordering_then (position_cmp one.position other.position)
    (ordering_then (nat_cmp one.proposed other.proposed) (slice_cmp link_cmp one.links other.links))

-- `lesser` is the lower of the two lives
abbrev pub IsBelow : LifeId → LifeId → Type 0
IsBelow lesser greater = IsTrue (is_lt (life_cmp lesser greater))

-- the links are in strictly ascending order of port
abbrev pub PortsRise : List PeerAt → Type 0
PortsRise = AllPairs (λ before after. before.port < after.port)

-- the entries are in strictly ascending order of life
abbrev pub LivesRise : List EntryOf → Type 0
LivesRise = AllPairs (λ before after. IsBelow before.life after.life)
