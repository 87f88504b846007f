-- The hops of a broadcast: up to the root by parent links, and from there by every tree link downward.
use Rattle.std.specs.Ordering.{nat_cmp, ordering_then, is_lt}
use Rattle.std.specs.Prelude.{◌≡◌, ◌==◌, ◌+◌, ◌<◌, ◌⊎◌, ℕ, Bool, true, false, IsTrue, if◌then◌else◌}
use Rattle.std.specs.Prelude.{List, [], ◌∷◌, ◌++◌, All, AllPairs, Contains, map, slice_index_or}
use Rattle.std.specs.Prelude.{Option, Some, None}
use Rattle.an_base.specs.Values.{LifeId, EntryOf}
use Rattle.topo_graph.specs.Topology.{far_of, life_at, place_of}
use Rattle.updown.specs.Routes.{height_cmp}
use Rattle.broadcast_flood.specs.Tree.{parent_port, parent_of, IsDown}
use Rattle.broadcast_flood.specs.declared.hop.FloodHop.{FloodHop}

-- a hop: from the member at index `place`, by the port `port`
pub record HopOf : Type 0 where
  pub place : ℕ
  pub port : ℕ

-- the hops up from the member at index `place` to `top`, which has no parent link; each is by the sender's parent link
abbrev pub GoesUp : List EntryOf → ℕ → List HopOf → ℕ → Type 0
GoesUp entries place [] top = (place ≡ top) × (parent_of entries place ≡ None)
GoesUp entries place (hop ∷ hops) top =
    (parent far_port : ℕ) × (hop ≡ record { place = place; port = parent_port entries place })
    × (parent_of entries place ≡ Some (parent, far_port)) × GoesUp entries parent hops top

-- `hop` is before `later`: by the sender's level, then by its life, then by port, in ascending order
abbrev pub IsBefore : List EntryOf → HopOf → HopOf → Type 0
IsBefore entries hop later =
    IsTrue (is_lt (ordering_then (height_cmp entries hop.place later.place) (nat_cmp hop.port later.port)))

-- `hops` are the hops down: every tree link downward, once
pub record GoesDown (entries : List EntryOf) (hops : List HopOf) : Type 0 where
  pub each : All (λ hop. IsDown entries hop.place hop.port) hops
  pub whole :
      (place port : ℕ) → IsDown entries place port → Contains hops (record { place = place; port = port })
  pub in_order : AllPairs (IsBefore entries) hops

-- `ups` and `downs` are the hops of a broadcast from the member at index `from`: up to the top, and then down
pub record IsFlood (entries : List EntryOf) (from : ℕ) (ups downs : List HopOf) : Type 0 where
  pub top : ℕ
  pub up : GoesUp entries from ups top
  pub down : GoesDown entries downs

-- the hop down at `index`
abbrev pub down_hop : List HopOf → ℕ → HopOf
down_hop downs index = slice_index_or downs index (record { place = 0; port = 0 })

-- the sender of the hop down at `index` has its copy by then: the root because the hops up ended there, and another
-- member from an earlier hop
abbrev pub HasItsCopy : List EntryOf → List HopOf → ℕ → Type 0
HasItsCopy entries downs index =
    let sender = (down_hop downs index).place in
    (parent_of entries sender ≡ None)
    ⊎ ((earlier far_port : ℕ) × (earlier < index)
    × (far_of entries (down_hop downs earlier).place (down_hop downs earlier).port ≡ Some (sender, far_port)))

-- the number of hops down that arrive at `member`
abbrev pub arrivals_by : ℕ → Option (ℕ × ℕ) → ℕ
arrivals_by member None = 0
arrivals_by member (Some far) = if far.0 == member then 1 else 0

abbrev pub arrivals : List EntryOf → ℕ → List HopOf → ℕ
arrivals entries member [] = 0
arrivals entries member (hop ∷ hops) =
    arrivals_by member (far_of entries hop.place hop.port) + arrivals entries member hops

-- the number of copies that `member` gets: one if the hops up end there, and one from each hop down that arrives there
abbrev pub copies : List EntryOf → ℕ → List HopOf → ℕ → ℕ
copies entries top downs member = (if member == top then 1 else 0) + arrivals entries member downs

-- `hop` with the life of its sender, up or down
abbrev pub hop_at : List EntryOf → Bool → HopOf → FloodHop
hop_at entries up hop = record { up = up; at = life_at entries hop.place; port = hop.port }

-- the hop down from `life` by `port`
abbrev pub down_at : LifeId → ℕ → FloodHop
down_at life port = record { up = false; at = life; port = port }

-- `hops` are all hops of a broadcast from the life `from`
pub record IsBroadcast (entries : List EntryOf) (from : LifeId) (hops : List FloodHop) : Type 0 where
  pub place : ℕ
  pub member : place_of entries from ≡ Some place
  pub ups : List HopOf
  pub downs : List HopOf
  pub flood : IsFlood entries place ups downs
  pub hops_are : hops ≡ map (hop_at entries true) ups ++ map (hop_at entries false) downs

-- `hops` are the hops up of a broadcast from the member at index `from`
abbrev pub AreHopsUp : List EntryOf → ℕ → List FloodHop → Type 0
AreHopsUp entries from hops =
    (ups : List HopOf) × (top : ℕ) × GoesUp entries from ups top × (hops ≡ map (hop_at entries true) ups)
