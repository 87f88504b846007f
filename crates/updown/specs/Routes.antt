-- Up ends, and legal routes: those where no upward link follows a downward one.
use Rattle.std.specs.Prelude.{◌≡◌, ◌≤◌, ℕ, List, [], ◌∷◌, Option, Some, None, Bool, false, All, AllPairs}
use Rattle.std.specs.Prelude.{IsTrue, length, unwrap_or, if◌then◌else◌}
use Rattle.std.specs.declared.cmp.Ordering.{Ordering}
use Rattle.std.specs.Ordering.{nat_cmp, ordering_then, is_lt}
use Rattle.an_base.specs.Values.{LifeId, EndId, EntryOf}
use Rattle.an_base.specs.Order.{life_cmp}
use Rattle.topo_graph.specs.Topology.{IsLink, place_of, life_at, level_at, far_of}

-- the order of two entries by height: by level, then by life; the lower in this order is higher in the tree
abbrev pub height_cmp : List EntryOf → ℕ → ℕ → Ordering
height_cmp entries one other =
    ordering_then
    (nat_cmp (level_at entries one) (level_at entries other))
    (life_cmp (life_at entries one) (life_at entries other))

-- whether `one` is the up end of a link between `one` and `other`: the end of lower level, or at equal level of lower
-- life
abbrev pub is_up_end : List EntryOf → ℕ → ℕ → Bool
is_up_end entries one other = is_lt (height_cmp entries one other)

-- the life at the up end of a link between `one` and `other`
abbrev pub up_end_of : List EntryOf → ℕ → ℕ → LifeId
up_end_of entries one other =
    if is_up_end entries one other then life_at entries one else life_at entries other

-- `port` of `life` has a link
abbrev pub HasLink : List EntryOf → LifeId → ℕ → Type 0
HasLink entries life port = (far : EndId) × IsLink entries (record { life = life; port = port }) far

-- a list of ports leads from the entry at index `place` over links to `target`
abbrev pub Route : List EntryOf → ℕ → List ℕ → ℕ → Type 0
Route entries place [] target = place ≡ target
Route entries place (port ∷ ports) target =
    (next entry : ℕ) × (far_of entries place port ≡ Some (next, entry)) × Route entries next ports target

-- the index of the entry that `port` leads to, or `place` if it has no link
abbrev pub next_place : List EntryOf → ℕ → ℕ → ℕ
next_place entries place port = (unwrap_or (far_of entries place port) (place, port)).0

-- whether each link of a route leads upward
abbrev pub upward : List EntryOf → ℕ → List ℕ → List Bool
upward entries place [] = []
upward entries place (port ∷ ports) =
    is_up_end entries (next_place entries place port) place
    ∷ upward entries (next_place entries place port) ports

-- `ports` are a legal route from `place` to `target`: no upward link follows a downward one
pub record LegalRoute (entries : List EntryOf) (place : ℕ) (ports : List ℕ) (target : ℕ) : Type 0 where
  pub route : Route entries place ports target
  pub legal : AllPairs (λ first later. IsTrue later → IsTrue first) (upward entries place ports)

-- `ports` are a route from `place` to `target` with only downward links
pub record DownRoute (entries : List EntryOf) (place : ℕ) (ports : List ℕ) (target : ℕ) : Type 0 where
  pub route : Route entries place ports target
  pub down : All (λ up. up ≡ false) (upward entries place ports)

-- there is a legal route of `count` links from `place` to `target`
abbrev pub HasLegal : List EntryOf → ℕ → ℕ → ℕ → Type 0
HasLegal entries place target count =
    (ports : List ℕ) × (length ports ≡ count) × LegalRoute entries place ports target

-- there is a route of `count` downward links from `place` to `target`
abbrev pub HasDown : List EntryOf → ℕ → ℕ → ℕ → Type 0
HasDown entries place target count =
    (ports : List ℕ) × (length ports ≡ count) × DownRoute entries place ports target

-- there is a legal route (`HasLegalFrom`), or a downward route (`HasDownFrom`), of `count` links between two lives
abbrev pub HasLegalFrom : List EntryOf → LifeId → LifeId → ℕ → Type 0
HasLegalFrom entries from to count =
    (place target : ℕ) × (place_of entries from ≡ Some place) × (place_of entries to ≡ Some target)
    × HasLegal entries place target count

abbrev pub HasDownFrom : List EntryOf → LifeId → LifeId → ℕ → Type 0
HasDownFrom entries from to count =
    (place target : ℕ) × (place_of entries from ≡ Some place) × (place_of entries to ≡ Some target)
    × HasDown entries place target count

-- the lowest number that `Has` is true of, or None if there is none
abbrev pub IsLeast : (ℕ → Type 0) → Option ℕ → Type 0
IsLeast Has None = (number : ℕ) → Has number → ⊥
IsLeast Has (Some least) = Has least × ((number : ℕ) → Has number → least ≤ number)
