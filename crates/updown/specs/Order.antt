-- The entries from the highest to the lowest.
use Rattle.std.specs.Prelude.{◌≡◌, ℕ, ◌<◌, ◌≤◌, List, length, All, Any, false, slice_index_or}
use Rattle.an_base.specs.Values.{EntryOf}
use Rattle.topo_graph.specs.Topology.{level_at}
use Rattle.updown.specs.declared.order.Height.{Height}
use Rattle.updown.specs.Routes.{is_up_end}

-- the entry at `index` of the order
abbrev pub place_at : List Height → ℕ → ℕ
place_at order index = (slice_index_or order index (record { level = 0; place = 0 })).place

-- `height` is the height of its entry
abbrev pub IsHeight : List EntryOf → Height → Type 0
IsHeight entries height = (height.place < length entries) × (height.level ≡ level_at entries height.place)

-- `heights` are those of the entries below `end`
pub record AreHeights (entries : List EntryOf) (end : ℕ) (heights : List Height) : Type 0 where
  pub count : length heights ≡ end
  pub each : All (IsHeight entries) heights
  pub whole : (place : ℕ) → place < end → Any (λ height. height.place ≡ place) heights

-- `order` has all entries, and none is higher than one before it
pub record IsDescent (entries : List EntryOf) (order : List Height) : Type 0 where
  pub heights : AreHeights entries (length entries) order
  pub falling :
      (earlier later : ℕ) → earlier ≤ later → later < length order
      → is_up_end entries (place_at order later) (place_at order earlier) ≡ false
