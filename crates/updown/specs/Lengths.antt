-- The lowest lengths of routes to one entry.
use Rattle.std.specs.Prelude.{◌≡◌, ◌<◌, ◌≤◌, ℕ, zero, suc, min, List, Option, Some, None, length}
use Rattle.std.specs.Prelude.{slice_index_or, if◌then◌else◌}
use Rattle.std.specs.Option.{option_and_then}
use Rattle.an_base.specs.Values.{EntryOf}
use Rattle.an_base.specs.declared.limits.TheConstants.{MOST_LEVEL}
use Rattle.topo_graph.specs.Topology.{far_of}
use Rattle.updown.specs.declared.order.Height.{Height}
use Rattle.updown.specs.Order.{place_at}
use Rattle.updown.specs.Routes.{is_up_end, HasLegal, HasDown, IsLeast}

-- the length that a table has for the entry at index `place`
abbrev pub length_at : List (Option ℕ) → ℕ → Option ℕ
length_at lengths place = slice_index_or lengths place None

-- the lengths to one entry: for each entry the length of a shortest legal route, and the length of a shortest route
-- with only downward links
pub record LengthsOf : Type 0 where
  pub up : List (Option ℕ)
  pub down : List (Option ℕ)

-- `lengths` are the lowest lengths of routes to the entry at index `to`
pub record AreLengths (entries : List EntryOf) (to : ℕ) (lengths : LengthsOf) : Type 0 where
  pub up :
      (place : ℕ) → place < length entries → IsLeast (HasLegal entries place to) (length_at lengths.up place)
  pub down :
      (place : ℕ) → place < length entries → IsLeast (HasDown entries place to) (length_at lengths.down place)
  pub up_count : length lengths.up ≡ length entries
  pub down_count : length lengths.down ≡ length entries

-- the length left after a port: of any legal route from its far end after an upward link, and of a route with only
-- downward links after a downward one
abbrev pub left_at : List EntryOf → List (Option ℕ) → List (Option ℕ) → ℕ → (ℕ × ℕ) → Option ℕ
left_at entries up down place far = length_at (if is_up_end entries far.0 place then up else down) far.0

abbrev pub left_of : List EntryOf → List (Option ℕ) → List (Option ℕ) → ℕ → ℕ → Option ℕ
left_of entries up down place port =
    option_and_then (left_at entries up down place) (far_of entries place port)

-- no length is above `most`
abbrev pub AreAtMost : List (Option ℕ) → ℕ → Type 0
AreAtMost lengths most = (place count : ℕ) → length_at lengths place ≡ Some count → count ≤ most

-- the lower of two lengths, or the only one there is
abbrev pub lesser_of : Option ℕ → Option ℕ → Option ℕ
lesser_of None other = other
lesser_of (Some one) None = Some one
lesser_of (Some one) (Some other) = Some (min one other)

-- a route from the entry at index `place` has a given length: 0 if that is the target, otherwise one more than what is
-- left after some port
abbrev pub Onward : List EntryOf → List (Option ℕ) → List (Option ℕ) → ℕ → ℕ → ℕ → Type 0
Onward entries up down to place zero = place ≡ to
Onward entries up down to place (suc count) = (port : ℕ) × (left_of entries up down place port ≡ Some count)

-- the table `down` has the lengths of downward routes from the entries in `order` from the index `first` on
pub record AreDownSoFar (entries : List EntryOf) (to : ℕ) (order : List Height) (down : List (Option ℕ))
    (first : ℕ) : Type 0 where
  pub count : length down ≡ length entries
  pub known :
      (index : ℕ) → first ≤ index → index < length order
      → IsLeast (HasDown entries (place_at order index) to) (length_at down (place_at order index))
  pub most : AreAtMost down MOST_LEVEL

-- The table `up` has the lengths of legal routes from the entries in `order` before the index `end`. A legal route from
-- the entry at an index has fewer links than the sum of the index and the number of entries. There are at most 126
-- entries, so an index is at most 125, and a route has at most 250 links.
pub record AreUpSoFar (entries : List EntryOf) (to : ℕ) (order : List Height) (up : List (Option ℕ)) (end : ℕ)
    : Type 0 where
  pub count : length up ≡ length entries
  pub known :
      (index : ℕ) → index < end
      → IsLeast (HasLegal entries (place_at order index) to) (length_at up (place_at order index))
  pub most : AreAtMost up 250
