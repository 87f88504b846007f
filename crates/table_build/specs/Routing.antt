-- The data that the tables of all members share, and the row of a `Way`.
use Rattle.std.specs.Prelude.{◌≡◌, ℕ, ◌<◌, List, length, Option, Some, None, slice_index, slice_index_or, Bool, if◌then◌else◌}
use Rattle.an_base.specs.Values.{EntryOf}
use Rattle.updown.specs.declared.order.Height.{Height}
use Rattle.updown.specs.Order.{IsDescent}
use Rattle.table_build.specs.declared.link.Links.{Links}
use Rattle.table_build.specs.Links.{AreLinks}
use Rattle.an_base.specs.Rows.{RowOf}
use Rattle.table_build.specs.declared.way.Way.{Way}

-- the index of the member with the number `number`
abbrev pub place_at : List (Option ℕ) → ℕ → Option ℕ
place_at places number = slice_index_or places number None

-- `places` has, for each number, the member below `end` that has it
pub record ArePlaces (numbers : List ℕ) (end : ℕ) (places : List (Option ℕ)) : Type 0 where
  pub count : length places ≡ 127
  pub each :
      (number place : ℕ) → place_at places number ≡ Some place
      → (place < end) × (slice_index numbers place ≡ number)
  pub whole : (place : ℕ) → place < end → place_at places (slice_index numbers place) ≡ Some place

-- the data that the tables of all members share: the index of each number, the members from the highest to the lowest,
-- and the links of each member
pub record RoutingOf : Type 0 where
  pub places : List (Option ℕ)
  pub order : List Height
  pub links : List Links

-- `routing` is the shared data of `entries` and `numbers`
pub record IsRouting (entries : List EntryOf) (numbers : List ℕ) (routing : RoutingOf) : Type 0 where
  pub places : ArePlaces numbers (length entries) routing.places
  pub order : IsDescent entries routing.order
  pub links : AreLinks entries (length entries) routing.links

-- the row of `way` for the port `entry`
abbrev pub row_of : ℕ → ℕ → Bool → Way → RowOf
row_of at entry up way =
    record { at = at; entry = entry; to = way.number; exits = if up then way.up else way.down }
