-- The lowest lengths of routes to one life.
use Rattle.std.specs.Prelude.{ℕ, List, Option, position}
use Rattle.std.specs.Option.{option_and_then}
use Rattle.std.specs.Ordering.{is_eq}
use Rattle.an_base.specs.Values.{LifeId, EntryOf}
use Rattle.an_base.specs.Order.{life_cmp}
use Rattle.updown.specs.Routes.{HasLegalFrom, HasDownFrom, IsLeast}
use Rattle.updown.specs.Lengths.{LengthsOf, length_at}

-- lives, and for the index of each the lengths of routes from there to one life, which is not part of the record
pub record DistancesOf : Type 0 where
  pub lives : List LifeId
  pub lengths : LengthsOf

-- the index of `life` in `lives`, if it is there
abbrev pub place_in : List LifeId → LifeId → Option ℕ
place_in lives life = position (λ other. is_eq (life_cmp other life)) lives

-- the lengths of legal routes (`up_of`) and of downward routes (`down_of`) from `life`; there are none if it is not
-- among the lives
abbrev pub up_of : DistancesOf → LifeId → Option ℕ
up_of distances life = option_and_then (length_at distances.lengths.up) (place_in distances.lives life)

abbrev pub down_of : DistancesOf → LifeId → Option ℕ
down_of distances life = option_and_then (length_at distances.lengths.down) (place_in distances.lives life)

-- `distances` are the lowest lengths of routes to the life `to`
pub record AreDistances (entries : List EntryOf) (to : LifeId) (distances : DistancesOf) : Type 0 where
  pub up : (life : LifeId) → IsLeast (HasLegalFrom entries life to) (up_of distances life)
  pub down : (life : LifeId) → IsLeast (HasDownFrom entries life to) (down_of distances life)
