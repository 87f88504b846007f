-- Through how many switches the routes to a LID go. Only private functions cite this.
use Rattle.std.specs.Prelude.{◌≡◌, ◌<◌, ◌+◌, ◌-◌, ◌⊎◌, ℕ, List, max, slice_index}
use Rattle.fabric_counts.specs.declared.height.Way.{Way}
use Rattle.fabric_routes.specs.declared.hop.Hop.{Hop}
use Rattle.fabric_routes.specs.declared.hop.Hop.TheVariants.{On}
use Rattle.fabric_routes.specs.declared.hop.Outcome.TheVariants.{Arrives}
use Rattle.fabric_routes.specs.Routes.{EndsAs}
use Rattle.fabric_routes.specs.Waves.{HasBit}

-- what a list has for a switch is through how many switches the route from there goes, which arrives, or 0
abbrev pub AreHeights : (ℕ → Hop) → List ℕ → Type 0
AreHeights hop_at heights =
    (at : ℕ) → 0 < slice_index heights at → EndsAs hop_at at (Arrives (slice_index heights at))

-- each of the first so many switches of a path leads to the next one
abbrev pub IsChain : (ℕ → Hop) → List ℕ → ℕ → Type 0
IsChain hop_at path count =
    (place : ℕ) → place + 1 < count
    → (port : ℕ) × (hop_at (slice_index path place) ≡ On port (slice_index path (place + 1)))

-- the first so many of a path are switches that there are
abbrev pub AreLow : ℕ → List ℕ → ℕ → Type 0
AreLow switches path count = (place : ℕ) → place < count → slice_index path place < switches

-- a route goes by so many switches of a path and then comes to a switch
pub record IsWayTo (hop_at : ℕ → Hop) (switches start : ℕ) (path : List ℕ) (count at : ℕ) : Type 0 where
  pub chain : IsChain hop_at path count
  pub low : AreLow switches path count
  pub begins : count ≡ 0 → at ≡ start
  pub first : 0 < count → slice_index path 0 ≡ start
  pub leads : 0 < count → (port : ℕ) × (hop_at (slice_index path (count - 1)) ≡ On port at)

-- a route goes by the switches of a path and then, through so many more, arrives
pub record IsWay (hop_at : ℕ → Hop) (switches start : ℕ) (path : List ℕ) (way : Way) : Type 0 where
  pub chain : IsChain hop_at path way.count
  pub low : AreLow switches path way.count
  pub begins : way.count ≡ 0 → EndsAs hop_at start (Arrives way.beyond)
  pub first : 0 < way.count → slice_index path 0 ≡ start
  pub last : 0 < way.count → EndsAs hop_at (slice_index path (way.count - 1)) (Arrives (way.beyond + 1))

-- the last switches of a path have their heights: that of the first of them, or none has and it is what comes after
pub record IsSettling (hop_at : ℕ → Hop) (path : List ℕ) (way : Way) (left height : ℕ) : Type 0 where
  pub done : left < way.count → EndsAs hop_at (slice_index path left) (Arrives height)
  pub none : left ≡ way.count → height ≡ way.beyond

-- the greater number of switches with the route from a switch, which arrives, if it has a bit
abbrev pub IsLonger : (ℕ → Hop) → List ℕ → ℕ → ℕ → ℕ → ℕ → Type 0
IsLonger hop_at words bit at hops longer =
    ((HasBit words at bit → ⊥) × (longer ≡ hops))
    ⊎ (HasBit words at bit × ((switches : ℕ) × EndsAs hop_at at (Arrives switches) × (longer ≡ max hops switches)))
