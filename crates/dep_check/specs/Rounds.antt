-- One round of levels: the spots that get a level next, and the levels after that. Only private functions cite this.
use Rattle.std.specs.Prelude.{◌≡◌, ◌⊎◌, ℕ, List, length, Option, Some, None, Contains}
use Rattle.dep_check.specs.declared.channel.Channel.{Channel}
use Rattle.dep_check.specs.declared.steps.Steps.{Steps}
use Rattle.dep_check.specs.declared.level.Rule.{Rule}
use Rattle.dep_check.specs.declared.level.Rule.TheVariants.{Nearest, Rank}
use Rattle.dep_check.specs.Tables.{IsSpot, level_at}
use Rattle.dep_check.specs.Search.{Step, IsDue, IsHeld, AreNearest, AreNearestBelow, AreRanked, AreRankedBelow}

-- `levels`, with an item for each of the 1,651 spots, has the level 0 at each goal, and no other level
pub record AreGoals (Goal : Channel → Type 0) (levels : List (Option ℕ)) : Type 0 where
  pub count : length levels ≡ 1651
  pub some : (spot : Channel) (level : ℕ) → IsSpot spot → level_at levels spot ≡ Some level
      → (level ≡ 0) × Goal spot
  pub none : (spot : Channel) → IsSpot spot → level_at levels spot ≡ None → Goal spot → ⊥

-- the spot `channel` gets a level next
pub record GetsLevel (rule : Rule) (steps : Steps) (levels : List (Option ℕ)) (channel : Channel)
    : Type 0 where
  pub spot : IsSpot channel
  pub none : level_at levels channel ≡ None
  pub due : IsDue rule steps levels channel

-- The list `new` is `old` with only spots added that get a level next, and with all of those that were `Looked` at.
pub record AddsDue (rule : Rule) (steps : Steps) (levels : List (Option ℕ)) (Looked : Channel → Type 0)
    (old new : List Channel) : Type 0 where
  pub each : (spot : Channel) → Contains new spot → Contains old spot ⊎ GetsLevel rule steps levels spot
  pub kept : (spot : Channel) → Contains old spot → Contains new spot
  pub whole :
      (spot : Channel) → Looked spot → IsSpot spot → level_at levels spot ≡ None
      → Contains new spot ⊎ IsHeld rule steps levels spot

-- some step from `spot` leads to one of `last`
abbrev pub LeadsToOne : Steps → List Channel → Channel → Type 0
LeadsToOne steps last spot = (after : Channel) × Contains last after × Step steps spot after

-- `due` has the spots that get a level next
pub record AreDue (rule : Rule) (steps : Steps) (levels : List (Option ℕ)) (due : List Channel) : Type 0 where
  pub each : (spot : Channel) → Contains due spot → GetsLevel rule steps levels spot
  pub whole :
      (spot : Channel) → IsSpot spot → level_at levels spot ≡ None
      → Contains due spot ⊎ IsHeld rule steps levels spot

-- the spots in `due` that had no level now have the level `level`, and `raised` has exactly these spots
pub record IsRaisedTo (level : ℕ) (had : List (Option ℕ)) (due : List Channel) (levels : List (Option ℕ))
    (raised : List Channel) : Type 0 where
  pub count : length levels ≡ 1651
  pub kept : (spot : Channel) (own : ℕ) → IsSpot spot → level_at had spot ≡ Some own
      → level_at levels spot ≡ Some own
  pub new :
      (spot : Channel) (own : ℕ) → IsSpot spot → level_at had spot ≡ None → level_at levels spot ≡ Some own
      → (own ≡ level) × Contains due spot
  pub all : (spot : Channel) → Contains due spot → (own : ℕ) × (level_at levels spot ≡ Some own)
  pub whole :
      (spot : Channel) → IsSpot spot → level_at had spot ≡ None → level_at levels spot ≡ Some level
      → Contains raised spot
  pub each : (spot : Channel) → Contains raised spot → IsSpot spot × (level_at levels spot ≡ Some level)

-- `levels` are the levels below `round`, by a rule
abbrev pub AreLevelsBelow : Rule → Steps → ℕ → List (Option ℕ) → Type 0
AreLevelsBelow (Nearest goal) steps round levels = AreNearestBelow steps (λ spot. spot ≡ goal) round levels
AreLevelsBelow Rank steps round levels = AreRankedBelow steps round levels

-- `levels` are all the levels, by a rule
abbrev pub AreLevels : Rule → Steps → List (Option ℕ) → Type 0
AreLevels (Nearest goal) steps levels = AreNearest steps (λ spot. spot ≡ goal) levels
AreLevels Rank steps levels = AreRanked steps levels
