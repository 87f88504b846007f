-- Steps over spots, levels and ranks. Only private functions cite this.
use Rattle.std.specs.Prelude.{◌≡◌, ◌≢◌, ◌+◌, ◌<◌, ◌≤◌, ◌⊎◌, ℕ, suc, List, [], ◌∷◌, length, Option, Some, None}
use Rattle.std.specs.Prelude.{Bool, true, false, IsTrue, is_some}
use Rattle.std.specs.Int.{bit_at}
use Rattle.std.specs.Ordering.{is_le}
use Rattle.an_base.specs.Rows.{RowOf}
use Rattle.dep_check.specs.declared.channel.Channel.{Channel}
use Rattle.dep_check.specs.declared.steps.Steps.{Steps}
use Rattle.dep_check.specs.declared.level.Rule.{Rule}
use Rattle.dep_check.specs.declared.level.Rule.TheVariants.{Nearest, Rank}
use Rattle.common_graph.specs.Cycles.{IsLeastFrom, Walk}
use Rattle.dep_check.specs.Channels.{channel_cmp}
use Rattle.dep_check.specs.Tables.{IsSpot, place_of, wire_at, has_at, AreExitsBelow, level_at}

-- the channel `spot` leads by `exit`, an exit of its far side, to `after`, the channel of that exit
pub record Depends (wires : List (Option Channel)) (exits : List ℕ) (spot : Channel) (exit : ℕ)
    (after : Channel)
    : Type 0 where
  pub low : exit < 13
  pub entry : ℕ
  pub arrives : wire_at wires spot ≡ Some (record { at = after.at; port = entry })
  pub port : after.port ≡ exit
  pub has : has_at exits (record { at = after.at; port = entry }) exit ≡ true
  pub far : Channel
  pub link : wire_at wires after ≡ Some far

-- packets to `to` that arrive at `spot`, which is not their target, leave by `exit` and arrive at `after`
pub record GoesBy (wires : List (Option Channel)) (exits : List ℕ) (to : ℕ) (spot : Channel) (exit : ℕ)
    (after : Channel) : Type 0 where
  pub low : exit < 13
  pub before : spot.at ≢ to
  pub has : has_at exits spot exit ≡ true
  pub link : wire_at wires (record { at = spot.at; port = exit }) ≡ Some after

-- the step from `spot` by `exit` to `after`: a dependency of channels, or with a target a step of packets
abbrev pub IsStepOf : List (Option Channel) → List ℕ → Option ℕ → Channel → ℕ → Channel → Type 0
IsStepOf wires exits None spot exit after = Depends wires exits spot exit after
IsStepOf wires exits (Some to) spot exit after = GoesBy wires exits to spot exit after

-- a step from `spot` to `after`, by `exit` (`IsStep`) or by some exit (`Step`)
abbrev pub IsStep : Steps → Channel → ℕ → Channel → Type 0
IsStep steps spot exit after = IsStepOf steps.wires.items steps.exits.items steps.to spot exit after

abbrev pub Step : Steps → Channel → Channel → Type 0
Step steps spot after = (exit : ℕ) × IsStep steps spot exit after

-- `steps` are the steps by `wires` and by the rows that count
pub record AreSteps (wires : List (Option Channel)) (rows : List RowOf) (number : Option ℕ) (steps : Steps)
    : Type 0 where
  pub wires_are : steps.wires.items ≡ wires
  pub exits : AreExitsBelow rows number (length rows) steps.exits.items
  pub to : steps.to ≡ number

-- one of the ports in the set `ports` of the switch `at` has no link
abbrev pub HasLoosePort : List (Option Channel) → ℕ → ℕ → Type 0
HasLoosePort wires at ports =
    (port : ℕ) × (bit_at ports port ≡ 1) × (wire_at wires (record { at = at; port = port }) ≡ None)

-- `steps` are between the far sides `wires`, with an arbitrary set of exits for each of the 1,651 spots
pub record AreBetween (wires : List (Option Channel)) (steps : Steps) : Type 0 where
  pub wires_are : steps.wires.items ≡ wires
  pub count : length steps.exits.items ≡ 1651

-- `spot` is not at the target `to`, and has no exit, or an exit without a link
pub record IsEnd (wires : List (Option Channel)) (exits : List ℕ) (to : ℕ) (spot : Channel) : Type 0 where
  pub before : spot.at ≢ to
  pub gap :
      ((exit : ℕ) → exit < 13 → has_at exits spot exit ≡ true → ⊥)
      ⊎ ((exit : ℕ) × (exit < 13) × (has_at exits spot exit ≡ true)
      × (wire_at wires (record { at = spot.at; port = exit }) ≡ None))

-- packets to the target get stuck at `spot`; without a target nothing gets stuck
abbrev pub IsEndOf : List (Option Channel) → List ℕ → Option ℕ → Channel → Type 0
IsEndOf wires exits None spot = ⊥
IsEndOf wires exits (Some to) spot = IsEnd wires exits to spot

-- packets get stuck at `spot`
abbrev pub IsStuck : Steps → Channel → Type 0
IsStuck steps spot = IsEndOf steps.wires.items steps.exits.items steps.to spot

-- the step from `spot` by `exit` leads to a spot with a level (if `has`), or to one without (if not)
abbrev pub HasNextBy : Steps → List (Option ℕ) → Channel → Bool → ℕ → Type 0
HasNextBy steps levels spot has exit =
    (after : Channel) × IsStep steps spot exit after × (is_some (level_at levels after) ≡ has)

-- some step from `spot` leads to a spot with a level (if `has`), or to one without (if not)
abbrev pub HasNext : Steps → List (Option ℕ) → Channel → Bool → Type 0
HasNext steps levels spot has =
    (exit : ℕ) × (after : Channel) × IsStep steps spot exit after × (is_some (level_at levels after) ≡ has)

-- `spot` has a link
abbrev pub IsLinked : Steps → Channel → Type 0
IsLinked steps spot = (far : Channel) × (wire_at steps.wires.items spot ≡ Some far)

-- the channel `first` leads to `second` through the port `entry` of the switch of `second`
pub record ComesIn (steps : Steps) (first second : Channel) (entry : ℕ) : Type 0 where
  pub arrives : wire_at steps.wires.items first ≡ Some (record { at = second.at; port = entry })
  pub has : has_at steps.exits.items (record { at = second.at; port = entry }) second.port ≡ true
  pub link : IsLinked steps second

-- A spot without a level gets one: by `Nearest` if some step leads to a level, by `Rank` if it is a channel and all do.
abbrev pub IsDue : Rule → Steps → List (Option ℕ) → Channel → Type 0
IsDue (Nearest goal) steps levels spot = HasNext steps levels spot true
IsDue Rank steps levels spot = IsLinked steps spot × (HasNext steps levels spot false → ⊥)

-- `spot`, without a level, does not get one
abbrev pub IsHeld : Rule → Steps → List (Option ℕ) → Channel → Type 0
IsHeld (Nearest goal) steps levels spot = HasNext steps levels spot true → ⊥
IsHeld Rank steps levels spot = IsLinked steps spot → HasNext steps levels spot false

-- `new` is the level of `spot` after the round `round`
pub record IsRaised (rule : Rule) (steps : Steps) (levels : List (Option ℕ)) (round : ℕ) (spot : Channel)
    (new : Option ℕ) : Type 0 where
  pub kept : (level : ℕ) → level_at levels spot ≡ Some level → new ≡ Some level
  pub raised : (level : ℕ) → level_at levels spot ≡ None → new ≡ Some level
      → (level ≡ round) × IsDue rule steps levels spot
  pub left : level_at levels spot ≡ None → new ≡ None → IsHeld rule steps levels spot

-- `new` are the levels, after the round `round`, of the spots before the index `end`
pub record AreRaised (rule : Rule) (steps : Steps) (levels : List (Option ℕ)) (round end : ℕ)
    (new : List (Option ℕ)) : Type 0 where
  pub count : length new ≡ end
  pub each : (spot : Channel) → IsSpot spot → place_of spot < end
      → IsRaised rule steps levels round spot (level_at new spot)

-- a walk of `distance` steps leads from `spot` to a goal
abbrev pub Reaches : Steps → (Channel → Type 0) → ℕ → Channel → Type 0
Reaches steps Goal distance spot = (goal : Channel) × Walk (Step steps) distance spot goal × Goal goal

-- every level is the lowest number of steps to a goal
pub record AreNearest (steps : Steps) (Goal : Channel → Type 0) (levels : List (Option ℕ)) : Type 0 where
  pub reached : (spot : Channel) (level : ℕ) → IsSpot spot → level_at levels spot ≡ Some level
      → Reaches steps Goal level spot
  pub least : (spot : Channel) (level distance : ℕ) → IsSpot spot → level_at levels spot ≡ Some level
      → Reaches steps Goal distance spot → level ≤ distance
  pub none : (spot : Channel) (distance : ℕ) → IsSpot spot → level_at levels spot ≡ None
      → Reaches steps Goal distance spot → ⊥

-- every level below `round` is the lowest number of steps to a goal
pub record AreNearestBelow (steps : Steps) (Goal : Channel → Type 0) (round : ℕ) (levels : List (Option ℕ))
    : Type 0 where
  pub reached :
      (spot : Channel) (level : ℕ) → IsSpot spot → level_at levels spot ≡ Some level
      → Reaches steps Goal level spot × (level < round)
  pub least : (spot : Channel) (level distance : ℕ) → IsSpot spot → level_at levels spot ≡ Some level
      → Reaches steps Goal distance spot → level ≤ distance
  pub none : (spot : Channel) (distance : ℕ) → IsSpot spot → level_at levels spot ≡ None
      → Reaches steps Goal distance spot → round ≤ distance
  pub last :
      (round ≡ 1)
      ⊎ ((spot : Channel) × IsSpot spot × (level : ℕ) × (level_at levels spot ≡ Some level)
      × (level + 1 ≡ round))
  pub positive : 1 ≤ round

-- `level` is the rank of the channel `spot`: above the ranks that it leads to, and 0 or one more than one of these
pub record IsRanked (steps : Steps) (levels : List (Option ℕ)) (spot : Channel) (level : ℕ) : Type 0 where
  pub link : IsLinked steps spot
  pub above : (after : Channel) → Step steps spot after
      → (lower : ℕ) × (level_at levels after ≡ Some lower) × (lower < level)
  pub next : (level ≡ 0)
      ⊎ ((after : Channel) × (lower : ℕ) × Step steps spot after × (level_at levels after ≡ Some lower)
      × (level ≡ lower + 1))

-- `levels` are the ranks of all channels, except for those that lead for ever to others without a rank
pub record AreRanked (steps : Steps) (levels : List (Option ℕ)) : Type 0 where
  pub ranked : (spot : Channel) (level : ℕ) → IsSpot spot → level_at levels spot ≡ Some level
      → IsRanked steps levels spot level
  pub late :
      (spot : Channel) → IsSpot spot → IsLinked steps spot → level_at levels spot ≡ None
      → (after : Channel) × Step steps spot after × (level_at levels after ≡ None)

-- `levels` are the ranks below `round`
pub record AreRankedBelow (steps : Steps) (round : ℕ) (levels : List (Option ℕ)) : Type 0 where
  pub ranked :
      (spot : Channel) (level : ℕ) → IsSpot spot → level_at levels spot ≡ Some level
      → IsRanked steps levels spot level × (level < round)
  pub late :
      (spot : Channel) → IsSpot spot → IsLinked steps spot → level_at levels spot ≡ None
      → (round ≡ 0)
      ⊎ ((after : Channel) × Step steps spot after
      × ((level : ℕ) → level_at levels after ≡ Some level → level + 1 ≡ round))
  pub last :
      (round ≡ 0)
      ⊎ ((spot : Channel) × IsSpot spot × (level : ℕ) × (level_at levels spot ≡ Some level)
      × (level + 1 ≡ round))

-- `after` is the least spot of the level `at_level` that steps from `spot` lead to
pub record IsNextAt (steps : Steps) (levels : List (Option ℕ)) (spot : Channel) (at_level : ℕ)
    (after : Channel)
    : Type 0 where
  pub step : Step steps spot after
  pub level : level_at levels after ≡ Some at_level
  pub least : (other : Channel) → Step steps spot other → level_at levels other ≡ Some at_level
      → IsTrue (is_le (channel_cmp after other))

abbrev pub HasNextAt : Steps → List (Option ℕ) → Channel → ℕ → Type 0
HasNextAt steps levels spot level =
    (after : Channel) × Step steps spot after × (level_at levels after ≡ Some level)

-- `level` is the lowest level that the steps from `spot` by the exits below `end` lead to
pub record IsLeastAfter (steps : Steps) (levels : List (Option ℕ)) (spot : Channel) (end level : ℕ)
    : Type 0 where
  pub has : HasNextAt steps levels spot level
  pub least :
      (exit : ℕ) (after : Channel) (other : ℕ) → exit < end → IsStep steps spot exit after
      → level_at levels after ≡ Some other → level ≤ other

-- the lowest level that the steps by the exits below `end` lead to, or None if they lead to none
abbrev pub LeastAfter : Steps → List (Option ℕ) → Channel → ℕ → Option ℕ → Type 0
LeastAfter steps levels spot end None =
    (exit : ℕ) (after : Channel) (other : ℕ) → exit < end → IsStep steps spot exit after
    → level_at levels after ≡ Some other → ⊥
LeastAfter steps levels spot end (Some level) = IsLeastAfter steps levels spot end level

-- from `start`, whose next spot is at the level `level`, through a list of least next spots to `end`, whose next is at
-- the level `end_level`
abbrev pub Descends : Steps → List (Option ℕ) → Channel → ℕ → List Channel → Channel → ℕ → Type 0
Descends steps levels start level [] end end_level = (start ≡ end) × (level ≡ end_level)
Descends steps levels start level (next ∷ rest) end end_level =
    (lower : ℕ) × (level ≡ suc lower) × IsNextAt steps levels start level next
    × Descends steps levels next lower rest end end_level

-- a list of channels begins with `start` and is the least of the shortest cycles from it
abbrev pub IsLeastCycleFrom : (Channel → Channel → Type 0) → Channel → List Channel → Type 0
IsLeastCycleFrom Step start [] = ⊥
IsLeastCycleFrom Step start (first ∷ rest) = (first ≡ start) × IsLeastFrom channel_cmp Step start rest
