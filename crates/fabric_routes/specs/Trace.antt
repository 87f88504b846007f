-- What is known of the switches while the routes to a LID are followed. Only private functions cite this.
use Rattle.std.specs.Prelude.{◌≡◌, ◌<◌, ◌≤◌, ◌+◌, ◌-◌, ◌*◌, ◌/◌, ◌%◌, ◌⊎◌, ◌==◌, ℕ, Bool, true, false, List, Option, Some, None}
use Rattle.std.specs.Prelude.{length, slice_index, slice_index_or, count_by, if◌then◌else◌}
use Rattle.fabric_model.specs.Fabric.{FabricOf}
use Rattle.fabric_tables.specs.Cells.{TablesOf}
use Rattle.fabric_routes.specs.declared.hop.Cause.TheVariants.{Wrong}
use Rattle.fabric_routes.specs.declared.hop.Hop.{Hop}
use Rattle.fabric_routes.specs.declared.hop.Hop.TheVariants.{On, Arrive, Stop}
use Rattle.fabric_routes.specs.declared.hop.Outcome.{Outcome}
use Rattle.fabric_routes.specs.declared.hop.Outcome.TheVariants.{Arrives, Stops, Loops}
use Rattle.fabric_routes.specs.declared.trace.After.{After}
use Rattle.fabric_routes.specs.declared.trace.After.TheVariants.{Goes, Ends}
use Rattle.fabric_routes.specs.declared.trace.Mark.{Mark}
use Rattle.fabric_routes.specs.declared.trace.Mark.TheVariants.{New, Open, Known}
use Rattle.fabric_routes.specs.declared.trace.Target.{Target}
use Rattle.fabric_routes.specs.Routes.{EndsAs, hop}

-- the hop at a switch that is not the one where routes are to arrive
abbrev pub not_there : Hop → Hop
not_there (On port next) = On port next
not_there Arrive = Stop Wrong
not_there (Stop cause) = Stop cause

abbrev pub hop_until : Option ℕ → ℕ → Hop → Hop
hop_until None at does = does
hop_until (Some until) at does = if until == at then Arrive else not_there does

-- what the switch does with packets to `target`
abbrev pub hop_to : FabricOf → TablesOf → Target → ℕ → Hop
hop_to fabric tables target at = hop_until target.until at (hop fabric tables at (64 * target.block + target.bit))

abbrev pub mark_at : List Mark → ℕ → Mark
mark_at marks at = slice_index_or marks at New

abbrev pub is_known : Mark → Bool
is_known New = false
is_known Open = false
is_known (Known outcome) = true

abbrev pub is_new : Mark → Bool
is_new New = true
is_new Open = false
is_new (Known outcome) = false

-- a route that arrives goes through at most `most` switches
abbrev pub IsShort : ℕ → Outcome → Type 0
IsShort most (Arrives switches) = switches ≤ most
IsShort most (Stops cause) = Unit {0}
IsShort most Loops = Unit {0}

-- where `marks` knows how a route ends, it ends in that way
abbrev pub AreEnds : (ℕ → Hop) → List Mark → Type 0
AreEnds hop_at marks = (at : ℕ) (outcome : Outcome) → mark_at marks at ≡ Known outcome → EndsAs hop_at at outcome

-- each route whose end is known goes only through switches whose ends are known
abbrev pub AreShort : List Mark → Type 0
AreShort marks =
    (at : ℕ) (outcome : Outcome) → mark_at marks at ≡ Known outcome → IsShort (count_by is_known marks) outcome

-- no route is being followed
abbrev pub AreSettled : List Mark → Type 0
AreSettled marks = (at : ℕ) → mark_at marks at ≡ Open → ⊥

-- the open switches are those of `path`
pub record IsOpenPath (marks : List Mark) (path : List ℕ) : Type 0 where
  pub low : (place : ℕ) → place < length path → slice_index path place < length marks
  pub open_at : (place : ℕ) → place < length path → mark_at marks (slice_index path place) ≡ Open
  pub has : (at : ℕ) → mark_at marks at ≡ Open → (place : ℕ) × (place < length path) × (slice_index path place ≡ at)
  pub apart :
      (one other : ℕ) → one < length path → other < length path → slice_index path one ≡ slice_index path other
      → one ≡ other

-- each switch of `path` leads to the next one
abbrev pub IsChain : (ℕ → Hop) → List ℕ → Type 0
IsChain hop_at path =
    (place : ℕ) → place + 1 < length path
    → (port : ℕ) × (hop_at (slice_index path place) ≡ On port (slice_index path (place + 1)))

abbrev pub last_of : List ℕ → ℕ
last_of path = slice_index path (length path - 1)

-- how the route ends after a hop
abbrev pub EndsAfter : (ℕ → Hop) → Hop → Outcome → Type 0
EndsAfter hop_at (On port next) outcome = EndsAs hop_at next outcome
EndsAfter hop_at Arrive outcome = outcome ≡ Arrives 0
EndsAfter hop_at (Stop cause) outcome = outcome ≡ Stops cause

-- the outcome with one switch more
abbrev pub longer : Outcome → Outcome
longer (Arrives switches) = Arrives (switches + 1)
longer (Stops cause) = Stops cause
longer Loops = Loops

-- a route was followed from `start` along `path` to `at`, which is new
pub record IsFollowing (hop_at : ℕ → Hop) (start : ℕ) (marks : List Mark) (path : List ℕ) (at : ℕ) : Type 0 where
  pub opened : IsOpenPath marks path
  pub chain : IsChain hop_at path
  pub ends : AreEnds hop_at marks
  pub short : AreShort marks
  pub new : mark_at marks at ≡ New
  pub low : at < length marks
  pub begins : length path ≡ 0 → at ≡ start
  pub first : 0 < length path → slice_index path 0 ≡ start
  pub leads : 0 < length path → (port : ℕ) × (hop_at (last_of path) ≡ On port at)

-- a route was followed from `start` to the last switch of `path`
pub record IsReached (hop_at : ℕ → Hop) (start : ℕ) (marks : List Mark) (path : List ℕ) : Type 0 where
  pub opened : IsOpenPath marks path
  pub chain : IsChain hop_at path
  pub ends : AreEnds hop_at marks
  pub short : AreShort marks
  pub some : 0 < length path
  pub first : slice_index path 0 ≡ start

-- a route was followed from `start` to the last switch of `path`, and ends as `beyond` after that
pub record IsFollowed (hop_at : ℕ → Hop) (start : ℕ) (marks : List Mark) (path : List ℕ) (beyond : Outcome) : Type 0 where
  pub reached : IsReached hop_at start marks path
  pub after : EndsAfter hop_at (hop_at (last_of path)) beyond
  pub few : IsShort (count_by is_known marks) beyond

-- the switches behind `path`, up to the end of `whole`, are settled: `outcome` is how the route from the next
-- switch ends
pub record IsSettling (hop_at : ℕ → Hop) (marks : List Mark) (path whole : List ℕ) (outcome : Outcome) : Type 0 where
  pub ends : AreEnds hop_at marks
  pub chain : IsChain hop_at path
  pub after : 0 < length path → EndsAfter hop_at (hop_at (last_of path)) outcome
  pub done : length path < length whole → EndsAs hop_at (slice_index whole (length path)) outcome

-- what `marks` knows is true, and no route is being followed
pub record IsReady (hop_at : ℕ → Hop) (count : ℕ) (marks : List Mark) : Type 0 where
  pub size : length marks ≡ count
  pub ends : AreEnds hop_at marks
  pub short : AreShort marks
  pub settled : AreSettled marks

-- how a route continues after a hop, by what is known of the switch to which the hop leads
abbrev pub IsAfter : List Mark → Hop → After → Type 0
IsAfter marks (On port next) (Goes at) = (at ≡ next) × (mark_at marks next ≡ New)
IsAfter marks (On port next) (Ends beyond) =
    (mark_at marks next ≡ Known beyond) ⊎ ((mark_at marks next ≡ Open) × (beyond ≡ Loops))
IsAfter marks Arrive (Goes at) = ⊥
IsAfter marks Arrive (Ends beyond) = beyond ≡ Arrives 0
IsAfter marks (Stop cause) (Goes at) = ⊥
IsAfter marks (Stop cause) (Ends beyond) = beyond ≡ Stops cause

-- the hop leads to one of the first `count` switches
abbrev pub LandsWithin : ℕ → Hop → Type 0
LandsWithin count (On port next) = next < count
LandsWithin count Arrive = Unit {0}
LandsWithin count (Stop cause) = Unit {0}

-- the target that is the route to `lid`, until it comes to `via`
abbrev pub way : ℕ → ℕ → Target
way lid via = record { block = lid / 64; bit = lid % 64; until = Some via }

-- the target that is the route to `lid`, until it ends
abbrev pub whole : ℕ → Target
whole lid = record { block = lid / 64; bit = lid % 64; until = None }
