-- The spots that a walk over the steps sees. Only private functions cite this.
use Rattle.std.specs.Prelude.{◌≡◌, ◌⊎◌, ◌+◌, ℕ, List, [], ◌∷◌, length, Bool, true, false, Contains}
use Rattle.std.specs.Prelude.{slice_index_or, if◌then◌else◌}
use Rattle.dep_check.specs.declared.channel.Channel.{Channel}
use Rattle.dep_check.specs.declared.steps.Steps.{Steps}
use Rattle.common_graph.specs.Cycles.{Walk}
use Rattle.dep_check.specs.Tables.{IsSpot, place_of}
use Rattle.dep_check.specs.Search.{IsStuck, Step}

-- whether `spot` is seen
abbrev pub seen_at : List Bool → Channel → Bool
seen_at seen spot = slice_index_or seen (place_of spot) false

-- the number of spots that are not seen
abbrev pub unseen : List Bool → ℕ
unseen [] = 0
unseen (seen ∷ rest) = (if seen then 0 else 1) + unseen rest

-- The spots of `Kind` are seen now, and those that were not seen before are put in front of the others in `ahead`.
pub record Sees (Kind : Channel → Type 0) (old : List Bool) (before : List Channel) (seen : List Bool)
    (ahead : List Channel) : Type 0 where
  pub count : length seen ≡ length old
  pub kept : (spot : Channel) → seen_at old spot ≡ true → seen_at seen spot ≡ true
  pub all : (spot : Channel) → Kind spot → seen_at seen spot ≡ true
  pub new :
      (spot : Channel) → IsSpot spot → seen_at seen spot ≡ true
      → (seen_at old spot ≡ true) ⊎ (Kind spot × Contains ahead spot)
  pub held : (spot : Channel) → Contains before spot → Contains ahead spot
  pub each : (spot : Channel) → Contains ahead spot → Contains before spot ⊎ Kind spot
  pub size : unseen seen + length ahead ≡ unseen old + length before

-- steps lead from `start` to `spot`
abbrev pub Leads : Steps → Channel → Channel → Type 0
Leads steps start spot = (distance : ℕ) × Walk (Step steps) distance start spot

-- packets get stuck at some spot that steps lead to from `start`
abbrev pub LeadsToEnd : Steps → Channel → Type 0
LeadsToEnd steps start = (end : Channel) × IsSpot end × Leads steps start end × IsStuck steps end

-- `spot` was visited: all spots that its steps lead to are seen, and if packets get stuck there, `stuck` is true
pub record IsLookedAt (steps : Steps) (seen : List Bool) (stuck : Bool) (spot : Channel) : Type 0 where
  pub next : (after : Channel) → Step steps spot after → seen_at seen after ≡ true
  pub told : IsStuck steps spot → stuck ≡ true

-- the state of a walk from `start`: the spots seen before (`had`) and now (`seen`), a flag for each of the 1,651, and
-- the spots that are still to be visited (`ahead`)
pub record IsWalking (steps : Steps) (start : Channel) (had seen : List Bool) (ahead : List Channel)
    (stuck : Bool) : Type 0 where
  pub count : length seen ≡ 1651
  pub begun : seen_at seen start ≡ true
  pub kept : (spot : Channel) → seen_at had spot ≡ true → seen_at seen spot ≡ true
  pub reached :
      (spot : Channel) → IsSpot spot → seen_at seen spot ≡ true
      → (seen_at had spot ≡ true) ⊎ Leads steps start spot
  pub waiting : (spot : Channel) → Contains ahead spot → IsSpot spot × Leads steps start spot
  pub looked :
      (spot : Channel) → IsSpot spot → seen_at seen spot ≡ true
      → (seen_at had spot ≡ true) ⊎ (Contains ahead spot ⊎ IsLookedAt steps seen stuck spot)
  pub found : stuck ≡ true → LeadsToEnd steps start

-- the state of a walk from `start` when it has ended
pub record IsWalked (steps : Steps) (start : Channel) (had seen : List Bool) (stuck : Bool) : Type 0 where
  pub count : length seen ≡ 1651
  pub begun : seen_at seen start ≡ true
  pub kept : (spot : Channel) → seen_at had spot ≡ true → seen_at seen spot ≡ true
  pub reached :
      (spot : Channel) → IsSpot spot → seen_at seen spot ≡ true
      → (seen_at had spot ≡ true) ⊎ Leads steps start spot
  pub looked :
      (spot : Channel) → IsSpot spot → seen_at seen spot ≡ true
      → (seen_at had spot ≡ true) ⊎ IsLookedAt steps seen stuck spot
  pub found : stuck ≡ true → LeadsToEnd steps start

-- no packets get stuck at a spot that is seen, and all spots that its steps lead to are seen
abbrev pub IsClear : Steps → List Bool → Type 0
IsClear steps seen =
    (spot : Channel) → IsSpot spot → seen_at seen spot ≡ true → IsLookedAt steps seen false spot
