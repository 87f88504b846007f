-- The service levels that are given: those that were told, and the one of pairs for which none was. And those in use: those
-- that are given, and those of replies.
use Rattle.std.specs.Prelude.{◌≡◌, ◌<◌, ◌≤◌, ◌*◌, ◌⊎◌, ◌↔◌, ℕ, Bool, true, List, Option, None, Some, Contains, length}
use Rattle.std.specs.Int.{bit_at}
use Rattle.fabric_model.specs.declared.node.EndPort.{EndPort}
use Rattle.fabric_model.specs.Fabric.{FabricOf, owner_of, switch_count}
use Rattle.fabric_lane_tables.specs.declared.in_use.UsedLevels.{UsedLevels}
use Rattle.fabric_lane_tables.specs.declared.levels.Levels.{Levels}
use Rattle.fabric_lane_tables.specs.declared.levels.Levels.TheVariants.{Same, Told, Filled}
use Rattle.fabric_lane_tables.specs.Levels.{levels_of}
use Rattle.fabric_lane_tables.specs.PathLevels.{HasLevel, IsPlaced, LevelRowsOf, LevelsOf, told_levels}

-- the pair was told this level; or it was told none, and this is the level of silent pairs
abbrev pub IsLevelGiven : (silent : Option ℕ) → (told : LevelsOf) → (source : EndPort) (lid level : ℕ) → Type 0
IsLevelGiven silent told source lid level =
    HasLevel told source lid level ⊎ ((silent ≡ Some level) × ((other : ℕ) → ¬ HasLevel told source lid other))

-- these levels are given: of each pair exactly those
pub record AreLevelsGiven (silent : Option ℕ) (told given : LevelsOf) : Type 0 where
  pub each :
      (source : EndPort) (lid level : ℕ)
      → (HasLevel given source lid level ↔ IsLevelGiven silent told source lid level)

-- A reply travels with the level of its request: to some LID of the source the owner of the LID sends with this level.
pub record HasReplyLevel (fabric : FabricOf) (given : LevelsOf) (source : EndPort) (lid level : ℕ) : Type 0 where
  pub owner : EndPort
  pub owns : owner_of fabric lid ≡ Some owner
  pub asked : ℕ
  pub of_source : owner_of fabric asked ≡ Some source
  pub has : HasLevel given owner asked level

-- a level that is given, or that a reply has if replies count
abbrev pub IsLevelInUse :
    FabricOf → (replies : Bool) → (given : LevelsOf) → (source : EndPort) (lid level : ℕ) → Type 0
IsLevelInUse fabric replies given source lid level =
    HasLevel given source lid level ⊎ ((replies ≡ true) × HasReplyLevel fabric given source lid level)

-- these levels are in use: of each pair exactly those
pub record AreLevelsInUse (fabric : FabricOf) (replies : Bool) (given used : LevelsOf) : Type 0 where
  pub each :
      (source : EndPort) (lid level : ℕ)
      → (HasLevel used source lid level ↔ IsLevelInUse fabric replies given source lid level)

-- those with replies, or those that are given if these are the same
abbrev pub used_or : Levels → Option Levels → Levels
used_or given None = given
used_or given (Some used) = used

abbrev pub levels_in_use : UsedLevels → LevelsOf
levels_in_use levels = levels_of (used_or levels.given levels.replied)

-- there is a place for each end port, and for each LID that has an owner
pub record HasRoom (fabric : FabricOf) (rows : LevelRowsOf) : Type 0 where
  pub ends : rows.ends ≡ length fabric.cables
  pub switches : rows.switches ≡ switch_count fabric
  pub lids : length fabric.owners ≤ 64 * rows.blocks

-- .. in the levels that were told, and the level of silent pairs is one of 0 to 15
abbrev pub HasRoomFor : FabricOf → Levels → Type 0
HasRoomFor fabric (Same levels) = Unit {0}
HasRoomFor fabric (Told told) = HasRoom fabric told
HasRoomFor fabric (Filled told silent) = HasRoom fabric told × (silent < 16)

-- What follows only functions of `in_use` cite.

-- these are the LIDs of an end port
pub record AreLidsOf (fabric : FabricOf) (source : EndPort) (lids : List ℕ) : Type 0 where
  pub are : (lid : ℕ) → Contains lids lid → owner_of fabric lid ≡ Some source
  pub all : (lid : ℕ) → owner_of fabric lid ≡ Some source → Contains lids lid

-- a level with which an end port sends to one of some LIDs
abbrev pub IsAskedTo : LevelsOf → EndPort → List ℕ → ℕ → Type 0
IsAskedTo given owner lids level = (lid : ℕ) × Contains lids lid × HasLevel given owner lid level

-- rows of levels have as much room as others
pub record HasSameRoom (old new : LevelRowsOf) : Type 0 where
  pub ends : new.ends ≡ old.ends
  pub switches : new.switches ≡ old.switches
  pub blocks : new.blocks ≡ old.blocks

-- the new levels are the old ones, and those of which a relation holds
pub record AddsLevels (old new : LevelsOf) (Is : EndPort → ℕ → ℕ → Type 0) : Type 0 where
  pub kept : (source : EndPort) (lid level : ℕ) → HasLevel old source lid level → HasLevel new source lid level
  pub added : (source : EndPort) (lid level : ℕ) → Is source lid level → HasLevel new source lid level
  pub only :
      (source : EndPort) (lid level : ℕ) → HasLevel new source lid level
      → HasLevel old source lid level ⊎ Is source lid level

-- some levels of one pair
abbrev pub IsLevelOfPair : (source : EndPort) (lid levels : ℕ) → EndPort → ℕ → ℕ → Type 0
IsLevelOfPair source lid levels other other_lid level =
    (other ≡ source) × (other_lid ≡ lid) × (level < 16) × (bit_at levels level ≡ 1)

-- a level of one end port to one of the first LIDs, those of replies among them
abbrev pub IsUsedTo : FabricOf → LevelsOf → EndPort → (lids : ℕ) → EndPort → ℕ → ℕ → Type 0
IsUsedTo fabric given source lids other lid level =
    (other ≡ source) × (lid < lids) × IsLevelInUse fabric true given other lid level

-- .. of the first end ports of one kind
abbrev pub IsUsedBelow : FabricOf → LevelsOf → (kind : ℕ → EndPort) (count lids : ℕ) → EndPort → ℕ → ℕ → Type 0
IsUsedBelow fabric given kind count lids other lid level =
    ((place : ℕ) × (place < count) × (other ≡ kind place)) × (lid < lids)
    × IsLevelInUse fabric true given other lid level

-- rows of levels have a place for each end port, and in the room that they have exactly the levels in use
pub record AreUsedRows (fabric : FabricOf) (given : LevelsOf) (rows : LevelRowsOf) : Type 0 where
  pub ends : rows.ends ≡ length fabric.cables
  pub switches : rows.switches ≡ switch_count fabric
  pub each :
      (source : EndPort) (lid level : ℕ)
      → (HasLevel (told_levels rows) source lid level
      ↔ (IsPlaced rows source × (lid < 64 * rows.blocks) × IsLevelInUse fabric true given source lid level))
