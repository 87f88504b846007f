-- Service levels by blocks of LIDs, equal blocks kept once, and as a function.
use Rattle.std.specs.Prelude.{◌≡◌, ◌<◌, ◌≤◌, ◌⊎◌, ◌+◌, ◌*◌, ◌/◌, ◌%◌, ◌^◌, ◌==◌, ◌&&◌, ℕ, Bool, false, List}
use Rattle.std.specs.Prelude.{Option, Some, None}
use Rattle.std.specs.Prelude.{length, slice_get, slice_index, slice_index_or, take, drop, if◌then◌else◌}
use Rattle.std.specs.Prelude.{nat_lt, bit_or}
use Rattle.std.specs.Int.{bit_at}
use Rattle.fabric_model.specs.declared.node.EndPort.{EndPort}
use Rattle.fabric_model.specs.declared.node.EndPort.TheVariants as port

-- the service levels with which an end port sends to a LID, each as a bit of a number
abbrev pub LevelsOf : Type 0
LevelsOf = EndPort → ℕ → ℕ

-- it sends with this level, one of 0 to 15
abbrev pub HasLevel : LevelsOf → EndPort → ℕ → ℕ → Type 0
HasLevel levels source lid level = (level < 16) × (bit_at (levels source lid) level ≡ 1)

-- the levels of one are among those of the other
abbrev pub AreLevelsAmong : LevelsOf → LevelsOf → Type 0
AreLevelsAmong levels others =
    (source : EndPort) (lid level : ℕ) → HasLevel levels source lid level → HasLevel others source lid level

-- all levels are below a number
abbrev pub AreLevelsBelow : LevelsOf → ℕ → Type 0
AreLevelsBelow levels count = (source : EndPort) (lid level : ℕ) → HasLevel levels source lid level → level < count

-- two end ports send with the same levels to each LID of a block
abbrev pub HaveSameLevels : LevelsOf → (one other : EndPort) (block : ℕ) → Type 0
HaveSameLevels levels one other block =
    (bit : ℕ) → bit < 64 → levels one (64 * block + bit) ≡ levels other (64 * block + bit)

-- How many end ports of adapters and routers, switches and blocks of 64 LIDs there are, and how many levels
-- at most. The different blocks of levels, and of each end port and block of LIDs the place of its block
-- among them. The end port that was told last, by its place, with its levels to all LIDs.
pub record LevelRowsOf : Type 0 where
  pub ends : ℕ
  pub switches : ℕ
  pub blocks : ℕ
  pub count : ℕ
  pub rows : List (List ℕ)
  pub places : List ℕ
  pub current : ℕ
  pub row : List ℕ

-- the place of an end port, those of adapters and routers first
abbrev pub place_of_source : LevelRowsOf → EndPort → Option ℕ
place_of_source told (port.Host end) = if nat_lt end told.ends then Some end else None
place_of_source told (port.Switch switch) =
    if nat_lt switch told.switches then Some (told.ends + switch) else None

-- whether it has one
abbrev pub IsPlaced : LevelRowsOf → EndPort → Type 0
IsPlaced told (port.Host end) = end < told.ends
IsPlaced told (port.Switch switch) = switch < told.switches

-- the levels of a LID in a block: none if there is no block
abbrev pub word_in : Option (List ℕ) → ℕ → ℕ
word_in None lid = 0
word_in (Some levels) lid = slice_index levels (lid % 64)

abbrev pub block_word : List (List ℕ) → (place lid : ℕ) → ℕ
block_word rows place lid = word_in (slice_get rows place) lid

-- those of an end port that are kept by blocks
abbrev pub stored_at : LevelRowsOf → (place lid : ℕ) → ℕ
stored_at told place lid =
    block_word told.rows (slice_index_or told.places (place * told.blocks + lid / 64) 4294967295) lid

-- .. or apart
abbrev pub levels_here : LevelRowsOf → (place lid : ℕ) → ℕ
levels_here told place lid =
    if place == told.current then slice_index told.row lid else stored_at told place lid

-- None: the end port has no place, and it sends with no level
abbrev pub levels_at : LevelRowsOf → ℕ → Option ℕ → ℕ
levels_at told lid None = 0
levels_at told lid (Some place) = if nat_lt lid (64 * told.blocks) then levels_here told place lid else 0

-- those that were told
abbrev pub told_levels : LevelRowsOf → LevelsOf
told_levels told source lid = levels_at told lid (place_of_source told source)

-- whether end ports are the same
abbrev pub is_end : EndPort → EndPort → Bool
is_end (port.Host end) (port.Host other) = end == other
is_end (port.Switch switch) (port.Switch other) = switch == other
is_end source other = false

-- the levels with one more, or with one told again
abbrev pub with_level : LevelsOf → (source : EndPort) (lid level : ℕ) → LevelsOf
with_level told source lid level other other_lid =
    if is_end other source && other_lid == lid then bit_or (told other other_lid) (2 ^ level)
    else told other other_lid

abbrev pub IsLevelAdded : LevelsOf → LevelsOf → (source : EndPort) (lid level : ℕ) → Type 0
IsLevelAdded old new source lid level =
    (other : EndPort) (other_lid : ℕ) → new other other_lid ≡ with_level old source lid level other other_lid

-- a block stands at this place
abbrev pub HasBlockAt : List (List ℕ) → List ℕ → ℕ → Type 0
HasBlockAt rows levels place = slice_get rows place ≡ Some levels

-- the blocks stand where they stood, and are not too many
pub record KeepsBlocks (old new : List (List ℕ)) : Type 0 where
  pub same : (place : ℕ) → place < length old → slice_get new place ≡ slice_get old place
  pub more : length old ≤ length new
  pub few : length new ≤ 4294967295

-- places are those of no block, or of one that there is
abbrev pub IsBlockPlace : List (List ℕ) → ℕ → Type 0
IsBlockPlace rows place = (place ≡ 4294967295) ⊎ (place < length rows)

abbrev pub ArePlaces : List (List ℕ) → List ℕ → Type 0
ArePlaces rows places = (k : ℕ) → k < length places → IsBlockPlace rows (slice_index_or places k 4294967295)

-- from the first place on stand the blocks of a row
abbrev pub AreBlocksOf : List (List ℕ) → (places : List ℕ) → (first blocks : ℕ) → (row : List ℕ) → Type 0
AreBlocksOf rows places first blocks row =
    (k : ℕ) → k < blocks
    → HasBlockAt rows (take 64 (drop (64 * k) row)) (slice_index_or places (first + k) 4294967295)

-- all other places are as they were
abbrev pub AreOthersSame : (old new : List ℕ) → (first blocks : ℕ) → Type 0
AreOthersSame old new first blocks =
    (k : ℕ) → (k < first) ⊎ (first + blocks ≤ k)
    → slice_index_or new k 4294967295 ≡ slice_index_or old k 4294967295

-- a row has what stands from the first place on
abbrev pub ReadsBlocks : List (List ℕ) → (places : List ℕ) → (first : ℕ) → (row : List ℕ) → Type 0
ReadsBlocks rows places first row =
    (lid : ℕ) → lid < length row
    → slice_index row lid ≡ block_word rows (slice_index_or places (first + lid / 64) 4294967295) lid

-- the place of a block in a row of places that has so many: one beyond them has none
abbrev pub wide_place : (places : List ℕ) → (old row block : ℕ) → ℕ
wide_place places old row block =
    if nat_lt block old then slice_index_or places (row * old + block) 4294967295 else 4294967295

-- so many rows of places have more each, and say what they said
pub record AreWidened (places : List ℕ) (rows old new : ℕ) (wide : List ℕ) : Type 0 where
  pub size : length wide ≡ rows * new
  pub each :
      (k : ℕ) → k < rows * new
      → slice_index_or wide k 4294967295 ≡ wide_place places old (k / new) (k % new)

-- the levels are the same, of as many end ports and LIDs
pub record SaysAsMuch (old new : LevelRowsOf) : Type 0 where
  pub ends : new.ends ≡ old.ends
  pub switches : new.switches ≡ old.switches
  pub blocks : new.blocks ≡ old.blocks
  pub count : new.count ≡ old.count
  pub levels :
      (place lid : ℕ) → place < old.ends + old.switches → lid < 64 * old.blocks
      → levels_here new place lid ≡ levels_here old place lid

-- what holds of all levels that are kept
pub record AreLevelRows (told : LevelRowsOf) : Type 0 where
  pub size : length told.places ≡ (told.ends + told.switches) * told.blocks
  pub row_size : length told.row ≡ 64 * told.blocks
  pub few_ends : told.ends < 2 ^ 16
  pub few : told.switches ≤ 2 ^ 14
  pub low : told.blocks ≤ 1024
  pub rows : length told.rows ≤ 4294967295
  pub each : ArePlaces told.rows told.places
  pub current : (told.current < told.ends + told.switches) ⊎ (told.current ≡ 0)
  pub few_levels : told.count ≤ 16
  pub below : AreLevelsBelow (told_levels told) told.count
