-- With which levels what goes to a LID is discarded, at a switch or further on. Only private functions cite
-- this.
use Rattle.std.specs.Prelude.{◌≡◌, ◌<◌, ◌⊎◌, ◌↔◌, ℕ, List, length}
use Rattle.std.specs.Int.{bit_at}
use Rattle.fabric_tables.specs.Cells.{TablesOf}
use Rattle.fabric_lane_routes.specs.declared.hop.Exit.TheVariants.{By}
use Rattle.fabric_lane_routes.specs.declared.hop.LaneHop.TheVariants.{Discard}
use Rattle.fabric_lane_routes.specs.declared.hop.LaneOutcome.TheVariants.{Discards}
use Rattle.fabric_lane_routes.specs.LaneExits.{exit_of}
use Rattle.fabric_lane_routes.specs.LaneRoutes.{LaneEndsAs, lane_hop}
use Rattle.fabric_model.specs.declared.node.Side.{Side}
use Rattle.fabric_model.specs.declared.node.Side.TheVariants.{Bare, To, End}
use Rattle.fabric_model.specs.declared.node.Spot.{Spot}
use Rattle.fabric_model.specs.Fabric.{FabricOf, switch_count}
use Rattle.fabric_routes.specs.Waves.{HasBit, gap}
use Rattle.fabric_lane_tables.specs.Lanes.{LanesOf, lane_in}

-- by a port something goes out
abbrev pub HasLane : Side → Type 0
HasLane Bare = ⊥
HasLane (To next entry) = Unit {0}
HasLane (End end) = Unit {0}

-- the levels on lane 15, as bits
abbrev pub AreOnFifteen : (ℕ → ℕ) → ℕ → Type 0
AreOnFifteen lane_of word = (level : ℕ) → ((bit_at word level ≡ 1) ↔ ((level < 16) × (lane_of level ≡ 15)))

-- the lane of each level in a row
abbrev pub lane_by_row : ℕ → ℕ → ℕ
lane_by_row row level = lane_in row level

module _ (fabric : FabricOf) (tables : TablesOf) (lanes : LanesOf) (lid : ℕ) where
  -- the link by which a switch sends what goes to the LID leads to this port
  abbrev pub IsNext : ℕ → Spot → Type 0
  IsNext switch next =
      (port : ℕ) × (exit_of fabric switch (tables switch lid) ≡ By port (To next.switch next.port))

  -- what has a level is discarded here
  abbrev pub IsGoneAt : Spot → ℕ → Type 0
  IsGoneAt at level = (level < 16) × (lane_hop fabric tables lanes level lid at ≡ Discard)

  -- here or further on
  abbrev pub IsGoneFrom : Spot → ℕ → Type 0
  IsGoneFrom at level = (level < 16) × LaneEndsAs (lane_hop fabric tables lanes level lid) at Discards

  -- after it left a switch
  abbrev pub IsGoneAfter : ℕ → ℕ → Type 0
  IsGoneAfter switch level = (next : Spot) × IsNext switch next × IsGoneFrom next level

  -- words tell of each switch with which levels that is so ..
  abbrev pub AreGone : List ℕ → Type 0
  AreGone words =
      (switch level : ℕ) → switch < switch_count fabric
      → (HasBit words switch level ↔ IsGoneAfter switch level)

  -- .. or of some of them
  abbrev pub AreSomeGone : List ℕ → Type 0
  AreSomeGone words = (switch level : ℕ) → HasBit words switch level → IsGoneAfter switch level

  -- at the next switch, or after it as the words tell
  abbrev pub IsGoneNext : List ℕ → ℕ → ℕ → Type 0
  IsGoneNext words switch level =
      (next : Spot) × IsNext switch next × (IsGoneAt next level ⊎ HasBit words next.switch level)

  -- no word is to have a bit more because of the next ones
  abbrev pub IsSettled : List ℕ → ℕ → Type 0
  IsSettled words switch = (level : ℕ) → IsGoneNext words switch level → HasBit words switch level

  -- a word was joined by the bits that it is to have because of the next one
  pub record IsJoined (switch : ℕ) (old new : List ℕ) : Type 0 where
    pub some : AreSomeGone old → AreSomeGone new
    pub less : gap new < gap old
    pub count : length new ≡ length old
