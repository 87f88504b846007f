-- That lanes discard nothing with some levels. Only private functions cite this.
use Rattle.std.specs.Prelude.{◌≡◌, ◌<◌, ℕ, Option, Some}
use Rattle.std.specs.Int.{bit_at}
use Rattle.fabric_lane_counts.specs.Gone.{HasLane}
use Rattle.fabric_model.specs.declared.node.Side.{Side}
use Rattle.fabric_model.specs.declared.node.Side.TheVariants.{To}
use Rattle.fabric_model.specs.declared.node.Spot.{Spot}
use Rattle.fabric_model.specs.Fabric.{FabricOf, cable_of, side_of, switch_count}
use Rattle.fabric_lane_tables.specs.Lanes.{LanesOf}

module _ (fabric : FabricOf) (lanes : LanesOf) (used : ℕ) where
  -- what came in by one port is not discarded at another, if that leads somewhere
  abbrev pub IsKeptBy : Spot → ℕ → Type 0
  IsKeptBy at port =
      HasLane (side_of fabric at.switch port) → (level : ℕ) → level < 16 → bit_at used level ≡ 1
      → lanes at.switch at.port port level ≡ 15 → ⊥

  -- at none
  abbrev pub IsKeptAt : Spot → Type 0
  IsKeptAt at = (port : ℕ) → IsKeptBy at port

  -- the same of what comes in by a side, or a cable
  abbrev pub IsSideKept : Side → Type 0
  IsSideKept side =
      (next entry : ℕ) → side ≡ To next entry → IsKeptAt (record { switch = next; port = entry })

  abbrev pub IsCableKept : Option Spot → Type 0
  IsCableKept cable = (spot : Spot) → cable ≡ Some spot → IsKeptAt spot

  -- the same of all that comes in by a link, from an adapter or router, and from a switch itself
  abbrev pub AreLinksKept : Type 0
  AreLinksKept =
      (switch port : ℕ) → switch < switch_count fabric → IsSideKept (side_of fabric switch port)

  abbrev pub AreCablesKept : Type 0
  AreCablesKept = (end : ℕ) → IsCableKept (cable_of fabric end)

  abbrev pub AreSwitchesKept : Type 0
  AreSwitchesKept =
      (switch : ℕ) → switch < switch_count fabric → IsKeptAt (record { switch = switch; port = 0 })

  -- nothing with one of the levels is discarded anywhere
  pub record IsKept : Type 0 where
    pub links : AreLinksKept
    pub cables : AreCablesKept
    pub switches : AreSwitchesKept
