-- How many routes there are, and how many pairs without a level, end port by end port and LID by LID. Only private
-- functions cite this.
use Rattle.std.specs.Prelude.{◌≡◌, ◌<◌, ◌≤◌, ◌+◌, ◌*◌, ◌^◌, ◌⊎◌, ℕ, List, None, length, slice_index_or}
use Rattle.fabric_tables.specs.Cells.{TablesOf, tables_of}
use Rattle.fabric_counts.specs.Counts.{Route}
use Rattle.fabric_counts.specs.Steps.{place_of}
use Rattle.fabric_lane_counts.specs.declared.sums.Sums.{Sums}
use Rattle.fabric_lane_counts.specs.LaneCounts.{IsLaneRouteOf, IsSilent, LaneRoute}
use Rattle.fabric_model.specs.Fabric.{FabricOf, owner_of}
use Rattle.fabric_lane_routes.specs.declared.routing.LaneRouting.{LaneRouting}
use Rattle.fabric_routes.specs.Audience.{IsAudience}
use Rattle.fabric_routes.specs.Counting.{IsCountOf}
use Rattle.fabric_routes.specs.declared.audience.Audience.{Audience}
use Rattle.fabric_routes.specs.declared.audience.Audience.TheVariants.{Nobody}
use Rattle.fabric_model.specs.declared.traffic.Traffic.{Traffic}
use Rattle.fabric_lane_tables.specs.Levels.{levels_of}
use Rattle.fabric_lane_tables.specs.PathLevels.{LevelsOf}

-- of a routing, what is said of a fabric, tables, a traffic and levels
abbrev pub by_levels : {A : Type 1} → (FabricOf → TablesOf → Traffic → LevelsOf → A) → LaneRouting → A
by_levels Says routing =
    Says routing.fabric.now (tables_of routing.cells.now) routing.traffic (levels_of routing.levels.now)

-- the audience of each LID below a number, in a list of those for which the tables of a routing have a place
pub record AreAudiencesBelow (routing : LaneRouting) (end : ℕ) (audiences : List Audience) : Type 0 where
  pub size : length audiences ≡ 64 * routing.cells.now.blocks
  pub each :
      (lid : ℕ) → lid < end
      → IsAudience routing.fabric.now (tables_of routing.cells.now) routing.traffic lid
      (slice_index_or audiences lid Nobody)

-- .. and of all these
abbrev pub AreAudiencesOf : LaneRouting → List Audience → Type 0
AreAudiencesOf routing = AreAudiencesBelow routing (64 * routing.cells.now.blocks)

-- the pair of a route
abbrev pub pair_of : LaneRoute → Route
pair_of route = record { lid = route.lid; source = route.source }

-- a pair of one of the first so many end ports; or of the next one, with a lesser LID
abbrev pub IsPairBefore : FabricOf → (place lid : ℕ) → Route → Type 0
IsPairBefore fabric place lid pair =
    (place_of fabric pair.source < place) ⊎ ((place_of fabric pair.source ≡ place) × (pair.lid < lid))

-- a route of the traffic to a LID that nobody owns
abbrev pub IsUnowned : FabricOf → TablesOf → Traffic → LevelsOf → LaneRoute → Type 0
IsUnowned fabric tables traffic levels route =
    IsLaneRouteOf fabric tables traffic levels route × (owner_of fabric route.lid ≡ None)

module _ (fabric : FabricOf) (tables : TablesOf) (traffic : Traffic) (levels : LevelsOf) (place lid : ℕ) where
  -- a route of such a pair, and a pair without a level
  abbrev pub IsRouteBefore : LaneRoute → Type 0
  IsRouteBefore route =
      IsLaneRouteOf fabric tables traffic levels route × IsPairBefore fabric place lid (pair_of route)

  -- such a route to a LID that nobody owns
  abbrev pub IsUnownedBefore : LaneRoute → Type 0
  IsUnownedBefore route =
      IsUnowned fabric tables traffic levels route × IsPairBefore fabric place lid (pair_of route)

  abbrev pub IsSilentBefore : Route → Type 0
  IsSilentBefore pair =
      IsSilent fabric tables traffic levels pair × IsPairBefore fabric place lid pair

  -- there are so many of each, and not too many
  pub record AreSums (sums : Sums) : Type 0 where
    pub routes : IsCountOf IsRouteBefore sums.routes
    pub unowned : IsCountOf IsUnownedBefore sums.unowned
    pub silent : IsCountOf IsSilentBefore sums.silent
    pub few : sums.routes ≤ 16 * (place * 2 ^ 16 + lid)
    pub few_unowned : sums.unowned ≤ sums.routes
    pub few_silent : sums.silent ≤ place * 2 ^ 16 + lid

-- the sums of a routing
abbrev pub AreSumsOf : LaneRouting → (place lid : ℕ) → Sums → Type 0
AreSumsOf = by_levels AreSums
