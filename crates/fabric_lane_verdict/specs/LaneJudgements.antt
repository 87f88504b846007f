-- The judgement of the tables of a fabric with lanes, and how many channels and dependencies there are.
use Rattle.std.specs.Prelude.{◌≡◌, ◌↔◌, ℕ, false, IsTrue}
use Rattle.fabric_tables.specs.Cells.{TablesOf}
use Rattle.fabric_model.specs.Fabric.{FabricOf}
use Rattle.fabric_lane_tables.specs.Lanes.{LanesOf}
use Rattle.fabric_lane_tables.specs.PathLevels.{LevelsOf}
use Rattle.fabric_model.specs.declared.traffic.Traffic.{Traffic}
use Rattle.fabric_routes.specs.Counting.{IsCountOf}
use Rattle.fabric_lane_routes.specs.LaneFound.{IsLaneChannel, SomeIsLaneStopped}
use Rattle.fabric_lane_routes.specs.LaneRoutes.{LaneChannel, LaneDependsOn}
use Rattle.fabric_lane_verdict.specs.declared.judge.LaneJudgement.{LaneJudgement}
use Rattle.fabric_lane_verdict.specs.declared.verdict.LaneVerdict.{LaneVerdict}
use Rattle.fabric_lane_verdict.specs.declared.verdict.LaneVerdict.TheVariants.{Ranks, Cycle}
use Rattle.fabric_lane_verdict.specs.LaneVerdict.{IsLaneVerdict, LanePasses}

-- so many channels on so many lanes
abbrev pub IsLaneChannelCount : FabricOf → (lanes count : ℕ) → Type 0
IsLaneChannelCount fabric lanes = IsCountOf (IsLaneChannel fabric lanes)

module _ (fabric : FabricOf) (tables : TablesOf) (lanes : LanesOf) (traffic : Traffic) (levels : LevelsOf) where
  -- two channels, of which the first depends on the second
  abbrev pub IsLaneDependency : LaneChannel × LaneChannel → Type 0
  IsLaneDependency pair = LaneDependsOn fabric tables lanes traffic levels pair.0 pair.1

  -- so many pairs of channels are dependencies
  abbrev pub IsLaneDependencyCount : ℕ → Type 0
  IsLaneDependencyCount = IsCountOf IsLaneDependency

  -- if there is no credit loop, each route of the traffic arrives
  abbrev pub LanePassesIfRanked : ℕ → LaneVerdict → Type 0
  LanePassesIfRanked count (Ranks ranks) = LanePasses fabric tables lanes traffic levels count ranks.items
  LanePassesIfRanked count (Cycle channels) = Unit {0}

  -- The verdict on so many lanes; whether a route stops or is discarded, and if none does and there is no credit loop,
  -- all arrive; how many channels there are; and how many dependencies.
  pub record IsLaneJudgement (count : ℕ) (judged : LaneJudgement) : Type 0 where
    pub verdict : IsLaneVerdict fabric tables lanes traffic levels count judged.verdict
    pub stops : IsTrue judged.stops ↔ SomeIsLaneStopped fabric tables lanes traffic levels
    pub passes : judged.stops ≡ false → LanePassesIfRanked count judged.verdict
    pub channels : IsLaneChannelCount fabric count judged.channels
    pub dependencies : IsLaneDependencyCount judged.dependencies
