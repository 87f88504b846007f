-- How a judgement with lanes ends.
use Rattle.std.proofs.Common.{ℕ, List, [], ◌∷◌}
use Rattle.fabric_tables.specs.Cells.{TablesOf}
use Rattle.fabric_model.specs.Fabric.{FabricOf}
use Rattle.fabric_model.specs.declared.traffic.Traffic.{Traffic}
use Rattle.fabric_lane_tables.specs.Lanes.{LanesOf}
use Rattle.fabric_lane_tables.specs.PathLevels.{LevelsOf}
use Rattle.fabric_call.specs.declared.status.Status.TheVariants.{Cycle}
use Rattle.fabric_lane_verdict.specs.declared.verdict.LaneLoopChannel.{LaneLoopChannel}
use Rattle.fabric_lane_verdict.specs.LaneVerdict.{LaneCycleIs}
use Rattle.fabric_lane_commands.specs.LaneJudged.{IsLaneEndOf, IsLaneLoop}

module _ (fabric : FabricOf) (tables : TablesOf) (lanes : LanesOf) (traffic : Traffic) (levels : LevelsOf) where
  -- the least credit loop has channels, and is closed
  pub loop_is : (found : List LaneLoopChannel) → LaneCycleIs fabric tables lanes traffic levels found → IsLaneLoop fabric tables lanes traffic levels found
  loop_is [] is = absurd is.least
  loop_is (one ∷ rest) is = is

  pub cycle_ends : (given : LevelsOf) (count : ℕ) (found : List LaneLoopChannel) → LaneCycleIs fabric tables lanes traffic levels found → IsLaneEndOf fabric tables lanes traffic levels given count Cycle
  cycle_ends given count [] is = absurd is.least
  cycle_ends given count (one ∷ rest) is = (_, _, is.least.from.closed)
