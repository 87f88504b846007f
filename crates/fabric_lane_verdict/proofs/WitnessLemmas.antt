-- The routes that make the dependencies of a credit loop on lanes.
use Rattle.std.proofs.Common.{sym, subst, ℕ, ◌<◌, ◌≤◌, List, length}
use Rattle.fabric_tables.specs.Cells.{TablesOf}
use Rattle.fabric_model.specs.Fabric.{FabricOf, IsFabric, switch_count}
use Rattle.fabric_lane_tables.specs.Lanes.{LanesOf}
use Rattle.fabric_lane_tables.specs.PathLevels.{LevelsOf}
use Rattle.fabric_model.specs.declared.traffic.Traffic.{Traffic}
use Rattle.fabric_verdict.proofs.LoopLemmas as list
use Rattle.fabric_lane_routes.specs.LaneRoutes.{LaneChannel, LaneDependsOn}
use Rattle.fabric_lane_routes.proofs.OnLemmas.{lane_on}
use Rattle.fabric_lane_waves.proofs.OnLemmas.{switch_low}
use Rattle.fabric_lane_witness.specs.declared.witness.LaneSpot.{LaneSpot}
use Rattle.fabric_lane_verdict.specs.declared.verdict.LaneLoopChannel.{LaneLoopChannel}
use Rattle.fabric_lane_verdict.specs.LaneVerdict.{IsLaneWitnessed, IsLeastLaneLoop, LaneCycleIs}

abbrev pub channel_in : LaneLoopChannel → LaneSpot
channel_in one = one.channel

module _ (fabric : FabricOf) (tables : TablesOf) (lanes : LanesOf) (traffic : Traffic) (levels : LevelsOf) where
  -- the switches of channels
  pub first_low : IsFabric fabric → (channel next : LaneChannel) → LaneDependsOn fabric tables lanes traffic levels channel next → channel.switch < switch_count fabric
  first_low fits channel next (lid, source, level, takes) = switch_low fabric fits channel.switch channel.port next.switch takes.next_entry (lane_on fabric tables lanes level lid (record { switch = channel.switch; port = takes.entry }) channel.port channel.lane (record { switch = next.switch; port = takes.next_entry }) takes.first).3

  pub second_low : IsFabric fabric → (channel next : LaneChannel) → LaneDependsOn fabric tables lanes traffic levels channel next → next.switch < switch_count fabric
  second_low fits channel next (lid, source, level, takes) = switch_low fabric fits next.switch next.port takes.after.switch takes.after.port (lane_on fabric tables lanes level lid (record { switch = next.switch; port = takes.next_entry }) next.port next.lane takes.after takes.second).3

  -- the channels so far
  abbrev pub AreSoFar : List LaneSpot → ℕ → List LaneLoopChannel → Type 0
  AreSoFar = list.AreSoFar channel_in (IsLaneWitnessed fabric tables lanes traffic levels)

  pub done : (spots : List LaneSpot) (found : List LaneLoopChannel) (place : ℕ) → IsLeastLaneLoop fabric tables lanes traffic levels spots → length spots ≤ place → AreSoFar spots place found → LaneCycleIs fabric tables lanes traffic levels found
  done spots found place least past so_far =
      let all = list.done channel_in (IsLaneWitnessed fabric tables lanes traffic levels) spots found place past so_far in
      record { least = subst (λ (xs : List LaneSpot). IsLeastLaneLoop fabric tables lanes traffic levels xs) (sym all.0) least; witnesses = all.1 }
