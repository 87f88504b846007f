-- The routes that make the dependencies of a credit loop.
use Rattle.std.proofs.Common.{sym, subst, ℕ, ◌*◌, ◌<◌, ◌≤◌, List, length, arith}
use Rattle.std.proofs.Math.Nat.{lt_of_mul-lt-mul_right}
use Rattle.fabric_tables.specs.Cells.{TablesOf}
use Rattle.fabric_model.specs.declared.node.Spot.{Spot}
use Rattle.fabric_model.specs.Fabric.{FabricOf, IsFabric, switch_count}
use Rattle.fabric_model.specs.declared.traffic.Traffic.{Traffic}
use Rattle.fabric_routes.specs.Found.{IsChannel}
use Rattle.fabric_routes.specs.Routes.{Channel, DependsOn}
use Rattle.fabric_routes.proofs.ChannelLemmas.{channel_place, first_is, second_is}
use Rattle.fabric_verdict.specs.declared.verdict.LoopChannel.{LoopChannel}
use Rattle.fabric_verdict.specs.Verdict.{CycleIs, IsLeastLoop, IsWitnessed}
use Rattle.fabric_verdict.proofs.LoopLemmas as list

abbrev pub channel_in : LoopChannel → Spot
channel_in one = one.channel

module _ (fabric : FabricOf) (tables : TablesOf) (traffic : Traffic) where
  -- the switches of channels
  low : IsFabric fabric → (channel : Channel) → IsChannel fabric channel → channel.switch < switch_count fabric
  low fits channel is =
      let place = channel_place fabric fits channel is in
      let less : channel.switch * fabric.most < switch_count fabric * fabric.most = omega arith in
      lt_of_mul-lt-mul_right fabric.most less

  pub first_low : IsFabric fabric → (channel next : Channel) → DependsOn fabric tables traffic channel next → channel.switch < switch_count fabric
  first_low fits channel next (lid, source, takes) = low fits channel (first_is fabric tables traffic lid source channel next takes)

  pub second_low : IsFabric fabric → (channel next : Channel) → DependsOn fabric tables traffic channel next → next.switch < switch_count fabric
  second_low fits channel next (lid, source, takes) = low fits next (second_is fabric tables traffic lid source channel next takes)

  -- the channels so far
  abbrev pub AreSoFar : List Spot → ℕ → List LoopChannel → Type 0
  AreSoFar = list.AreSoFar channel_in (IsWitnessed fabric tables traffic)

  pub done : (spots : List Spot) (found : List LoopChannel) (place : ℕ) → IsLeastLoop fabric tables traffic spots → length spots ≤ place → AreSoFar spots place found → CycleIs fabric tables traffic found
  done spots found place least past so_far =
      let all = list.done channel_in (IsWitnessed fabric tables traffic) spots found place past so_far in
      record { least = subst (λ (xs : List Spot). IsLeastLoop fabric tables traffic xs) (sym all.0) least; witnesses = all.1 }
