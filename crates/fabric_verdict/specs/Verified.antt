-- Ranks from anywhere, and the dependencies along which they fall.
use Rattle.std.specs.Ordering.{is_le}
use Rattle.std.specs.Prelude.{◌≡◌, ◌<◌, ◌≤◌, ◌↔◌, ℕ, List, None, false, IsTrue, MatchOption}
use Rattle.common_graph.specs.Cycles.{HasNoCycle}
use Rattle.common_graph.specs.Graph.{value_at}
use Rattle.fabric_tables.specs.Cells.{TablesOf}
use Rattle.fabric_model.specs.Fabric.{FabricOf}
use Rattle.fabric_model.specs.declared.traffic.Traffic.{Traffic}
use Rattle.fabric_routes.specs.Found.{IsLeastWitness, SomeIsStopped, channel_of, number}
use Rattle.fabric_routes.specs.Routes.{Channel, DependsOn}
use Rattle.fabric_verdict.specs.declared.verify.Rise.{Rise}
use Rattle.fabric_verdict.specs.declared.verify.Verified.{Verified}
use Rattle.fabric_verdict.specs.Verdict.{AllArrive, channel_cmp}

-- the rank that `ranks` has for `channel`, by its number; 0 if it has none
abbrev pub told_rank : FabricOf → List ℕ → Channel → ℕ
told_rank fabric ranks channel = value_at ranks (number fabric channel)

-- `ranks` fall along every dependency
abbrev pub Fall : FabricOf → TablesOf → Traffic → List ℕ → Type 0
Fall fabric tables traffic ranks =
    (channel next : Channel) → DependsOn fabric tables traffic channel next
    → told_rank fabric ranks next < told_rank fabric ranks channel

-- `channel` depends on `next`, and `ranks` do not fall along this dependency
pub record Rises (fabric : FabricOf) (tables : TablesOf) (traffic : Traffic) (ranks : List ℕ) (channel next : Channel)
    : Type 0 where
  pub depends : DependsOn fabric tables traffic channel next
  pub rises : told_rank fabric ranks channel ≤ told_rank fabric ranks next

-- `channel` is `other` or comes before it, by switch and then by port
abbrev pub IsUpTo : Channel → Channel → Type 0
IsUpTo channel other = IsTrue (is_le (channel_cmp channel other))

-- `rise` is the first dependency along which `ranks` do not fall: from the lowest channel, and to the lowest
-- one. It has their ranks, and the least route that makes the dependency.
pub record IsFirstRise (fabric : FabricOf) (tables : TablesOf) (traffic : Traffic) (ranks : List ℕ) (rise : Rise)
    : Type 0 where
  pub rises : Rises fabric tables traffic ranks (channel_of rise.channel) (channel_of rise.next)
  pub first :
      (channel next : Channel) → Rises fabric tables traffic ranks channel next
      → IsUpTo (channel_of rise.channel) channel
  pub first_next :
      (next : Channel) → Rises fabric tables traffic ranks (channel_of rise.channel) next
      → IsUpTo (channel_of rise.next) next
  pub rank_is : rise.rank ≡ told_rank fabric ranks (channel_of rise.channel)
  pub next_rank_is : rise.next_rank ≡ told_rank fabric ranks (channel_of rise.next)
  pub witness :
      IsLeastWitness fabric tables traffic (channel_of rise.channel) (channel_of rise.next) rise.witness.lid
      rise.witness.source

-- The ranks fall along every dependency, so that there is no credit loop, or `found` has the first along
-- which they do not; and `found` says whether a route is stopped. If the ranks fall and no route is stopped,
-- every route arrives.
pub record IsVerified (fabric : FabricOf) (tables : TablesOf) (traffic : Traffic) (ranks : List ℕ) (found : Verified)
    : Type 0 where
  pub rise : MatchOption found.rise (Fall fabric tables traffic ranks) (IsFirstRise fabric tables traffic ranks)
  pub no_cycle : found.rise ≡ None → HasNoCycle (DependsOn fabric tables traffic)
  pub stops : IsTrue found.stops ↔ SomeIsStopped fabric tables traffic
  pub passes : found.rise ≡ None → found.stops ≡ false → AllArrive fabric tables traffic
