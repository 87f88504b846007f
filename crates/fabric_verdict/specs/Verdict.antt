-- The verdict on the tables of a fabric.
use Rattle.std.specs.declared.cmp.Ordering.{Ordering}
use Rattle.std.specs.Ordering.{nat_cmp, ordering_then}
use Rattle.std.specs.Prelude.{◌≡◌, ◌≤◌, ◌+◌, ◌/◌, ◌%◌, ℕ, List, Option, Some, None, length, map, slice_get}
use Rattle.common_graph.specs.Cycles.{HasNoCycle, IsLeastCycle, AreRanks}
use Rattle.fabric_tables.specs.Cells.{TablesOf}
use Rattle.fabric_model.specs.declared.node.EndPort.{EndPort}
use Rattle.fabric_model.specs.declared.node.Side.{Side}
use Rattle.fabric_model.specs.declared.node.Spot.{Spot}
use Rattle.fabric_model.specs.declared.node.Side.TheVariants.{Bare, To, End}
use Rattle.fabric_model.specs.Fabric.{FabricOf, side_of, start_of}
use Rattle.fabric_routes.specs.declared.hop.Hop.TheVariants.{Arrive}
use Rattle.fabric_model.specs.declared.traffic.Traffic.{Traffic}
use Rattle.fabric_routes.specs.Found.{IsChannel, IsLeastWitness, channel_of, number}
use Rattle.fabric_routes.specs.Routes.{Channel, ComesBy, DependsOn, Sends, hop}
use Rattle.fabric_verdict.specs.declared.verdict.LoopChannel.{LoopChannel}
use Rattle.fabric_verdict.specs.declared.verdict.Verdict.{Verdict}
use Rattle.fabric_verdict.specs.declared.verdict.Verdict.TheVariants.{Ranks, Cycle}

-- the order of channels: by switch, then by port
abbrev pub channel_cmp : Channel → Channel → Ordering
channel_cmp one other = ordering_then (nat_cmp one.switch other.switch) (nat_cmp one.port other.port)

-- `rank_over` and `rank_in`: the rank that a list has for a channel, by its number; a port that does not lead
-- to a switch has none
abbrev pub rank_over : Side → Option ℕ → Option ℕ
rank_over (To next entry) rank = rank
rank_over Bare rank = None
rank_over (End end) rank = None

abbrev pub rank_in : FabricOf → List ℕ → Channel → Option ℕ
rank_in fabric ranks channel =
    rank_over (side_of fabric channel.switch channel.port) (slice_get ranks (number fabric channel))

-- there is no credit loop, and `ranks` are the ranks of the channels
pub record HasRanks (fabric : FabricOf) (tables : TablesOf) (traffic : Traffic) (ranks : List ℕ) : Type 0 where
  pub no_cycle : HasNoCycle (DependsOn fabric tables traffic)
  pub ranked : AreRanks (IsChannel fabric) (DependsOn fabric tables traffic) (rank_in fabric ranks)

-- no rank of a channel is higher than `most`
abbrev pub AreAtMost : FabricOf → List ℕ → ℕ → Type 0
AreAtMost fabric ranks most = (channel : Channel) (rank : ℕ) → rank_in fabric ranks channel ≡ Some rank → rank ≤ most

-- the route from `source` to `lid` crosses `links` links between switches, and arrives
pub record ArrivesBy (fabric : FabricOf) (tables : TablesOf) (lid : ℕ) (source : EndPort) (links : ℕ) : Type 0 where
  pub start : ℕ
  pub begins : start_of fabric source ≡ Some start
  pub at : ℕ
  pub comes : ComesBy fabric tables lid links start at
  pub arrives : hop fabric tables at lid ≡ Arrive

abbrev pub AllArrive : FabricOf → TablesOf → Traffic → Type 0
AllArrive fabric tables traffic =
    (lid : ℕ) (source : EndPort) → Sends fabric tables traffic lid source
    → (links : ℕ) × ArrivesBy fabric tables lid source links

-- the tables pass: there is no credit loop, and every route of the traffic arrives
pub record Passes (fabric : FabricOf) (tables : TablesOf) (traffic : Traffic) (ranks : List ℕ) : Type 0 where
  pub ranked : HasRanks fabric tables traffic ranks
  pub arrived : AllArrive fabric tables traffic

-- if the verdict is ranks, the tables pass; if it is a credit loop, nothing is said
abbrev pub PassesIfRanked : FabricOf → TablesOf → Traffic → Verdict → Type 0
PassesIfRanked fabric tables traffic (Ranks ranks) = Passes fabric tables traffic ranks.items
PassesIfRanked fabric tables traffic (Cycle channels) = Unit {0}

-- the port at index `place`, if each switch has `most` indices
abbrev pub spot_at : ℕ → ℕ → Spot
spot_at most place = record { switch = place / most; port = place % most + 1 }

-- `spots` is the least credit loop
abbrev pub IsLeastLoop : FabricOf → TablesOf → Traffic → List Spot → Type 0
IsLeastLoop fabric tables traffic spots =
    IsLeastCycle channel_cmp (DependsOn fabric tables traffic) (map channel_of spots)

abbrev pub spots_in : List LoopChannel → List Spot
spots_in = map (λ one. one.channel)

-- the witness of `one` is the least route that takes its channel and then, directly, `next`
abbrev pub IsWitnessed : FabricOf → TablesOf → Traffic → LoopChannel → Spot → Type 0
IsWitnessed fabric tables traffic one next =
    IsLeastWitness fabric tables traffic (channel_of one.channel) (channel_of next) one.witness.lid one.witness.source

-- each channel of `found` is witnessed with the next one of `spots`, and the last with the first
abbrev pub AreWitnessed : FabricOf → TablesOf → Traffic → List Spot → List LoopChannel → Type 0
AreWitnessed fabric tables traffic spots found =
    (place : ℕ) (one : LoopChannel) (next : Spot) → slice_get found place ≡ Some one
    → slice_get spots ((place + 1) % length spots) ≡ Some next → IsWitnessed fabric tables traffic one next

-- `found` is the least credit loop, with the least routes that make it
pub record CycleIs (fabric : FabricOf) (tables : TablesOf) (traffic : Traffic) (found : List LoopChannel) : Type 0
  where
    pub least : IsLeastLoop fabric tables traffic (spots_in found)
    pub witnesses : AreWitnessed fabric tables traffic (spots_in found) found

-- the verdict is the ranks of the channels, or the least credit loop
abbrev pub IsVerdict : FabricOf → TablesOf → Traffic → Verdict → Type 0
IsVerdict fabric tables traffic (Ranks ranks) = HasRanks fabric tables traffic ranks.items
IsVerdict fabric tables traffic (Cycle channels) = CycleIs fabric tables traffic channels.items
