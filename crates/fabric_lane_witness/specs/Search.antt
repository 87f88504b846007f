-- How a witness is looked for. Only private functions cite this.
use Rattle.std.specs.Prelude.{◌≡◌, ◌<◌, ◌↔◌, ℕ, List, length}
use Rattle.std.specs.Int.{bit_at}
use Rattle.fabric_model.specs.declared.node.EndPort.{EndPort}
use Rattle.fabric_model.specs.declared.node.EndPort.TheVariants.{Host, Switch}
use Rattle.fabric_model.specs.declared.node.Spot.{Spot}
use Rattle.fabric_model.specs.Fabric.{FabricOf, switch_count}
use Rattle.fabric_tables.specs.Cells.{TablesOf, tables_of}
use Rattle.fabric_lane_tables.specs.Lanes.{LanesOf}
use Rattle.fabric_lane_tables.specs.PathLevels.{LevelsOf}
use Rattle.fabric_model.specs.declared.traffic.Traffic.{Traffic}
use Rattle.fabric_routes.specs.Audience.{IsAudience}
use Rattle.fabric_routes.specs.declared.trace.Mark.{Mark}
use Rattle.fabric_routes.specs.Trace.{IsReady, hop_to, way}
use Rattle.fabric_routes.specs.Witness.{IsFirst, IsFirstSource}
use Rattle.fabric_lane_routes.specs.declared.hop.LaneHop.{LaneHop}
use Rattle.fabric_lane_routes.specs.declared.hop.LaneHop.TheVariants.{On}
use Rattle.fabric_lane_routes.specs.LaneRoutes.{LaneChannel, LaneTakes, LaneWalksBy, lane_hop}
use Rattle.fabric_lane_routes.specs.LaneWays.{IsWay}
use Rattle.fabric_lane_routes.specs.declared.routing.LaneRouting.{LaneRouting}
use Rattle.fabric_lane_witness.specs.declared.witness.Kind.{Kind}
use Rattle.fabric_lane_witness.specs.declared.witness.Kind.TheVariants.{Hosts, Switches}
use Rattle.fabric_lane_witness.specs.declared.witness.Sought.{Sought}
use Rattle.fabric_lane_witness.specs.Witness.{lane_channel_of}

-- the route from a place goes, somewhere on it, by a channel
pub record GoesBy (hop_at : Spot → LaneHop) (start : Spot) (channel : LaneChannel) : Type 0 where
  pub hops : ℕ
  pub entry : ℕ
  pub comes : LaneWalksBy hop_at hops start (record { switch = channel.switch; port = entry })
  pub next : Spot
  pub goes : hop_at (record { switch = channel.switch; port = entry }) ≡ On channel.port channel.lane next

-- what goes to a LID leaves a switch by the link of a channel, which leads to the switch of the next one, and goes on by
-- this one if it has a level
pub record GoesOn (fabric : FabricOf) (tables : TablesOf) (lanes : LanesOf) (lid level : ℕ)
    (channel next : LaneChannel)
    : Type 0 where
  pub entry : ℕ
  pub leads : IsWay fabric tables lid channel.switch channel.port (record { switch = next.switch; port = entry })
  pub after : Spot
  pub goes :
      lane_hop fabric tables lanes level lid (record { switch = next.switch; port = entry })
      ≡ On next.port next.lane after

-- the levels with which it goes on so
abbrev pub AreOn : FabricOf → TablesOf → LanesOf → ℕ → LaneChannel → LaneChannel → ℕ → Type 0
AreOn fabric tables lanes lid channel next word =
    (level : ℕ) → level < 16 → ((bit_at word level ≡ 1) ↔ GoesOn fabric tables lanes lid level channel next)

module _ (fabric : FabricOf) (tables : TablesOf) (lanes : LanesOf) (traffic : Traffic) (levels : LevelsOf)
    (lid : ℕ) (channel next : LaneChannel) where
  -- the route of an end port with some level takes a channel and then another one
  abbrev pub Takes : EndPort → Type 0
  Takes source = (level : ℕ) × LaneTakes fabric tables lanes traffic levels lid source level channel next

  -- the least level with which it does
  abbrev pub IsLeastLevel : EndPort → ℕ → Type 0
  IsLeastLevel source =
      IsFirst (λ level. LaneTakes fabric tables lanes traffic levels lid source level channel next)

  -- the end port of least GUID that does, and its least level
  pub record IsLeastAt (source : EndPort) (level : ℕ) : Type 0 where
    pub first : IsFirstSource fabric Takes source
    pub lowest : IsLeastLevel source level

-- the same of what is sought
abbrev pub AreOnFor : FabricOf → TablesOf → LanesOf → Sought → Type 0
AreOnFor fabric tables lanes sought =
    AreOn fabric tables lanes sought.lid (lane_channel_of sought.channel) (lane_channel_of sought.next) sought.on

abbrev pub IsAudienceFor : LaneRouting → Sought → Type 0
IsAudienceFor routing sought = IsAudience routing.fabric.now (tables_of routing.cells.now) routing.traffic sought.lid
    sought.audience

abbrev pub TakesAs : FabricOf → TablesOf → LanesOf → Traffic → LevelsOf → Sought → EndPort → Type 0
TakesAs fabric tables lanes traffic levels sought =
    Takes fabric tables lanes traffic levels sought.lid (lane_channel_of sought.channel) (lane_channel_of sought.next)

-- what is known of the switches of routes to the LID, on one lane, until they come to the switch of the channel
abbrev pub IsReadyFor : FabricOf → TablesOf → Sought → List Mark → Type 0
IsReadyFor fabric tables sought marks =
    IsReady (hop_to fabric tables (way sought.lid sought.channel.switch)) (switch_count fabric) marks

-- the end ports of a kind: how many there are, and the one of a place
abbrev pub count_of : FabricOf → Kind → ℕ
count_of fabric Hosts = length fabric.cables
count_of fabric Switches = switch_count fabric

abbrev pub end_at : Kind → ℕ → EndPort
end_at Hosts place = Host place
end_at Switches place = Switch place
