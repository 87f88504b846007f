-- Routes on lanes, and which channel depends on which if a channel is a link on a lane.
use Rattle.std.specs.Prelude.{◌≡◌, ◌+◌, ◌==◌, ℕ, zero, suc, Bool, Option, Some, None, if◌then◌else◌}
use Rattle.fabric_model.specs.declared.node.Side.{Side}
use Rattle.fabric_model.specs.declared.node.Side.TheVariants.{Bare, To, End}
use Rattle.fabric_model.specs.declared.node.Spot.{Spot}
use Rattle.fabric_model.specs.declared.node.EndPort.{EndPort}
use Rattle.fabric_model.specs.declared.node.EndPort.TheVariants.{Host, Switch}
use Rattle.fabric_model.specs.Fabric.{FabricOf, cable_of, owner_of, side_of}
use Rattle.fabric_tables.specs.Cells.{TablesOf}
use Rattle.fabric_lane_tables.specs.Lanes.{LanesOf}
use Rattle.fabric_lane_tables.specs.PathLevels.{HasLevel, LevelsOf}
use Rattle.fabric_model.specs.declared.traffic.Traffic.{Traffic}
use Rattle.fabric_routes.specs.declared.hop.Cause.TheVariants.{Missing, Dead, Wrong}
use Rattle.fabric_routes.specs.Routes.{Sends, ends_at_host, ends_at_switch}
use Rattle.fabric_lane_routes.specs.declared.hop.LaneHop.{LaneHop}
use Rattle.fabric_lane_routes.specs.declared.hop.LaneHop.TheVariants.{On, Arrive, Stop, Discard}
use Rattle.fabric_lane_routes.specs.declared.hop.LaneOutcome.{LaneOutcome}
use Rattle.fabric_lane_routes.specs.declared.hop.LaneOutcome.TheVariants.{Arrives, Stops, Discards, Loops}

-- Where a packet stands: a switch, and the port of it by which the packet came in. Port 0 is the switch itself.

-- at an end port where it arrives, or at another
abbrev pub lane_end_if : Bool → LaneHop
lane_end_if arrives = if arrives then Arrive else Stop Wrong

-- on lane 15 nothing leaves
abbrev pub on_lane : ℕ → LaneHop → LaneHop
on_lane lane does = if lane == 15 then Discard else does

-- by a port with this side, on a lane, and the owner of the LID: on to the switch there, or to the end port
abbrev pub lane_hop_over : Option EndPort → ℕ → ℕ → Side → LaneHop
lane_hop_over owner port lane Bare = Stop Dead
lane_hop_over owner port lane (To next entry) = on_lane lane (On port lane (record { switch = next; port = entry }))
lane_hop_over owner port lane (End end) = on_lane lane (lane_end_if (ends_at_host owner end))

-- by what the table says, and the lane of each port: port 0 is the switch itself, and has no lane
abbrev pub lane_hop_by : FabricOf → (ℕ → ℕ) → ℕ → ℕ → Option ℕ → LaneHop
lane_hop_by fabric lane_of switch lid None = Stop Missing
lane_hop_by fabric lane_of switch lid (Some port) = if port == 0
    then lane_end_if (ends_at_switch (owner_of fabric lid) switch)
    else lane_hop_over (owner_of fabric lid) port (lane_of port) (side_of fabric switch port)

-- what a switch does with what came in by a port, has a level and goes to a LID
unfoldable pub lane_hop : FabricOf → TablesOf → LanesOf → ℕ → ℕ → Spot → LaneHop
lane_hop fabric tables lanes level lid at =
    lane_hop_by fabric (λ port. lanes at.switch at.port port level) at.switch lid (tables at.switch lid)

-- where the routes of an end port begin
abbrev pub begin_of : FabricOf → EndPort → Option Spot
begin_of fabric (Host end) = cable_of fabric end
begin_of fabric (Switch switch) = Some (record { switch = switch; port = 0 })

-- an end port sends to a LID with a level: each level is a route of its own
pub record LaneSends (fabric : FabricOf) (tables : TablesOf) (traffic : Traffic) (levels : LevelsOf) (lid : ℕ)
    (source : EndPort) (level : ℕ)
    : Type 0 where
  pub sends : Sends fabric tables traffic lid source
  pub has : HasLevel levels source lid level

-- from one place to another by so many hops, if each switch hops as told
abbrev pub LaneWalksBy : (Spot → LaneHop) → ℕ → Spot → Spot → Type 0
LaneWalksBy hop_at zero start at = start ≡ at
LaneWalksBy hop_at (suc hops) start at =
    (before : Spot) × (port lane : ℕ) × LaneWalksBy hop_at hops start before × (hop_at before ≡ On port lane at)

-- the route of an end port to a LID with a level comes to a switch by a port
pub record LaneComesTo (fabric : FabricOf) (tables : TablesOf) (lanes : LanesOf) (traffic : Traffic)
    (levels : LevelsOf) (lid : ℕ) (source : EndPort) (level : ℕ) (at : Spot)
    : Type 0 where
  pub sends : LaneSends fabric tables traffic levels lid source level
  pub start : Spot
  pub begins : begin_of fabric source ≡ Some start
  pub hops : ℕ
  pub comes : LaneWalksBy (lane_hop fabric tables lanes level lid) hops start at

-- a link in the direction out of a port of a switch, on a lane
pub record LaneChannel : Type 0 where
  pub switch : ℕ
  pub port : ℕ
  pub lane : ℕ

-- The route takes a channel and then, directly, another one. It comes to the switch of each by some port.
pub record LaneTakes (fabric : FabricOf) (tables : TablesOf) (lanes : LanesOf) (traffic : Traffic)
    (levels : LevelsOf) (lid : ℕ) (source : EndPort) (level : ℕ) (channel next : LaneChannel)
    : Type 0 where
  pub entry : ℕ
  pub comes :
      LaneComesTo fabric tables lanes traffic levels lid source level
      (record { switch = channel.switch; port = entry })
  pub next_entry : ℕ
  pub first :
      lane_hop fabric tables lanes level lid (record { switch = channel.switch; port = entry })
      ≡ On channel.port channel.lane (record { switch = next.switch; port = next_entry })
  pub after : Spot
  pub second :
      lane_hop fabric tables lanes level lid (record { switch = next.switch; port = next_entry })
      ≡ On next.port next.lane after

-- a hop that is none, and does not arrive
abbrev pub IsLaneStop : LaneHop → Type 0
IsLaneStop (On port lane next) = ⊥
IsLaneStop Arrive = ⊥
IsLaneStop (Stop cause) = Unit {0}
IsLaneStop Discard = Unit {0}

-- the route of an end port to a LID with a level stops, or is discarded, at some switch
abbrev pub IsLaneStopped :
    FabricOf → TablesOf → LanesOf → Traffic → LevelsOf → ℕ → EndPort → ℕ → Type 0
IsLaneStopped fabric tables lanes traffic levels lid source level =
    (at : Spot) × LaneComesTo fabric tables lanes traffic levels lid source level at
    × IsLaneStop (lane_hop fabric tables lanes level lid at)

-- a channel depends on another if some route takes the one and then the other
abbrev pub LaneDependsOn :
    FabricOf → TablesOf → LanesOf → Traffic → LevelsOf → LaneChannel → LaneChannel → Type 0
LaneDependsOn fabric tables lanes traffic levels channel next =
    (lid : ℕ) × (source : EndPort) × (level : ℕ)
    × LaneTakes fabric tables lanes traffic levels lid source level channel next

-- how the route from a place ends: it arrives, so many switches on, or stops, or is discarded, or goes on for ever
abbrev pub LaneEndsAs : (Spot → LaneHop) → Spot → LaneOutcome → Type 0
LaneEndsAs hop_at start (Arrives switches) =
    (hops : ℕ) × (at : Spot) × LaneWalksBy hop_at hops start at × (hop_at at ≡ Arrive) × (switches ≡ hops + 1)
LaneEndsAs hop_at start (Stops cause) =
    (hops : ℕ) × (at : Spot) × LaneWalksBy hop_at hops start at × (hop_at at ≡ Stop cause)
LaneEndsAs hop_at start Discards =
    (hops : ℕ) × (at : Spot) × LaneWalksBy hop_at hops start at × (hop_at at ≡ Discard)
LaneEndsAs hop_at start Loops = (hops : ℕ) → (at : Spot) × LaneWalksBy hop_at hops start at
