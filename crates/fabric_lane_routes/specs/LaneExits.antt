-- By which port a switch sends, whatever the lane. But for `IsByLaneLink` only functions of `hop` cite this.
use Rattle.std.specs.Prelude.{◌≡◌, ◌<◌, ◌≤◌, ◌==◌, ℕ, Option, Some, None, if◌then◌else◌}
use Rattle.fabric_model.specs.declared.node.Side.TheVariants.{To}
use Rattle.fabric_model.specs.Fabric.{FabricOf, LeadsWithin, side_of, switch_count}
use Rattle.fabric_model.specs.declared.node.Spot.{Spot}
use Rattle.fabric_lane_tables.specs.Lanes.{LanesOf}
use Rattle.fabric_lane_routes.specs.declared.hop.Exit.{Exit}
use Rattle.fabric_lane_routes.specs.declared.hop.Exit.TheVariants.{Nowhere, Own, By}
use Rattle.fabric_lane_routes.specs.declared.hop.LaneHop.{LaneHop}
use Rattle.fabric_lane_routes.specs.declared.hop.LaneHop.TheVariants.{On, Arrive, Stop, Discard}

-- by what the table says
abbrev pub exit_of : FabricOf → ℕ → Option ℕ → Exit
exit_of fabric switch None = Nowhere
exit_of fabric switch (Some port) = if port == 0 then Own else By port (side_of fabric switch port)

-- it leads to a switch that there is
abbrev pub ExitLeadsWithin : ℕ → Exit → Type 0
ExitLeadsWithin switches Nowhere = Unit {0}
ExitLeadsWithin switches Own = Unit {0}
ExitLeadsWithin switches (By port side) = LeadsWithin switches side

-- an exit of a switch
abbrev pub IsExit : FabricOf → ℕ → Exit → Type 0
IsExit fabric switch exit =
    ((told : Option ℕ) × (exit ≡ exit_of fabric switch told)) × ExitLeadsWithin (switch_count fabric) exit

-- by a port of a switch a link leads to a port of another, on the lane that is told for what came in by a port
pub record IsLaneLink (fabric : FabricOf) (lanes : LanesOf) (level : ℕ) (at : Spot) (port lane : ℕ) (next : Spot)
    : Type 0 where
  pub used : 0 < port
  pub low : port ≤ fabric.most
  pub within : next.switch < switch_count fabric
  pub leads : side_of fabric at.switch port ≡ To next.switch next.port
  pub lane_is : lane ≡ lanes at.switch at.port port level
  pub lane_low : lane < 15

-- a hop that goes on does so by a link, on its lane
abbrev pub IsByLaneLink : FabricOf → LanesOf → ℕ → Spot → LaneHop → Type 0
IsByLaneLink fabric lanes level at (On port lane next) = IsLaneLink fabric lanes level at port lane next
IsByLaneLink fabric lanes level at Arrive = Unit {0}
IsByLaneLink fabric lanes level at (Stop cause) = Unit {0}
IsByLaneLink fabric lanes level at Discard = Unit {0}
