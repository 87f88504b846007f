-- How the routes of an end port to a LID end, whatever their levels. Only private functions cite this.
use Rattle.std.specs.Prelude.{◌≡◌, ◌↔◌, ℕ}
use Rattle.std.specs.Int.{bit_at}
use Rattle.fabric_tables.specs.Cells.{TablesOf}
use Rattle.fabric_counts.specs.Counts.{hop_for}
use Rattle.fabric_lane_counts.specs.declared.ends.Ends.{Ends}
use Rattle.fabric_lane_counts.specs.declared.room.Rooms.{Rooms}
use Rattle.fabric_lane_counts.specs.Gone.{AreGone, IsGoneFrom}
use Rattle.fabric_lane_counts.specs.Steps.{AreRooms}
use Rattle.fabric_model.specs.declared.node.Spot.{Spot}
use Rattle.fabric_model.specs.Fabric.{FabricOf, switch_count}
use Rattle.fabric_routes.specs.Routes.{EndsAs}
use Rattle.fabric_routes.specs.Trace.{IsReady, hop_to, whole}
use Rattle.fabric_lane_tables.specs.Lanes.{LanesOf}

module _ (fabric : FabricOf) (tables : TablesOf) (lanes : LanesOf) (lid : ℕ) where
  -- from a port of a switch on they end so on one lane, and are discarded with these levels
  pub record AreEnds (start : Spot) (ends : Ends) : Type 0 where
    pub outcome : EndsAs (hop_for fabric tables lid) start.switch ends.outcome
    pub gone :
        (level : ℕ) → ((bit_at ends.gone level ≡ 1) ↔ IsGoneFrom fabric tables lanes lid start level)

  -- rooms in which it is found
  pub record AreReady (rooms : Rooms) : Type 0 where
    pub size : AreRooms (switch_count fabric) rooms
    pub marks : IsReady (hop_to fabric tables (whole lid)) (switch_count fabric) rooms.marks.items
    pub gone : AreGone fabric tables lanes lid rooms.gone.items
