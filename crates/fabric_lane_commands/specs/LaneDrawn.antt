-- What `dot` gives for what was read, with lanes.

use Rattle.std.specs.Prelude.{◌≡◌, ℕ, List, [], map, nat_eq}
use Rattle.std.specs.List.{flat_map}
use Rattle.indexmap.specs.IndexSet.{insert_all}
use Rattle.fabric_model.specs.Fabric.{FabricOf}
use Rattle.fabric_tables.specs.Cells.{tables_of}
use Rattle.fabric_model.specs.declared.traffic.Traffic.{Traffic}
use Rattle.fabric_lane_tables.specs.Lanes.{IsLaneCount, lanes_of}
use Rattle.fabric_print.specs.declared.picture.Arrow.{Arrow}
use Rattle.fabric_lane_verdict.specs.declared.verdict.LaneLoopChannel.{LaneLoopChannel}
use Rattle.fabric_print_lanes.specs.declared.answer.Asked.{Asked}
use Rattle.fabric_print_lanes.specs.declared.picture.LaneArrow.{LaneArrow}
use Rattle.fabric_print_lanes.specs.declared.picture.LanePicture.{LanePicture}
use Rattle.fabric_print_lanes.specs.LanePictures.{lane_picture_text}
use Rattle.fabric_call.specs.declared.status.Status.{Status}
use Rattle.fabric_judge_commands.specs.Drawn.{arrow_at}
use Rattle.fabric_judge_commands.specs.Names.{names_for}
use Rattle.fabric_judge_commands.specs.Words.{traffic_word}
use Rattle.fabric_lane_commands.specs.Inputs.{Told}
use Rattle.fabric_lane_commands.specs.LaneJudged.{IsLaneEndOf, IsLaneLoop, without_lane}

-- an arrow, with the lane of a channel and the service level of its route
abbrev pub on_lane : LaneLoopChannel → Arrow → LaneArrow
on_lane one arrow = record { arrow = arrow; lane = one.channel.lane; level = one.witness.level }

-- a channel as an arrow, to the switch to which its link leads; none if it leads to no switch
abbrev pub lane_arrow_at : FabricOf → LaneLoopChannel → List LaneArrow
lane_arrow_at fabric one = map (on_lane one) (arrow_at fabric (without_lane one))

abbrev pub lane_arrows_of : FabricOf → List LaneLoopChannel → List LaneArrow
lane_arrows_of fabric = flat_map (lane_arrow_at fabric)

-- the switches of arrows, each once
abbrev pub lane_switches_of : List LaneArrow → List ℕ
lane_switches_of arrows = insert_all nat_eq [] (map (λ one. one.arrow.step.guid) arrows)

-- a picture of the channels of a loop, with the names of their switches, and of what was judged
pub record IsLanePictureOf (traffic : Traffic) (asked : Asked) (told : Told) (loop : List LaneLoopChannel)
    (picture : LanePicture)
    : Type 0 where
  pub traffic_is : picture.traffic.now ≡ traffic_word traffic
  pub lanes : IsLaneCount (lanes_of told.lanes) picture.lanes
  pub asked_is : picture.asked ≡ asked
  pub arrows : picture.arrows.items ≡ lane_arrows_of told.fabric loop
  pub names : picture.names.items ≡ names_for told.text (lane_switches_of picture.arrows.items)

-- the picture of the least credit loop, or of none if there is none
pub record IsLaneDrawn (traffic : Traffic) (asked : Asked) (told : Told) (status : Status) (written : List ℕ)
    : Type 0 where
  pub loop : List LaneLoopChannel
  pub is_loop :
      IsLaneLoop told.fabric (tables_of told.found.cells) (lanes_of told.lanes) traffic told.levels loop
  pub picture : LanePicture
  pub shows : IsLanePictureOf traffic asked told loop picture
  pub ends :
      IsLaneEndOf told.fabric (tables_of told.found.cells) (lanes_of told.lanes) traffic told.levels told.given picture.lanes
      status
  pub says : written ≡ lane_picture_text picture
