-- What `dot` gives for the text of a topology, its fabric and tables.

use Rattle.std.specs.Prelude.{◌≡◌, ℕ, List, [], ◌∷◌, map, nat_eq}
use Rattle.std.specs.List.{flat_map}
use Rattle.indexmap.specs.IndexSet.{insert_all}
use Rattle.fabric_model.specs.declared.node.EndPort.TheVariants.{Switch}
use Rattle.fabric_model.specs.declared.node.Side.{Side}
use Rattle.fabric_model.specs.declared.node.Side.TheVariants.{Bare, To, End}
use Rattle.fabric_model.specs.Fabric.{FabricOf, guid_of, side_of}
use Rattle.fabric_tables.specs.Cells.{tables_of}
use Rattle.fabric_model.specs.declared.traffic.Traffic.{Traffic}
use Rattle.fabric_read_tables.specs.declared.reader.Tables.{Tables}
use Rattle.fabric_verdict.specs.declared.verdict.LoopChannel.{LoopChannel}
use Rattle.fabric_print.specs.declared.picture.Arrow.{Arrow}
use Rattle.fabric_print.specs.declared.picture.Picture.{Picture}
use Rattle.fabric_print.specs.Pictures.{picture_text}
use Rattle.fabric_call.specs.declared.status.Status.{Status}
use Rattle.fabric_judge_commands.specs.Judged.{IsEndOf, IsLoop, step_of}
use Rattle.fabric_judge_commands.specs.Names.{names_for}
use Rattle.fabric_judge_commands.specs.Words.{traffic_word}

-- a channel as an arrow to the switch to which it leads; none if it leads to no switch
abbrev pub arrow_over : FabricOf → LoopChannel → Side → List Arrow
arrow_over fabric one (To next entry) =
    record { step = step_of fabric one; to = guid_of fabric (Switch next); entry = entry } ∷ []
arrow_over fabric one Bare = []
arrow_over fabric one (End end) = []

abbrev pub arrow_at : FabricOf → LoopChannel → List Arrow
arrow_at fabric one = arrow_over fabric one (side_of fabric one.channel.switch one.channel.port)

abbrev pub arrows_of : FabricOf → List LoopChannel → List Arrow
arrows_of fabric = flat_map (arrow_at fabric)

-- the switches of the arrows, each once
abbrev pub arrow_switches : List Arrow → List ℕ
arrow_switches arrows = insert_all nat_eq [] (map (λ arrow. arrow.step.guid) arrows)

-- `picture` shows the channels of `loop`, with the names of their switches
pub record IsPictureOf (traffic : Traffic) (text : List ℕ) (fabric : FabricOf) (loop : List LoopChannel) (picture : Picture)
    : Type 0 where
  pub traffic_is : picture.traffic.now ≡ traffic_word traffic
  pub arrows : picture.arrows.items ≡ arrows_of fabric loop
  pub names : picture.names.items ≡ names_for text (arrow_switches picture.arrows.items)

-- the picture of the least credit loop, or of no loop if there is none
pub record IsDrawn (traffic : Traffic) (text : List ℕ) (fabric : FabricOf) (found : Tables) (status : Status)
    (written : List ℕ)
    : Type 0 where
  pub ends : IsEndOf fabric (tables_of found.cells) traffic status
  pub loop : List LoopChannel
  pub is_loop : IsLoop fabric (tables_of found.cells) traffic loop
  pub picture : Picture
  pub shows : IsPictureOf traffic text fabric loop picture
  pub says : written ≡ picture_text picture
