use Rattle.std.specs.Prelude.{◌≡◌, ◌<◌, ℕ, true, false, List, [], ◌∷◌, ◌++◌, All, length, map, if◌then◌else◌, codes, slice_index_or}
use Rattle.std.specs.Fmt.{decimal}
use Rattle.std.specs.List.{flat_map, zip}
use Rattle.an_base.specs.Values.{LifeId, EntryOf}
use Rattle.net_graph.specs.Forest.{IsForest}
use Rattle.common_lines.specs.Lines.{forms_text_by}
use Rattle.net_script.specs.Scripts.{ScriptOf}
use Rattle.topo_graph.specs.Topology.{life_at}
use Rattle.broadcast_flood.specs.Floods.{HopOf, IsFlood, IsBroadcast, copies, hop_at}
use Rattle.broadcast_flood.specs.declared.hop.FloodHop.{FloodHop}
use Rattle.row_text.specs.Names.{life_text}

-- The text of `flood`: the path of the broadcast from each switch.

-- a line: the sender of a broadcast, one of its hops, the number of members that get a copy, or the end
pub data FloodLine : Type 0 where
  From : (life : LifeId) → FloodLine
  Goes : (hop : FloodHop) → FloodLine
  Copies : (members : ℕ) → FloodLine
  Last : FloodLine

-- the words of a line
abbrev pub line_words : ScriptOf → FloodLine → List (List ℕ)
line_words script (From life) = codes "flood" ∷ life_text script life ∷ []
line_words script (Goes hop) =
    (if hop.up then codes "up" else codes "down") ∷ life_text script hop.at ∷ decimal hop.port ∷ []
line_words script (Copies members) = codes "copies" ∷ decimal members ∷ []
line_words script Last = codes "end" ∷ []

-- the lines of the broadcast from life `from` in a component of `members` members
abbrev pub flood_lines : ℕ → LifeId → List FloodHop → List FloodLine
flood_lines members from hops = From from ∷ (map Goes hops ++ Copies members ∷ [])

-- `floods` are the broadcasts from the members at indices below `end`
pub record AreFloods (entries : List EntryOf) (end : ℕ) (floods : List (List FloodHop)) : Type 0 where
  pub count : length floods ≡ end
  pub each :
      (place : ℕ) → place < end → IsBroadcast entries (life_at entries place) (slice_index_or floods place [])

-- a component with the broadcasts from its members
pub record FloodPart : Type 0 where
  pub entries : List EntryOf
  pub floods : List (List FloodHop)

-- the lines of the broadcasts from the members, in ascending order of life
abbrev pub member_lines : ℕ → List EntryOf → List (List FloodHop) → List FloodLine
member_lines members entries floods =
    flat_map (λ flood. flood_lines members flood.0.life flood.1) (zip entries floods)

-- the lines of a component
abbrev pub part_lines : FloodPart → List FloodLine
part_lines part = member_lines (length part.entries) part.entries part.floods

-- the text of lines
abbrev pub lines_told : ScriptOf → List FloodLine → List ℕ
lines_told script = forms_text_by (line_words script)

-- the text of the lines of all components, and of `end`
unfoldable pub flood_text : ScriptOf → List FloodPart → List ℕ
flood_text script parts = lines_told script (flat_map part_lines parts ++ Last ∷ [])

-- `text` says how broadcasts spread in the script's network with all links up
pub record IsFloodOf (script : ScriptOf) (text : List ℕ) : Type 0 where
  pub parts : List FloodPart
  pub trees : IsForest script.wires (map (λ part. part.entries) parts)
  pub floods : All (λ part. AreFloods part.entries (length part.entries) part.floods) parts
  pub text_is : text ≡ flood_text script parts

-- `hops` are a broadcast from the member at index `from`, and bring each member one copy
pub record ReachesAll (entries : List EntryOf) (from : ℕ) (hops : List FloodHop) : Type 0 where
  pub ups : List HopOf
  pub downs : List HopOf
  pub flood : IsFlood entries from ups downs
  pub hops_are : hops ≡ map (hop_at entries true) ups ++ map (hop_at entries false) downs
  pub one_copy : (member : ℕ) → member < length entries → copies entries flood.top downs member ≡ 1
