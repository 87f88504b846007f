use Rattle.std.specs.Prelude.{◌≡◌, ◌≤◌, ℕ, Bool, true, false, List, [], ◌∷◌, ◌++◌, All, Contains, length, map, fold, count_by, if◌then◌else◌, codes, slice_index_or}
use Rattle.std.specs.Fmt.{decimal}
use Rattle.std.specs.List.{flat_map}
use Rattle.an_base.specs.Values.{EntryOf}
use Rattle.net_graph.specs.Forest.{IsForest}
use Rattle.common_lines.specs.Lines.{forms_text_by}
use Rattle.net_script.specs.Scripts.{ScriptOf}
use Rattle.switch_numbering.specs.Numbering.{numbering}
use Rattle.dep_check.specs.Tables.{IsSpot}
use Rattle.dep_check.specs.declared.channel.Channel.{Channel}
use Rattle.flow_channels.specs.declared.went.Went.{Went}
use Rattle.flow_channels.specs.declared.went.Went.TheVariants.{Arrived, Out}
use Rattle.flow_channels.specs.Layout.{LayoutOf, layout_of}
use Rattle.flow_channels.specs.Flows.{FlowOf, empty_flow, enters, left_of, queue_at}
use Rattle.flow_channels.specs.Moves.{Turns}
use Rattle.flow_text.specs.declared.sent.Sent.{Sent}
use Rattle.row_text.specs.Names.{name_of}
use Rattle.expect_text.specs.Expect.{AreTables, Part, all_rows}
use Rattle.flow_text.specs.Sends.{entering, homes_of, is_entering, is_joined, is_local, is_unjoined, number_at, numbers_in, sends_of}

-- The text of `flow`: what happens to the packets that a script sends, in channels that hold a few each.

-- the flow after the packet has entered it
abbrev pub with_entered : List ℕ → FlowOf → Sent → FlowOf
with_entered numbers flow sent =
    enters sent.packet (number_at numbers sent.from) (number_at numbers sent.to) flow

-- the flow that the packets have entered, in their order
abbrev pub entered_flow : List ℕ → List Sent → FlowOf
entered_flow numbers sends = fold (with_entered numbers) empty_flow sends

-- the flow of a component before its first turn: all packets that enter the component have entered
abbrev pub start_of : ScriptOf → List EntryOf → FlowOf
start_of script entries =
    entered_flow (numbers_in script.wires.switches entries)
    (entering (numbers_in script.wires.switches entries) (sends_of script))

-- a component with the tables of its members, the moves of the packets that enter it, and the flow in the end
pub record FlowPart : Type 0 where
  pub part : Part
  pub moves : List Went
  pub end : FlowOf

-- the entries of the component
abbrev pub entries_of : FlowPart → List EntryOf
entries_of part = part.part.entries

-- the channels and rows of a component, with `room` for that many packets in each channel
abbrev pub layout_in : ℕ → Part → LayoutOf
layout_in room part = layout_of part.entries (numbering part.entries) (all_rows part) room

-- the tables are those of the members, and the moves are the turns, each the next possible move, until no
-- packet is left
pub record IsFlowPart (script : ScriptOf) (room : ℕ) (part : FlowPart) : Type 0 where
  pub tables : AreTables (entries_of part) script.any_routes (length (entries_of part)) part.part.tables
  pub turns : Turns (layout_in room part.part) (start_of script (entries_of part)) part.moves part.end
  pub done : left_of part.end ≡ 0

-- a line: a packet whose hosts are at one switch, one whose hosts have no common component, one that moves out of
-- a switch by a port, one that arrives at its target, or the counts at the end; switches are given by name
pub data FlowLine : Type 0 where
  Local : (packet : ℕ) → (switch : List ℕ) → FlowLine
  Unjoined : (packet : ℕ) → FlowLine
  Moves : (packet : ℕ) → (switch : List ℕ) → (port : ℕ) → FlowLine
  Arrives : (packet : ℕ) → (switch : List ℕ) → FlowLine
  Ends : (moves arrived local unjoined : ℕ) → FlowLine

-- the words of a line
abbrev pub flow_words : FlowLine → List (List ℕ)
flow_words (Local packet switch) = codes "local" ∷ decimal packet ∷ switch ∷ []
flow_words (Unjoined packet) = codes "unjoined" ∷ decimal packet ∷ []
flow_words (Moves packet switch port) =
    codes "move" ∷ decimal packet ∷ switch ∷ codes "out" ∷ decimal port ∷ []
flow_words (Arrives packet switch) = codes "arrive" ∷ decimal packet ∷ switch ∷ []
flow_words (Ends moves arrived local unjoined) =
    codes "end" ∷ codes "moves" ∷ decimal moves ∷ codes "arrived" ∷ decimal arrived
    ∷ codes "local" ∷ decimal local ∷ codes "unjoined" ∷ decimal unjoined ∷ []

-- the text of lines
abbrev pub flow_told : List FlowLine → List ℕ
flow_told = forms_text_by flow_words

-- the line of a packet that enters no component; none for one that does
abbrev pub fate_lines : ScriptOf → List (List ℕ) → Sent → List FlowLine
fate_lines script components sent =
    if is_local sent then Local sent.packet (slice_index_or script.switch_names sent.from []) ∷ [] else
    (if is_joined components sent then [] else Unjoined sent.packet ∷ [])

-- the line of a move in a component
abbrev pub went_line : ScriptOf → List EntryOf → Went → FlowLine
went_line script entries (Out packet at exit) =
    Moves packet (name_of script entries (numbering entries) at) exit
went_line script entries (Arrived packet at) = Arrives packet (name_of script entries (numbering entries) at)

-- the lines of the moves in a component
abbrev pub part_lines : ScriptOf → FlowPart → List FlowLine
part_lines script part = map (went_line script (entries_of part)) part.moves

-- whether the packet left a switch
abbrev pub is_out : Went → Bool
is_out (Out packet at exit) = true
is_out (Arrived packet at) = false

-- whether the line says that a packet arrives
abbrev pub is_arrival : FlowLine → Bool
is_arrival (Local packet switch) = false
is_arrival (Unjoined packet) = false
is_arrival (Moves packet switch port) = false
is_arrival (Arrives packet switch) = true
is_arrival (Ends moves arrived local unjoined) = false

-- the last line: the number of moves, and the numbers of packets that entered, were local and were not joined
abbrev pub end_line : List (List ℕ) → List Sent → List Went → FlowLine
end_line components sends moves =
    Ends (count_by is_out moves) (count_by (is_entering components) sends)
    (count_by is_local sends) (count_by (is_unjoined components) sends)

-- the text: the lines of the packets that enter no component, by packet; those of the moves, by component; and the
-- counts
unfoldable pub flow_text : ScriptOf → List FlowPart → List ℕ
flow_text script parts =
    flow_told (flat_map (fate_lines script (homes_of script.wires.switches (map entries_of parts)))
    (sends_of script)
    ++ (flat_map (part_lines script) parts
    ++ end_line (homes_of script.wires.switches (map entries_of parts)) (sends_of script)
    (flat_map (λ part. part.moves) parts) ∷ []))

-- `text` says what happens to the packets that the script sends, with all links up, if each channel holds `room`
-- packets; no channel holds more after any turn, and as many lines say that a packet arrives as packets enter a
-- component
pub record IsFlowOf (script : ScriptOf) (room : ℕ) (text : List ℕ) : Type 0 where
  pub parts : List FlowPart
  pub trees : IsForest script.wires (map entries_of parts)
  pub flows : All (IsFlowPart script room) parts
  pub text_is : text ≡ flow_text script parts
  pub holds :
      (part : FlowPart) (went : List Went) (flow : FlowOf) (channel : Channel) → Contains parts part
      → Turns (layout_in room part.part) (start_of script (entries_of part)) went flow → IsSpot channel
      → length (queue_at flow channel) ≤ room
  pub arrive :
      count_by is_arrival (flat_map (part_lines script) parts)
      ≡ count_by (is_entering (homes_of script.wires.switches (map entries_of parts))) (sends_of script)
