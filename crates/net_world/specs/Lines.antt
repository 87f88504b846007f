-- The lines that report an event.

use Rattle.std.specs.Prelude.{◌==◌, ◌-◌, ◌&&◌, ℕ, not, List, [], ◌∷◌, ◌++◌, length, Option, Some, None, is_some, Bool, if◌then◌else◌, slice_index_or}
use Rattle.std.specs.List.{flat_map}
use Rattle.an_base.specs.Values.{LifeId, TopoOf}
use Rattle.an_base.specs.Ports.{PortViewOf, NoteOf}
use Rattle.an_base.specs.declared.event.Event.{Event}
use Rattle.an_base.specs.declared.event.Event.TheVariants.{Tick, Clock, Take, Handle, Load, Move, Restart}
use Rattle.port_monitor.specs.Histories.{externals}
use Rattle.frame_codec.specs.Reading.{frame_of}
use Rattle.topo_graph.specs.Topology.{entry_at}
use Rattle.switch_core.specs.Switch.{SwitchOf, finish_of, note_of}
use Rattle.switch_core.specs.Steps.{Step}
use Rattle.switch_core.specs.Bytes.{all_spelled}
use Rattle.net_state.specs.declared.hand.Hand.{Hand}
use Rattle.net_state.specs.declared.hand.Hand.TheVariants as hand
use Rattle.net_state.specs.declared.line.Line.{Line}
use Rattle.net_state.specs.declared.line.Line.TheVariants as line
use Rattle.table_build.specs.Made.{number_in}
use Rattle.host_traffic.specs.Packets.{packet_of}
use Rattle.net_state.specs.PortStates.{state_code}
use Rattle.net_state.specs.Fabric.{station, no_view, held_bytes, FabricOf, table_at}
use Rattle.net_state.specs.Effects.{released}
use Rattle.net_state.specs.Lines.{command_lines, lost_lines, move_lines, take_lines}
use Rattle.net_world.specs.World.{WorldOf, handled, step}
use Rattle.std.specs.Option.{option_map_or}
use Rattle.an_base.specs.Rows.{RowOf}

-- what a note shows of a port
abbrev pub shown_in : NoteOf → ℕ → PortViewOf
shown_in note port = slice_index_or note.ports (port - 1) no_view

-- the line for a port whose state changed; a port that shows only another far end has none
abbrev pub port_line : ℕ → NoteOf → NoteOf → ℕ → List Line
port_line place before after port =
    if state_code (shown_in before port).state == state_code (shown_in after port).state then []
    else line.Port place port (shown_in after port).state (shown_in after port).peer ∷ []

-- the line for bytes that are no frame, if a switch handles such bytes
abbrev pub no_frame_lines : ℕ → Hand → List ℕ → List Line
no_frame_lines place hand.Empty bytes = []
no_frame_lines place (hand.Clock now samples) bytes = []
no_frame_lines place (hand.Frame port) bytes =
    if is_some (frame_of bytes) then [] else line.NoFrame place port ∷ []

-- whether an epoch was joined
abbrev pub has_joined : SwitchOf → SwitchOf → Bool
has_joined before after = not (after.epoch == before.epoch)

-- the line for the join of an epoch, if one was joined
abbrev pub join_lines : ℕ → SwitchOf → SwitchOf → List Line
join_lines place before after = if has_joined before after then line.Join place after.epoch ∷ [] else []

-- the line for a change that is due and has no epoch left
abbrev pub no_epoch_lines : ℕ → SwitchOf → List Line
no_epoch_lines place after = if after.spent then line.Spent place ∷ [] else []

-- the root of a topology: the life that it was built under
abbrev pub root_of : TopoOf → LifeId
root_of topo = (entry_at topo.entries 0).position.root

-- the line for an epoch that was finished with a topology, if it is finished
abbrev pub finish_line : ℕ → ℕ → Option TopoOf → List Line
finish_line place epoch None = []
finish_line place epoch (Some topo) = line.Finish place epoch (root_of topo) (length topo.entries) ∷ []

-- the line for the current epoch if it is finished now, and was not before
abbrev pub finish_lines : ℕ → SwitchOf → SwitchOf → List Line
finish_lines place before after =
    if not (has_joined before after) && is_some (finish_of before) then []
    else finish_line place after.epoch (finish_of after)

-- the lines for the handling of what a switch held: the ports whose state changed, in ascending order of port; bytes
-- that are no frame; the epoch; and the frames that were lost
abbrev pub handle_lines : ℕ → Step → WorldOf → List Line
handle_lines place step world =
    flat_map (port_line place (note_of (world.switches place)) (note_of step.switch)) externals
    ++ no_frame_lines place (station world.fabric place).hand (held_bytes world.fabric place)
    ++ join_lines place (world.switches place) step.switch
    ++ no_epoch_lines place step.switch
    ++ finish_lines place (world.switches place) step.switch
    ++ lost_lines place (all_spelled step.frames)
    (released (station world.fabric place).hand place world.fabric.wires)

-- the line for a table that was loaded
abbrev pub load_lines : Option TopoOf → ℕ → SwitchOf → List Line
load_lines None place switch = []
load_lines (Some topo) place switch = line.Load place switch.epoch (number_in topo switch.life) ∷ []

-- the lines for a lawful event, by the world before it
unfoldable pub lines_of : WorldOf → Event → List Line
lines_of world Tick = []
lines_of world (Clock place) = []
lines_of world (Take place port) = take_lines place port world.fabric
lines_of world (Handle place) = handle_lines place (handled place world) world
lines_of world (Load place) = load_lines (finish_of (world.switches place)) place (world.switches place)
lines_of world (Move number) = move_lines (packet_of number world.fabric.packets) world.fabric
lines_of world (Restart place) = line.Restarted place ∷ []
lines_of world command = command_lines command world.fabric

-- the lines for lawful events, in order
abbrev pub all_lines : WorldOf → List Event → List Line
all_lines world [] = []
all_lines world (event ∷ events) = lines_of world event ++ all_lines (step world event) events

-- the rows of the table that is in use after a load; none for other events
abbrev pub rows_after : FabricOf → Event → List RowOf
rows_after fabric (Load place) = option_map_or (λ table. table.rows) (table_at fabric place) []
rows_after fabric event = []
