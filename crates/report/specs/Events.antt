-- The report of a history: the lines of each event in turn, and the last line.

use Rattle.std.specs.Prelude.{◌≡◌, ◌==◌, ◌||◌, ℕ, List, [], ◌∷◌, ◌++◌, codes, Option, Some, None, map, filter, slice_get, slice_index_or, Bool}
use Rattle.std.specs.Fmt.{decimal}
use Rattle.std.specs.List.{flat_map, list_any, range_with_len}
use Rattle.std.specs.Option.{option_map_or}
use Rattle.an_base.specs.Values.{LifeId, EndId}
use Rattle.an_base.specs.Rows.{RowOf}
use Rattle.an_base.specs.declared.event.Event.{Event}
use Rattle.an_base.specs.declared.port.PortState.{PortState}
use Rattle.an_base.specs.declared.port.PortState.TheVariants as state
use Rattle.net_script.specs.Scripts.{ScriptOf}
use Rattle.wire_set.specs.declared.side.Loss.{Loss}
use Rattle.wire_set.specs.declared.side.Loss.TheVariants as loss
use Rattle.host_traffic.specs.declared.hop.DropCause.{DropCause}
use Rattle.host_traffic.specs.declared.hop.DropCause.TheVariants as cause
use Rattle.net_state.specs.declared.ending.Ending.{Ending}
use Rattle.net_state.specs.declared.ending.Ending.TheVariants as ending
use Rattle.net_state.specs.Fabric.{FabricOf}
use Rattle.net_state.specs.declared.line.Line.{Line}
use Rattle.net_state.specs.declared.line.Line.TheVariants as line
use Rattle.net_world.specs.World.{WorldOf, begun, step, world_after}
use Rattle.net_world.specs.Lines.{lines_of, rows_after}
use Rattle.net_world.specs.Histories.{IsLegal, end_of}
use Rattle.net_settling.specs.Claims.{HoldsAndSettles}
use Rattle.journal.specs.Texts.{IsJournal}
use Rattle.row_text.specs.Names.{life_text}
use Rattle.row_text.specs.Rows.{row_form}
use Rattle.row_text.specs.TableForms.{table_text}

-- each word after a space
abbrev pub spaced_word : List ℕ → List ℕ
spaced_word word = codes " " ++ word

unfoldable pub spaced : List (List ℕ) → List ℕ
spaced words = flat_map spaced_word words

-- How far a network has come, for the report: the present life of each switch, the number of events, and the tick.
pub record CourseOf : Type 0 where
  pub lives : List LifeId
  pub events : ℕ
  pub tick : ℕ

abbrev pub course_of : FabricOf → CourseOf
course_of fabric = record {
  lives = map (λ station. station.note.life) fabric.stations;
  events = fabric.events;
  tick = fabric.tick;
}

-- how far the network of a script has come with a history
abbrev pub course_after : ScriptOf → List Event → CourseOf
course_after script history = course_of (world_after script history).fabric

-- the text of a switch, which is that of its present life, and of a host, which is its name
abbrev pub switch_text : ScriptOf → List LifeId → ℕ → List ℕ
switch_text script lives place = option_map_or (life_text script) (slice_get lives place) []

abbrev pub host_text : ScriptOf → ℕ → List ℕ
host_text script host = slice_index_or script.names_of_hosts host []

-- the states of a port, as a report names them
abbrev pub state_word : PortState → List ℕ
state_word state.Dead = codes "s.dead"
state_word state.Checking = codes "s.checking"
state_word state.Host = codes "s.host"
state_word state.Who = codes "s.switch.who"
state_word state.Loop = codes "s.switch.loop"
state_word state.Good = codes "s.switch.good"

-- the words for the other end of a good port
abbrev pub end_words : ScriptOf → Option EndId → List (List ℕ)
end_words script None = []
end_words script (Some end) = life_text script end.life ∷ decimal end.port ∷ []

-- the words for the peer of a port; ports in other states have none
abbrev pub peer_words : ScriptOf → PortState → Option EndId → List (List ℕ)
peer_words script state.Good peer = end_words script peer
peer_words script other peer = []

-- the words for why a frame was lost
abbrev pub loss_words : Loss → List (List ℕ)
loss_words loss.Down = codes "down" ∷ []
loss_words loss.Told = codes "told" ∷ []
loss_words (loss.NoRoom need free) =
    codes "room" ∷ codes "need" ∷ decimal need ∷ codes "free" ∷ decimal free ∷ []

-- the words for why a packet was dropped, and to which host it was delivered
abbrev pub drop_word : DropCause → List ℕ
drop_word cause.NoPort = codes "no-port"
drop_word cause.NoTable = codes "no-table"
drop_word cause.NoHost = codes "no-host"
drop_word cause.WrongHost = codes "wrong-host"
drop_word cause.NoExit = codes "no-exit"
drop_word cause.LinkDown = codes "link-down"

abbrev pub deliver_words : ScriptOf → Option ℕ → List (List ℕ)
deliver_words script None = []
deliver_words script (Some host) = codes "deliver" ∷ host_text script host ∷ []

-- the words that report an event of a packet, given the lives after the event
abbrev pub packet_words : ScriptOf → List LifeId → Line → List (List ℕ)
packet_words script lives (line.Packet packet from to address) =
    codes "packet" ∷ decimal packet ∷ host_text script from ∷ codes "to" ∷ host_text script to
    ∷ codes "address" ∷ decimal address ∷ []
packet_words script lives (line.Unsent packet from to why) =
    codes "packet" ∷ decimal packet ∷ host_text script from ∷ codes "to" ∷ host_text script to
    ∷ codes "drop" ∷ drop_word why ∷ []
packet_words script lives (line.Moved packet place epoch entry exit host) =
    codes "move" ∷ decimal packet ∷ switch_text script lives place ∷ codes "epoch" ∷ decimal epoch
    ∷ codes "from" ∷ decimal entry ∷ codes "out" ∷ decimal exit ∷ deliver_words script host
packet_words script lives (line.Fell packet place why) =
    codes "move" ∷ decimal packet ∷ switch_text script lives place ∷ codes "drop" ∷ drop_word why ∷ []
packet_words script lives other = []

-- the words that report an event
abbrev pub told_words : ScriptOf → List LifeId → Line → List (List ℕ)
told_words script lives (line.Port place port state peer) =
    switch_text script lives place ∷ codes "port" ∷ decimal port ∷ state_word state
    ∷ peer_words script state peer
told_words script lives (line.NoFrame place port) =
    switch_text script lives place ∷ codes "noframe" ∷ decimal port ∷ []
told_words script lives (line.Join place epoch) =
    switch_text script lives place ∷ codes "join" ∷ decimal epoch ∷ []
told_words script lives (line.Spent place) = switch_text script lives place ∷ codes "spent" ∷ []
told_words script lives (line.Finish place epoch root members) =
    switch_text script lives place ∷ codes "finish" ∷ decimal epoch ∷ codes "root"
    ∷ life_text script root ∷ codes "members" ∷ decimal members ∷ []
told_words script lives (line.Lost place port why) =
    codes "lost" ∷ switch_text script lives place ∷ decimal port ∷ loss_words why
told_words script lives (line.Load place epoch number) =
    switch_text script lives place ∷ codes "load" ∷ decimal epoch ∷ codes "number" ∷ decimal number ∷ []
told_words script lives (line.Cut place port dropped) =
    codes "fail" ∷ switch_text script lives place ∷ decimal port ∷ codes "dropped" ∷ decimal dropped ∷ []
told_words script lives (line.Mended place port) =
    codes "repair" ∷ switch_text script lives place ∷ decimal port ∷ []
told_words script lives (line.Restarted place) = codes "restart" ∷ switch_text script lives place ∷ []
told_words script lives other = packet_words script lives other

-- the table has a line for the entry, which is 0 or has rows
abbrev pub has_line : List RowOf → ℕ → Bool
has_line rows entry = (entry == 0) || list_any (λ row. row.entry == entry) rows

-- the lines of a table, in ascending order of entry
abbrev pub rows_in_use : ScriptOf → LifeId → List RowOf → List ℕ
rows_in_use script life rows =
    table_text (map (row_form script life rows) (filter (has_line rows) (range_with_len 0 13)))

-- after the line of a load follow the lines of the table that is then in use
abbrev pub rows_text : ScriptOf → List LifeId → List RowOf → Line → List ℕ
rows_text script lives rows (line.Load place epoch number) =
    option_map_or (λ life. rows_in_use script life rows) (slice_get lives place) []
rows_text script lives rows told = []

-- A line of an event begins with the position of the event in the history, from 1.
unfoldable pub told_text : ScriptOf → CourseOf → List RowOf → Line → List ℕ
told_text script course rows told =
    decimal course.events ++ spaced (told_words script course.lives told) ++ codes "\n"
    ++ rows_text script course.lives rows told

abbrev pub all_told : ScriptOf → CourseOf → List RowOf → List Line → List ℕ
all_told script course rows lines = flat_map (told_text script course rows) lines

-- the lines of an event, and of all events from a world on
unfoldable pub event_text : ScriptOf → WorldOf → Event → List ℕ
event_text script world event =
    let fabric : FabricOf = (step world event).fabric in
    all_told script (course_of fabric) (rows_after fabric event) (lines_of world event)

abbrev pub events_text : ScriptOf → WorldOf → List Event → List ℕ
events_text script world [] = []
events_text script world (event ∷ events) =
    event_text script world event ++ events_text script (step world event) events

-- the last line: the end, with the tick and the number of events
abbrev pub ending_words : ScriptOf → Ending → List (List ℕ)
ending_words script ending.Settled = codes "settled" ∷ []
ending_words script ending.Unsettled = codes "unsettled" ∷ []
ending_words script ending.Full = codes "full" ∷ []
ending_words script (ending.Spent life) = codes "spent" ∷ life_text script life ∷ []

abbrev pub place_words : CourseOf → List (List ℕ)
place_words course = codes "tick" ∷ decimal course.tick ∷ codes "events" ∷ decimal course.events ∷ []

unfoldable pub line_of_end : ScriptOf → CourseOf → Ending → List ℕ
line_of_end script course end =
    codes "end" ++ spaced (ending_words script end ++ place_words course) ++ codes "\n"

-- the last line; empty before an end has come
abbrev pub last_line : ScriptOf → CourseOf → Option Ending → List ℕ
last_line script course None = []
last_line script course (Some end) = line_of_end script course end

-- the report of a history
unfoldable pub report_text : ScriptOf → List Event → List ℕ
report_text script history =
    codes "report 1\n" ++ events_text script (begun script) history
    ++ last_line script (course_after script history) (end_of script history)

-- `history` is legal with the end `end`, `text` is its report, and all that is claimed of it holds.
pub record IsReport (script : ScriptOf) (history : List Event) (end : Ending) (text : List ℕ) : Type 0 where
  pub legal : IsLegal script history end
  pub says : text ≡ report_text script history
  pub claims : HoldsAndSettles script history

-- `bytes` begins with the text of a journal, and `text` is its report, with the tick at its end.
pub record IsReportOf (script : ScriptOf) (bytes : List ℕ) (end : Ending) (tick : ℕ) (text : List ℕ)
    : Type 0 where
  pub journal : List Event
  pub is_journal : IsJournal script bytes journal
  pub is_report : IsReport script journal end text
  pub tick_is : tick ≡ (world_after script journal).fabric.tick

-- `history` is legal, with some end
abbrev pub HasLegalEnd : ScriptOf → List Event → Type 0
HasLegalEnd script history = (end : Ending) × IsLegal script history end
