-- What a switch does next, and what the driver of a network does next.

use Rattle.std.specs.Prelude.{◌&&◌, ℕ, nat_lt, List, [], ◌∷◌, Option, Some, None, Bool, true, false, if◌then◌else◌, find}
use Rattle.std.specs.Option.{option_or}
use Rattle.an_base.specs.declared.event.Event.{Event}
use Rattle.an_base.specs.declared.event.Event.TheVariants.{Tick, Clock, Take, Move, Restart}
use Rattle.net_script.specs.Commands.{is_restart}
use Rattle.port_monitor.specs.Histories.{externals}
use Rattle.host_traffic.specs.Packets.{first_packet}
use Rattle.net_state.specs.declared.ending.Ending.{Ending}
use Rattle.net_state.specs.declared.work.Why.TheVariants as why
use Rattle.net_state.specs.declared.work.Work.{Work}
use Rattle.net_state.specs.declared.work.Work.TheVariants as work
use Rattle.net_state.specs.declared.work.Drive.{Drive}
use Rattle.net_state.specs.declared.work.Drive.TheVariants as drive
use Rattle.net_state.specs.Fabric.{FabricOf, samples_of, has_frame, room, clock_due_at, due_command, is_some_spent}
use Rattle.net_state.specs.Starts.{next_life_at}
use Rattle.net_state.specs.Agree.{ending_of}
use Rattle.net_state.specs.Lawful.{is_command, is_barred, is_tick_due}

-- the lowest port above `last` that has a frame
abbrev pub port_above : FabricOf → ℕ → ℕ → Option ℕ
port_above fabric place last = find (λ port. nat_lt last port && has_frame fabric place port) externals

-- the port that a switch takes from next, after `last`: the lowest one above it with a frame, or the lowest one with a
-- frame
abbrev pub next_port : FabricOf → ℕ → ℕ → Option ℕ
next_port fabric place last = option_or (port_above fabric place last) (port_above fabric place 0)

-- the work on a frame from this port, if there is one
abbrev pub frame_work : Option ℕ → Work
frame_work None = work.Nothing why.Idle
frame_work (Some port) = work.Frame port

-- the next work of a switch that holds nothing; `last` is the port that it last took a frame from
abbrev pub next_work : FabricOf → ℕ → ℕ → Work
next_work fabric place last =
    if is_some_spent fabric then work.Nothing why.Spent
    else if nat_lt (room fabric) 2 then work.Nothing why.Full
    else if is_command fabric (Restart place) then work.Restart (next_life_at fabric place)
    else if clock_due_at fabric place then work.Clock fabric.tick (samples_of fabric place)
    else frame_work (next_port fabric place last)

-- the event of a switch's work, if it has one
abbrev pub event_of_work : ℕ → Work → List Event
event_of_work place (work.Restart life) = Restart place ∷ []
event_of_work place (work.Clock now samples) = Clock place ∷ []
event_of_work place (work.Frame port) = Take place port ∷ []
event_of_work place (work.Nothing reason) = []

-- the driver's tick, if one is due, or its wait
abbrev pub tick_or_wait : Bool → Drive
tick_or_wait true = drive.Did Tick
tick_or_wait false = drive.Waits

-- the driver's next action if no command is due: the lowest packet moves before a tick comes
abbrev pub move_or_tick : Option ℕ → FabricOf → Drive
move_or_tick (Some packet) fabric = drive.Did (Move packet)
move_or_tick None fabric = tick_or_wait (is_tick_due fabric)

-- the driver's next action if it is not barred: a command that is due comes first, but a restart is left to the worker
-- of its switch
abbrev pub command_or_move : Option Event → FabricOf → Drive
command_or_move None fabric = move_or_tick (first_packet fabric.packets) fabric
command_or_move (Some event) fabric =
    if is_restart event then move_or_tick (first_packet fabric.packets) fabric else drive.Did event

-- the driver's next action: it returns the ending, if there is one; if only what switches hold can still be handled, it
-- waits
abbrev pub drive_by : Option Ending → FabricOf → Drive
drive_by (Some end) fabric = drive.Ended end
drive_by None fabric = if is_barred fabric then drive.Waits else command_or_move (due_command fabric) fabric

-- the driver's next action
abbrev pub next_drive : FabricOf → Drive
next_drive fabric = drive_by (ending_of fabric) fabric

-- the event of the driver's action, if it has one
abbrev pub event_of_drive : Drive → List Event
event_of_drive (drive.Did event) = event ∷ []
event_of_drive drive.Waits = []
event_of_drive (drive.Ended end) = []
