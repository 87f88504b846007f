-- Which events are lawful next.

use Rattle.std.specs.Prelude.{◌&&◌, ◌||◌, ℕ, nat_lt, nat_le, not, List, [], ◌∷◌, Option, Some, None, is_some, Bool, true, false}
use Rattle.std.specs.Option.{option_map_or}
use Rattle.std.specs.Ordering.{nat_cmp, is_eq}
use Rattle.std.specs.Cmp.Lexicographic.{slice_cmp}
use Rattle.an_base.specs.declared.event.Event.{Event}
use Rattle.an_base.specs.declared.event.Event.TheVariants.{Tick, Clock, Take, Handle, Load, Fail, Repair, Lose, Again, Swap, Noise, Send, Move, Restart}
use Rattle.host_traffic.specs.Packets.{packet_of}
use Rattle.net_state.specs.Fabric.{FabricOf, is_switch, is_external, is_full_at, clock_due_at, load_due_at}
use Rattle.net_state.specs.Fabric.{has_frame, due_command, full_hands, room, are_wires_empty}
use Rattle.net_state.specs.Fabric.{is_some_spent, is_some_clock_due, is_some_load_due, is_some_packet}
use Rattle.net_state.specs.Agree.{ending_of}

-- an event as numbers: its kind, and its fields
abbrev pub event_code : Event → List ℕ
event_code Tick = 0 ∷ []
event_code (Clock place) = 1 ∷ place ∷ []
event_code (Take place port) = 2 ∷ place ∷ port ∷ []
event_code (Handle place) = 3 ∷ place ∷ []
event_code (Load place) = 4 ∷ place ∷ []
event_code (Fail place port) = 5 ∷ place ∷ port ∷ []
event_code (Repair place port) = 6 ∷ place ∷ port ∷ []
event_code (Lose place port times) = 7 ∷ place ∷ port ∷ times ∷ []
event_code (Again place port times) = 8 ∷ place ∷ port ∷ times ∷ []
event_code (Swap place port times) = 9 ∷ place ∷ port ∷ times ∷ []
event_code (Noise place port bytes) = 10 ∷ place ∷ port ∷ bytes ∷ []
event_code (Send from to) = 11 ∷ from ∷ to ∷ []
event_code (Move packet) = 12 ∷ packet ∷ []
event_code (Restart place) = 13 ∷ place ∷ []

-- whether two events are equal
abbrev pub is_same_event : Event → Event → Bool
is_same_event one other = is_eq (slice_cmp nat_cmp (event_code one) (event_code other))

-- whether the event is that of the next command, which is due
abbrev pub is_command : FabricOf → Event → Bool
is_command fabric event = option_map_or (is_same_event event) (due_command fabric) false

-- whether enough events came since the last tick, if the script sets a pace
abbrev pub is_paced : Option ℕ → ℕ → Bool
is_paced None since = false
is_paced (Some pace) since = nat_le pace since

-- whether a tick is lawful: no command is due, no packet is in flight, no switch holds anything, no clock event is due,
-- and the last tick has not come; and nothing is left to take or load, or enough events came since the last tick
abbrev pub is_tick_due : FabricOf → Bool
is_tick_due fabric =
    not (is_some (due_command fabric)) && not (is_some_packet fabric) && not (nat_lt 0 (full_hands fabric))
    && not (is_some_clock_due fabric) && nat_lt fabric.tick fabric.script.limits.ticks
    && ((are_wires_empty fabric && not (is_some_load_due fabric)) || is_paced fabric.script.pace fabric.since)

-- whether the further conditions of an event hold, by its kind
abbrev pub is_ready : FabricOf → Event → Bool
is_ready fabric Tick = is_tick_due fabric
is_ready fabric (Clock place) =
    is_switch fabric place && not (is_full_at fabric place) && clock_due_at fabric place
is_ready fabric (Take place port) =
    is_switch fabric place && is_external port && not (is_full_at fabric place)
    && not (clock_due_at fabric place) && has_frame fabric place port
is_ready fabric (Handle place) = is_switch fabric place && is_full_at fabric place
is_ready fabric (Load place) =
    is_switch fabric place && not (is_full_at fabric place) && load_due_at fabric place
is_ready fabric (Move packet) = is_some (packet_of packet fabric.packets)
is_ready fabric (Restart place) = is_command fabric (Restart place) && not (is_full_at fabric place)
is_ready fabric event = is_command fabric event

-- whether the event is a handling
abbrev pub is_handle : Event → Bool
is_handle (Handle place) = true
is_handle event = false

-- whether only what switches hold can still be handled: a switch is spent, or there is too little room
abbrev pub is_barred : FabricOf → Bool
is_barred fabric = is_some_spent fabric || nat_lt (room fabric) 2

-- whether the event is lawful next: the history has not ended, the event is not barred, and its further conditions hold
unfoldable pub is_lawful : FabricOf → Event → Bool
is_lawful fabric event =
    not (is_some (ending_of fabric)) && (is_handle event || not (is_barred fabric)) && is_ready fabric event
