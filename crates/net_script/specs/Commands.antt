use Rattle.std.specs.Prelude.{◌≡◌, ℕ, ◌-◌, ◌<◌, ◌≤◌, Bool, true, false, List, length, Option, Some, None}
use Rattle.std.specs.Prelude.{is_some, slice_get, codes}
use Rattle.std.specs.Option.{option_map_or}
use Rattle.an_base.specs.declared.event.Event.{Event}
use Rattle.an_base.specs.declared.event.Event.TheVariants.{Fail, Repair, Lose, Again, Swap, Noise, Send}
use Rattle.an_base.specs.declared.event.Event.TheVariants.{Restart}
use Rattle.an_base.specs.declared.limits.TheConstants.{LAST_PORT}
use Rattle.net_graph.specs.declared.wiring.Far.{Far}
use Rattle.net_graph.specs.declared.wiring.Far.TheVariants.{Switch, HostAt}
use Rattle.net_graph.specs.Wires.{Wires, far_at}
use Rattle.net_script.specs.declared.command.Command.{Command}
use Rattle.net_script.specs.declared.command.LinkChange.{LinkChange}
use Rattle.net_script.specs.declared.command.LinkChange.TheVariants as link
use Rattle.net_script.specs.declared.command.WireChange.{WireChange}
use Rattle.net_script.specs.declared.command.WireChange.TheVariants as wire

-- Timed commands, and which of them fit a wiring.

-- the word (`link_word`) and the event (`link_event`) of a change of a link
abbrev pub link_word : LinkChange → List ℕ
link_word link.Fail = codes "fail"
link_word link.Repair = codes "repair"

abbrev pub link_event : LinkChange → ℕ → ℕ → Event
link_event link.Fail node port = Fail node port
link_event link.Repair node port = Repair node port

-- the word (`wire_word`), the event (`wire_event`) and the highest number (`most_count`) of a change of a wire
abbrev pub wire_word : WireChange → List ℕ
wire_word wire.Lose = codes "lose"
wire_word wire.Again = codes "again"
wire_word wire.Swap = codes "swap"
wire_word wire.Noise = codes "noise"

abbrev pub wire_event : WireChange → ℕ → ℕ → ℕ → Event
wire_event wire.Lose node port count = Lose node port count
wire_event wire.Again node port count = Again node port count
wire_event wire.Swap node port count = Swap node port count
wire_event wire.Noise node port count = Noise node port count

abbrev pub most_count : WireChange → ℕ
most_count wire.Lose = 1000000
most_count wire.Again = 1000000
most_count wire.Swap = 1000000
most_count wire.Noise = 64

-- whether `port` of `node` has a link or a host
abbrev pub is_used : Wires → (node port : ℕ) → Bool
is_used wires node port = is_some (far_at wires node port)

-- whether a far side is a port of a switch
abbrev pub is_switch_far : Option Far → Bool
is_switch_far None = false
is_switch_far (Some (Switch node port)) = true
is_switch_far (Some (HostAt host)) = false

-- whether `port` of `node` has a link
abbrev pub is_linked : Wires → (node port : ℕ) → Bool
is_linked wires node port = is_switch_far (far_at wires node port)

-- `own_port` is a port of the switch `node`, and this is a switch of the wiring
pub record IsPort (wires : Wires) (node own_port : ℕ) : Type 0 where
  pub switch : node < length wires.switches
  pub port_least : 1 ≤ own_port
  pub port_most : own_port ≤ LAST_PORT

-- `own_port` of `node` has a link or a host
pub record IsUsedPort (wires : Wires) (node own_port : ℕ) : Type 0 where
  pub port : IsPort wires node own_port
  pub used : is_used wires node own_port ≡ true

-- a change of a wire with the number `count` of at most `most` is possible at `own_port` of `node`
pub record IsWireChange (wires : Wires) (node own_port count most : ℕ) : Type 0 where
  pub port : IsPort wires node own_port
  pub linked : is_linked wires node own_port ≡ true
  pub count_least : 1 ≤ count
  pub count_most : count ≤ most

-- the wiring allows a command with the event
abbrev pub IsCommandEvent : Wires → Event → Type 0
IsCommandEvent wires (Fail node port) = IsUsedPort wires node port
IsCommandEvent wires (Repair node port) = IsUsedPort wires node port
IsCommandEvent wires (Lose node port count) = IsWireChange wires node port count 1000000
IsCommandEvent wires (Again node port count) = IsWireChange wires node port count 1000000
IsCommandEvent wires (Swap node port count) = IsWireChange wires node port count 1000000
IsCommandEvent wires (Noise node port count) = IsWireChange wires node port count 64
IsCommandEvent wires (Send host to) = (host < length wires.hosts) × (to < length wires.hosts)
IsCommandEvent wires (Restart node) = node < length wires.switches
IsCommandEvent wires event = ⊥

-- the wiring allows the command `one`, and its time is in range
pub record IsCommand (wires : Wires) (one : Command) : Type 0 where
  pub time : one.time ≤ 1000000
  pub event : IsCommandEvent wires one.event

-- whether an event is a restart
abbrev pub is_restart : Event → Bool
is_restart (Restart node) = true
is_restart event = false

-- the time of the last command, 0 if there is none
abbrev pub last_time : List Command → ℕ
last_time commands = option_map_or (λ command. command.time) (slice_get commands (length commands - 1)) 0
