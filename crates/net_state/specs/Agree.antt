-- When a network agrees, is quiet, and has ended.

use Rattle.std.specs.Prelude.{◌==◌, ◌&&◌, nat_lt, not, Option, Some, None, is_some, Bool, if◌then◌else◌, find}
use Rattle.std.specs.List.{list_all}
use Rattle.std.specs.Option.{option_map}
use Rattle.an_base.specs.Values.{LifeId, EndId}
use Rattle.an_base.specs.Ports.{PortViewOf}
use Rattle.an_base.specs.declared.port.PortState.{PortState}
use Rattle.net_graph.specs.declared.wiring.LinkAt.{LinkAt}
use Rattle.net_graph.specs.declared.wiring.HostOn.{HostOn}
use Rattle.connectivity.specs.Connections.{is_end}
use Rattle.net_state.specs.declared.ending.Ending.{Ending}
use Rattle.net_state.specs.declared.ending.Ending.TheVariants as ending
use Rattle.net_state.specs.PortStates.{is_dead, is_host, is_loop, is_good}
use Rattle.net_state.specs.Fabric.{FabricOf, port_shown, end_shown, is_up, full_hands, room}
use Rattle.net_state.specs.Fabric.{due_command, are_wires_empty, are_all_done}
use Rattle.net_state.specs.Fabric.{is_some_clock_due, is_some_load_due, is_some_unacked, is_some_packet}

-- whether a port is shown as good, with `peer` at its far end
abbrev pub is_good_to : EndId → PortViewOf → Bool
is_good_to peer view = is_good view.state && is_end view.peer peer

-- whether the states shown at both ends of a link pass a test
abbrev pub are_both : (PortState → Bool) → FabricOf → LinkAt → Bool
are_both test fabric link =
    test (port_shown fabric link.a link.a_port).state && test (port_shown fabric link.b link.b_port).state

-- whether each end is good, and names the current life and port of the other
abbrev pub are_peers : FabricOf → LinkAt → Bool
are_peers fabric link =
    is_good_to (end_shown fabric link.b link.b_port) (port_shown fabric link.a link.a_port)
    && is_good_to (end_shown fabric link.a link.a_port) (port_shown fabric link.b link.b_port)

-- whether a link and the states at its ends agree: if it is down, both are dead; if it joins a switch to itself, both
-- say so; and otherwise each end knows the other
abbrev pub link_agrees : FabricOf → LinkAt → Bool
link_agrees fabric link =
    if not (is_up fabric link.a link.a_port) then are_both is_dead fabric link
    else if link.a == link.b then are_both is_loop fabric link
    else are_peers fabric link

-- whether the link of a host agrees with the state of its port
abbrev pub host_agrees : FabricOf → HostOn → Bool
host_agrees fabric host =
    if is_up fabric host.s host.port
    then is_host (port_shown fabric host.s host.port).state
    else is_dead (port_shown fabric host.s host.port).state

-- whether each link and each host's link agrees with the states that are shown
abbrev pub agrees : FabricOf → Bool
agrees fabric =
    list_all (link_agrees fabric) fabric.script.wires.links
    && list_all (host_agrees fabric) fabric.script.wires.hosts

-- whether nothing is left to do before another tick: no packet is in flight, no clock event and no load is due, and no
-- wire has a frame
abbrev pub is_idle : FabricOf → Bool
is_idle fabric =
    not (is_some_packet fabric) && not (is_some_clock_due fabric) && not (is_some_load_due fabric)
    && are_wires_empty fabric

-- whether nothing is left to do at all: also no body waits or is unacknowledged; this is used only if no switch holds
-- anything, because a held frame is on no wire
abbrev pub is_quiet : FabricOf → Bool
is_quiet fabric = is_idle fabric && not (is_some_unacked fabric)

-- whether all commands are done, the network is quiet, and it agrees
abbrev pub is_settled : FabricOf → Bool
is_settled fabric = are_all_done fabric && is_quiet fabric && agrees fabric

-- whether the last tick has come, and nothing is left to do before another one
abbrev pub is_unsettled : FabricOf → Bool
is_unsettled fabric =
    (fabric.tick == fabric.script.limits.ticks) && not (is_some (due_command fabric)) && is_idle fabric

-- the first switch of the script that is spent
abbrev pub first_spent : FabricOf → Option LifeId
first_spent fabric = option_map (λ at. at.note.life) (find (λ at. at.spent) fabric.stations)

-- the ending, if no switch holds anything: the first of these that applies
abbrev pub ending_by : Option LifeId → FabricOf → Option Ending
ending_by (Some life) fabric = Some (ending.Spent life)
ending_by None fabric =
    if is_settled fabric then Some ending.Settled
    else if nat_lt (room fabric) 2 then Some ending.Full
    else if is_unsettled fabric then Some ending.Unsettled
    else None

-- the ending, if the history has ended; it has not while a switch holds something
unfoldable pub ending_of : FabricOf → Option Ending
ending_of fabric = if nat_lt 0 (full_hands fabric) then None else ending_by (first_spent fabric) fabric
