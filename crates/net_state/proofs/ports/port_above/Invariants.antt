use Rattle.std.proofs.Common.{◌≡◌, ◌&&◌, ◌-◌, nat_lt, find, drop}
use Rattle.port_monitor.specs.Histories.{externals}
use Rattle.wire_set.specs.WireState.{has_frame_on, place}
use Rattle.net_state.proofs.ports.port_above.Given as goal

-- the port is not among those so far
abbrev pub invariant-ports : goal.invariant-ports
invariant-ports l =
    find (λ port. nat_lt l.last port && has_frame_on l.wires (place l.s port)) externals
    ≡ find (λ port. nat_lt l.last port && has_frame_on l.wires (place l.s port)) (drop (l.port - 1) externals)
