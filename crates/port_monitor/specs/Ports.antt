-- One port: how clock events and replies change it, and the state that it shows.

use Rattle.std.specs.Prelude.{ℕ, suc, Bool, true, false, List, [], ◌∷◌, ◌++◌, Option, Some, None, if◌then◌else◌}
use Rattle.an_base.specs.Values.{EndId, PeerAt}
use Rattle.an_base.specs.declared.frame.Frame.{Frame}
use Rattle.an_base.specs.declared.frame.Frame.TheVariants.{Reply}
use Rattle.an_base.specs.declared.port.PortState.{PortState}
use Rattle.an_base.specs.declared.port.PortState.TheVariants as state
use Rattle.an_base.specs.declared.port.Sample.{Sample}
use Rattle.an_base.specs.declared.port.Sample.TheVariants as sample
use Rattle.skeptic.specs.Skeptics.{SkepticOf, failed, praised, dwelt, is_over, cleared}
use Rattle.connectivity.specs.declared.conn.Conn.{Conn}
use Rattle.connectivity.specs.declared.conn.Conn.TheVariants.{Who, Loop, Good}
use Rattle.connectivity.specs.Connections.{unknown, probed, replied, forgotten, judged}
use Rattle.port_monitor.specs.declared.port.Phase.{Phase}
use Rattle.port_monitor.specs.declared.port.Phase.TheVariants.{Dead, Checking, Host, Switch}
use Rattle.port_monitor.specs.declared.port.Port.{Port}

-- a port at the start
abbrev pub unsampled : EndId → Port
unsampled me = record { phase = Dead; status = record { level = 0; run = 0 }; far = unknown me }

-- the skeptic of the port's status after a sample that is down: a failure, unless the port was dead
abbrev pub status_down : Phase → SkepticOf → SkepticOf
status_down Dead status = cleared status
status_down Checking status = failed status
status_down Host status = failed status
status_down Switch status = failed status

-- the port after a clock event with a sample that is down
abbrev pub fallen : Port → Port
fallen port = record { phase = Dead; status = status_down port.phase port.status; far = forgotten port.far }

-- the port after it was checked, with a host or a switch at its far end; a switch is probed at once
abbrev pub entered : Bool → Port → Port
entered true port = record { phase = Host; status = cleared port.status; far = forgotten port.far }
entered false port =
    record { phase = Switch; status = cleared port.status; far = probed (forgotten port.far) }

-- the port after a clock event with a sample that is up, by the phase before it
abbrev pub kept_up : Phase → Bool → Port → Port
kept_up Dead is_host port =
    record port { phase = if is_over port.status then Checking else Dead; status = dwelt port.status }
kept_up Checking is_host port = entered is_host port
kept_up Host is_host port = record port { status = praised port.status }
kept_up Switch is_host port = record port { status = praised port.status; far = probed (judged port.far) }

-- the port after a clock event with this sample
abbrev pub sampled : Sample → Port → Port
sampled sample.Down port = fallen port
sampled sample.Host port = kept_up port.phase true port
sampled sample.Switch port = kept_up port.phase false port

-- whether a switch is taken to be at the far end; the port then probes it, and answers its probes
abbrev pub speaks : Phase → Bool
speaks Dead = false
speaks Checking = false
speaks Host = false
speaks Switch = true

-- the number of the probe that goes out at a clock event, by the port after it
abbrev pub probe_of : Port → Option ℕ
probe_of port = if speaks port.phase then Some port.far.nonce else None

-- the port after a reply by end `from` to probe `nonce`
abbrev pub replied_to : EndId → ℕ → Port → Port
replied_to from nonce port =
    if speaks port.phase then record port { far = replied from nonce port.far } else port

-- the state of a port, by its phase and what is known of the far end
abbrev pub state_by : Phase → Conn → PortState
state_by Dead conn = state.Dead
state_by Checking conn = state.Checking
state_by Host conn = state.Host
state_by Switch Who = state.Who
state_by Switch (Loop peer) = state.Loop
state_by Switch (Good peer) = state.Good

-- the state of a port
abbrev pub state_of : Port → PortState
state_of port = state_by port.phase port.far.conn

-- the far end, if it is known, by the phase and what is known of it
abbrev pub peer_by : Phase → Conn → Option EndId
peer_by Dead conn = None
peer_by Checking conn = None
peer_by Host conn = None
peer_by Switch Who = None
peer_by Switch (Loop peer) = Some peer
peer_by Switch (Good peer) = Some peer

-- the far end of a port, if it is known
abbrev pub peer_of : Port → Option EndId
peer_of port = peer_by port.phase port.far.conn

-- the far end of a good port, by the phase and what is known of it
abbrev pub good_peer_by : Phase → Conn → Option EndId
good_peer_by Dead conn = None
good_peer_by Checking conn = None
good_peer_by Host conn = None
good_peer_by Switch Who = None
good_peer_by Switch (Loop peer) = None
good_peer_by Switch (Good peer) = Some peer

-- the link at `port`, if it has a peer
abbrev pub link_to : ℕ → Option EndId → List PeerAt
link_to port None = []
link_to port (Some peer) = record { port = port; peer = peer } ∷ []

-- the links at the good ports, in ascending order; the first in the list has number `port`
abbrev pub links_from : ℕ → List Port → List PeerAt
links_from number [] = []
links_from number (port ∷ ports) =
    link_to number (good_peer_by port.phase port.far.conn) ++ links_from (suc number) ports

-- the reply to probe `nonce` by end `from`, if the port answers probes
abbrev pub reply_to : EndId → EndId → ℕ → Port → Option Frame
reply_to me from nonce port = if speaks port.phase then Some (Reply me from nonce) else None
