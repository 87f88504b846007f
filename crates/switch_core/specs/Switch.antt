-- A switch in one life, as a function of its history.

use Rattle.std.specs.Prelude.{◌≡◌, ◌≢◌, ℕ, ◌==◌, ◌&&◌, nat_lt, List, [], map, length, Option, None, Bool, false, if◌then◌else◌}
use Rattle.std.specs.List.{list_any}
use Rattle.an_base.specs.Values.{LifeId, EndId, PeerAt, TopoOf}
use Rattle.an_base.specs.Ports.{PortViewOf, NoteOf}
use Rattle.port_monitor.specs.declared.port.Port.{Port}
use Rattle.port_monitor.specs.Ports.{state_of, peer_of, good_peer_by}
use Rattle.port_monitor.specs.Histories.{History, externals, links_after, port_after}
use Rattle.connectivity.specs.Connections.{is_end, is_same_end}
use Rattle.ordered_link.specs.Sending.{Sending, unused}
use Rattle.ordered_link.specs.Receiving.{Receiving, untouched}
use Rattle.epoch_core.specs.Log.{CardOf, Log}
use Rattle.epoch_core.specs.Epoch.{finish}

-- what the switch depends on: its life, and whether its tables have all legal routes or only the shortest ones; the
-- events at each port; the epoch, and whether the life has joined it; the card that it joined with, and the bodies
-- that it accepted since, the newest first; at each port the two directions of the session of this epoch; the number of
-- the table that it loaded last, or the one that it had before; whether a load is due; the tick of its last clock
-- event; and whether its epochs are spent
pub record SwitchOf : Type 0 where
  pub life : LifeId
  pub any : Bool
  pub ports : ℕ → History
  pub epoch : ℕ
  pub joined : Bool
  pub card : CardOf
  pub log : Log
  pub sendings : ℕ → Sending
  pub receivings : ℕ → Receiving
  pub number : ℕ
  pub load_due : Bool
  pub tick : ℕ
  pub spent : Bool

-- the card that a life joins an epoch with
abbrev pub card_of : LifeId → ℕ → List PeerAt → CardOf
card_of me proposed links = record { me = me; proposed = proposed; links = links }

-- the switch at power-on, in an epoch that it has not joined
abbrev pub started : LifeId → ℕ → ℕ → Bool → SwitchOf
started life epoch had any = record {
  life = life;
  any = any;
  ports = λ port. [];
  epoch = epoch;
  joined = false;
  card = card_of life had [];
  log = [];
  sendings = λ port. unused;
  receivings = λ port. untouched;
  number = had;
  load_due = false;
  tick = 0;
  spent = false;
}

-- what a switch is started with: its life, an epoch, the number that it had before, and whether its tables have all
-- legal routes
pub record StartOf : Type 0 where
  pub life : LifeId
  pub epoch : ℕ
  pub had : ℕ
  pub any : Bool

-- the switch that was started with this
abbrev pub started_as : StartOf → SwitchOf
started_as start = started start.life start.epoch start.had start.any

-- `values` with `value` at `port`
abbrev pub at_port : {A : Type 0} → ℕ → A → (ℕ → A) → ℕ → A
at_port port value values other = if other == port then value else values other

-- the end of the switch at `port`
abbrev pub end_at : SwitchOf → ℕ → EndId
end_at switch port = record { life = switch.life; port = port }

-- the state of a port after all that happened there
abbrev pub port_of : SwitchOf → ℕ → Port
port_of switch port = port_after (end_at switch port) (switch.ports port)

-- the external ports, in ascending order
abbrev pub ports_of : SwitchOf → List Port
ports_of switch = map (port_of switch) externals

-- the good links, in ascending order of port
abbrev pub good_links : SwitchOf → List PeerAt
good_links switch = links_after switch.life switch.ports

-- the far end of the good link at `port`, if it is good
abbrev pub good_peer : SwitchOf → ℕ → Option EndId
good_peer switch port = good_peer_by (port_of switch port).phase (port_of switch port).far.conn

-- whether a frame of a session from end `from` to end `to` counts: its port is good, its sender is the port's peer, and
-- it is meant for this end
abbrev pub counts : SwitchOf → ℕ → EndId → EndId → Bool
counts switch port from to = is_end (good_peer switch port) from && is_same_end to (end_at switch port)

-- the topology that the switch has finished with in its current epoch, if it has finished
abbrev pub finish_of : SwitchOf → Option TopoOf
finish_of switch = if switch.joined then finish switch.card switch.log else None

-- whether some body that was pushed is not acknowledged
abbrev pub is_unacked : Sending → Bool
is_unacked sending = nat_lt sending.acked (length sending.pushed)

-- all that came between `before` and `after` came on `port`: the life is the same, and nothing happened at the other
-- ports
pub record CameBy (port : ℕ) (before after : SwitchOf) : Type 0 where
  pub life : after.life ≡ before.life
  pub others : (other : ℕ) → other ≢ port → after.ports other ≡ before.ports other

-- what the switch shows of a port
abbrev pub view_of : Port → PortViewOf
view_of port = record { state = state_of port; peer = peer_of port }

-- what the switch shows of itself
abbrev pub note_of : SwitchOf → NoteOf
note_of switch = record {
  life = switch.life;
  epoch = switch.epoch;
  ports = map view_of (ports_of switch);
  load_due = switch.load_due;
  unacked = list_any (λ port. is_unacked (switch.sendings port)) externals;
}
