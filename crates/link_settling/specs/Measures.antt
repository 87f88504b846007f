-- How far a port and what it knows of the far end are from their goal, in clocks and in answers.

use Rattle.std.specs.Prelude.{◌≡◌, ◌-◌, ◌==◌, ℕ, suc, [], ◌∷◌, Some, if◌then◌else◌}
use Rattle.an_base.specs.Values.{EndId}
use Rattle.an_base.specs.declared.port.Sample.{Sample}
use Rattle.an_base.specs.declared.port.PortState.{PortState}
use Rattle.an_base.specs.declared.port.PortState.TheVariants as state
use Rattle.skeptic.specs.Skeptics.{SkepticOf, hold, failed}
use Rattle.connectivity.specs.declared.conn.Conn.{Conn}
use Rattle.connectivity.specs.declared.conn.Conn.TheVariants.{Who, Loop, Good}
use Rattle.connectivity.specs.Connections.{ConnectivityOf, is_end, is_same_end}
use Rattle.port_monitor.specs.declared.port.Phase.{Phase}
use Rattle.port_monitor.specs.declared.port.Phase.TheVariants.{Dead, Checking, Host, Switch}
use Rattle.port_monitor.specs.declared.port.Port.{Port}
use Rattle.port_monitor.specs.Ports.{state_of, peer_of}
use Rattle.port_monitor.specs.Histories.{History, Sampled, Replied}

-- the number of clocks without a failure after which a port knows whether a host or a switch is there
abbrev pub clocks_by : Phase → SkepticOf → ℕ
clocks_by Dead status = suc (hold status) - status.run
clocks_by Checking status = 1
clocks_by Host status = 0
clocks_by Switch status = 0

abbrev pub clocks_left : Port → ℕ
clocks_left port = clocks_by port.phase port.status

-- the number of answers in a row by this end after which it is the peer; another peer is first given up
abbrev pub answers_by : EndId → Conn → ConnectivityOf → ℕ
answers_by own Who far = if is_end far.candidate own then hold far.skeptic - far.streak else hold far.skeptic
answers_by own (Loop peer) far = if is_same_end own peer then 0 else suc (hold (failed far.skeptic))
answers_by own (Good peer) far = if is_same_end own peer then 0 else suc (hold (failed far.skeptic))

abbrev pub answers_left : EndId → ConnectivityOf → ℕ
answers_left own far = answers_by own far.conn far

-- no clock had this sample
abbrev pub HasNo : Sample → History → Type 0
HasNo wanted [] = Unit {0}
HasNo wanted (Sampled sample ∷ history) = (sample ≡ wanted → ⊥) × HasNo wanted history
HasNo wanted (Replied from nonce ∷ history) = HasNo wanted history

-- the state of a port that knows the end `peer`
abbrev pub known_state : EndId → EndId → PortState
known_state own peer = if peer.life.uid == own.life.uid then state.Loop else state.Good

-- a port knows the end `peer` of a switch as the other end: of this switch, or of another one
pub record Knows (own peer : EndId) (port : Port) : Type 0 where
  pub state : state_of port ≡ known_state own peer
  pub peer_is : peer_of port ≡ Some peer
