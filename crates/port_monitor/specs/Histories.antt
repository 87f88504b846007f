-- The ports of a switch as functions of what happened at each of them: clock events with their samples, and
-- replies.

use Rattle.std.specs.Prelude.{◌≡◌, ◌==◌, ◌-◌, ◌≤◌, ℕ, List, [], ◌∷◌, map, slice_get, Option, Some, if◌then◌else◌}
use Rattle.an_base.specs.Values.{LifeId, EndId, PeerAt}
use Rattle.an_base.specs.declared.port.Sample.{Sample}
use Rattle.an_base.specs.declared.port.Sample.TheVariants as sample
use Rattle.an_base.specs.declared.limits.TheConstants.{LAST_PORT}
use Rattle.port_monitor.specs.declared.port.Phase.{Phase}
use Rattle.port_monitor.specs.declared.port.Phase.TheVariants.{Dead, Checking, Host, Switch}
use Rattle.port_monitor.specs.declared.port.Port.{Port}
use Rattle.port_monitor.specs.declared.monitor.Monitor.{Monitor}
use Rattle.port_monitor.specs.Ports.{unsampled, sampled, replied_to, links_from}

-- an event at a port: a clock event with a sample, or a reply
pub data Happening : Type 0 where
  Sampled : (sample : Sample) → Happening
  Replied : (from : EndId) → (nonce : ℕ) → Happening

-- the events at a port, the newest first
abbrev pub History : Type 0
History = List Happening

-- the port at end `me` after all events of a history
abbrev pub port_after : EndId → History → Port
port_after me [] = unsampled me
port_after me (Sampled sample ∷ history) = sampled sample (port_after me history)
port_after me (Replied from nonce ∷ history) = replied_to from nonce (port_after me history)

-- the histories of the ports, with one more event at `port`
abbrev pub with_happening : ℕ → Happening → (ℕ → History) → ℕ → History
with_happening port happening histories other =
    if other == port then happening ∷ histories other else histories other

-- the ports 1 to 12 are in the state that their histories give
pub record IsAfter (monitor : Monitor) (histories : ℕ → History) : Type 0 where
  pub ports : (port : ℕ) → 1 ≤ port → port ≤ LAST_PORT
      → slice_get monitor.ports (port - 1)
      ≡ Some (port_after (record { life = monitor.life; port = port }) (histories port))

-- the external ports, in ascending order
abbrev pub externals : List ℕ
externals = 1 ∷ 2 ∷ 3 ∷ 4 ∷ 5 ∷ 6 ∷ 7 ∷ 8 ∷ 9 ∷ 10 ∷ 11 ∷ 12 ∷ []

-- the good links of this life after these histories, in ascending order of port
abbrev pub links_after : LifeId → (ℕ → History) → List PeerAt
links_after life histories =
    links_from 1 (map (λ port. port_after (record { life = life; port = port }) (histories port)) externals)

-- the answers to the probes since the far end was last forgotten, extended by a clock event with this sample, in
-- this phase; the newest is first, and `None` is a probe that nobody answered
abbrev pub answered_by : Sample → Phase → Option EndId → List (Option EndId) → List (Option EndId)
answered_by sample.Down phase answer answers = []
answered_by other Dead answer answers = []
answered_by other Checking answer answers = []
answered_by other Host answer answers = []
answered_by other Switch answer answers = answer ∷ answers

-- the answers to the probes since the far end was last forgotten, the newest first
abbrev pub answers : EndId → History → List (Option EndId)
answers me [] = []
answers me (Sampled sample ∷ history) =
    answered_by sample (port_after me history).phase (port_after me history).far.answer (answers me history)
answers me (Replied from nonce ∷ history) = answers me history
