use Rattle.std.specs.Prelude.{◌≡◌, ◌≢◌, ◌==◌, ◌&&◌, ◌⊎◌, ℕ, ◌<◌, ◌≤◌, ◌^◌, List, [], ◌∷◌, ◌++◌, length}
use Rattle.std.specs.Prelude.{Option, Some, None, All, Any, AllPairs, if◌then◌else◌, unwrap_or, slice_get}
use Rattle.std.specs.Prelude.{map, Bool, position}
use Rattle.std.specs.Option.{option_map}
use Rattle.std.specs.List.{flat_map}
use Rattle.an_base.specs.Tree.{Network}
use Rattle.an_base.specs.declared.limits.TheConstants.{LAST_PORT, MOST_NUMBER, MOST_SWITCHES}
use Rattle.net_graph.specs.declared.wiring.SwitchAt.{SwitchAt}
use Rattle.net_graph.specs.declared.wiring.LinkAt.{LinkAt}
use Rattle.net_graph.specs.declared.wiring.HostOn.{HostOn}
use Rattle.net_graph.specs.declared.wiring.Far.{Far}
use Rattle.net_graph.specs.declared.wiring.Far.TheVariants.{Switch, HostAt}

-- A wiring: switches, links between their ports, and hosts on ports.

-- the switches, links and hosts of a network, in the order in which they were added
pub record Wires : Type 0 where
  pub switches : List SwitchAt
  pub links : List LinkAt
  pub hosts : List HostOn

-- the two ends of a link, and the port of a host: each a switch and a port of it
abbrev pub a_end : LinkAt → ℕ × ℕ
a_end link = (link.a, link.a_port)

abbrev pub b_end : LinkAt → ℕ × ℕ
b_end link = (link.b, link.b_port)

abbrev pub link_ends : LinkAt → List (ℕ × ℕ)
link_ends link = a_end link ∷ b_end link ∷ []

abbrev pub host_end : HostOn → ℕ × ℕ
host_end host = (host.s, host.port)

-- the ports that links and hosts use
abbrev pub used_ports : Wires → List (ℕ × ℕ)
used_ports wires = flat_map link_ends wires.links ++ map host_end wires.hosts

-- the identifiers of switches and hosts, which share one set
abbrev pub uids : Wires → List ℕ
uids wires = map (λ node. node.uid) wires.switches ++ map (λ host. host.uid) wires.hosts

-- `node` is a valid switch
pub record IsSwitch (node : SwitchAt) : Type 0 where
  pub uid : node.uid < 2 ^ 48
  pub had_least : 1 ≤ node.had
  pub had_most : node.had ≤ MOST_NUMBER

-- `link` joins ports of a network of `count` switches
pub record IsLink (count : ℕ) (link : LinkAt) : Type 0 where
  pub a_below : link.a < count
  pub b_below : link.b < count
  pub a_port_least : 1 ≤ link.a_port
  pub a_port_most : link.a_port ≤ LAST_PORT
  pub b_port_least : 1 ≤ link.b_port
  pub b_port_most : link.b_port ≤ LAST_PORT

-- `host` is on a port of a network of `count` switches
pub record IsHost (count : ℕ) (host : HostOn) : Type 0 where
  pub uid : host.uid < 2 ^ 48
  pub switch : host.s < count
  pub port_least : 1 ≤ host.port
  pub port_most : host.port ≤ LAST_PORT

-- the invariant of every wiring
pub record IsWired (wires : Wires) : Type 0 where
  pub count : length wires.switches ≤ MOST_SWITCHES
  pub host_count : length wires.hosts ≤ 1000
  pub switches : All IsSwitch wires.switches
  pub links : All (IsLink (length wires.switches)) wires.links
  pub hosts : All (IsHost (length wires.switches)) wires.hosts
  pub uids_apart : AllPairs (λ one other. one ≢ other) (uids wires)
  pub ports_apart : AllPairs (λ one other. one ≢ other) (used_ports wires)

-- `link` joins `port` of the switch `node` with `far_port` of the switch `other`, which can be the same switch
abbrev pub Joins : LinkAt → (node port other far_port : ℕ) → Type 0
Joins link node port other far_port =
    (link_ends link ≡ (node, port) ∷ (other, far_port) ∷ [])
    ⊎ (link_ends link ≡ (other, far_port) ∷ (node, port) ∷ [])

-- what is at the far side of `port` of the switch `node`, by the links and hosts
abbrev pub IsAtFarSide : Wires → ℕ → ℕ → Far → Type 0
IsAtFarSide wires node port (Switch other far_port) =
    Any (λ link. Joins link node port other far_port) wires.links
IsAtFarSide wires node port (HostAt place) =
    (found : HostOn) × (slice_get wires.hosts place ≡ Some found) × (host_end found ≡ (node, port))

-- whether the first end (`has_end`) or the second end (`has_other_end`) of `link` is at `port` of `node`
abbrev pub has_end : LinkAt → (node port : ℕ) → Bool
has_end link node port = ((link.a == node) && (link.a_port == port))

abbrev pub has_other_end : LinkAt → (node port : ℕ) → Bool
has_other_end link node port = ((link.b == node) && (link.b_port == port))

-- the other end of the first link that has an end at `port` of `node`
abbrev pub far_of : List LinkAt → ℕ → ℕ → Option (ℕ × ℕ)
far_of [] node port = None
far_of (link ∷ links) node port =
    if has_end link node port
    then Some (link.b, link.b_port)
    else (if has_other_end link node port then Some (link.a, link.a_port) else far_of links node port)

-- the index of the first host at `port` of `node`
abbrev pub host_of : List HostOn → (node port : ℕ) → Option ℕ
host_of hosts node port = position (λ host. (host.s == node) && (host.port == port)) hosts

-- what a port leads to: the other end of a link if there is one, otherwise a host if there is one
abbrev pub far_or_host : Option (ℕ × ℕ) → Option ℕ → Option Far
far_or_host None None = None
far_or_host None (Some host) = Some (HostAt host)
far_or_host (Some far) host = Some (Switch far.0 far.1)

-- what is at the far side of `port` of `node`, if the port is used
abbrev pub far_at : Wires → (node port : ℕ) → Option Far
far_at wires node port = far_or_host (far_of wires.links node port) (host_of wires.hosts node port)

-- the identifier of the switch `node`, 0 if there is no such switch
abbrev pub uid_of : List SwitchAt → ℕ → ℕ
uid_of switches node = unwrap_or (option_map (λ found. found.uid) (slice_get switches node)) 0

-- the number that the switch `node` had last, 1 if there is no such switch
abbrev pub had_of : Wires → ℕ → ℕ
had_of wires node = unwrap_or (option_map (λ found. found.had) (slice_get wires.switches node)) 1

-- the network of switches, each in its first boot; a host's port leads nowhere
abbrev pub network : Wires → Network
network wires =
    record {
      count = length wires.switches;
      life = λ node. record { uid = uid_of wires.switches node; boot = 1 };
      far = far_of wires.links;
    }

-- the port `own_port` of `node` and the end `far` are those of a network of `count` switches
pub record IsFar (count node own_port : ℕ) (far : ℕ × ℕ) : Type 0 where
  pub node_below : node < count
  pub own_port_least : 1 ≤ own_port
  pub own_port_most : own_port ≤ LAST_PORT
  pub below : far.0 < count
  pub port_least : 1 ≤ far.1
  pub port_most : far.1 ≤ LAST_PORT

-- the port `own_port` of `node` and what is at its far side belong to the wiring
abbrev pub IsWithin : Wires → ℕ → ℕ → Far → Type 0
IsWithin wires node own_port (Switch other far_port) =
    IsFar (length wires.switches) node own_port (other, far_port)
IsWithin wires node own_port (HostAt host) =
    (node < length wires.switches) × (1 ≤ own_port) × (own_port ≤ LAST_PORT) × (host < length wires.hosts)
