-- Definitions that only private functions cite: what is kept of packets and hosts next to a network.

use Rattle.std.specs.Prelude.{◌≡◌, ◌+◌, ◌≤◌, ◌<◌, ℕ, List, [], ◌∷◌, ◌++◌, All, length, map, count_by, Option, Some, None, slice_get, slice_index_or, slice_set, unwrap_or}
use Rattle.std.specs.Option.{option_map, option_and_then}
use Rattle.an_base.specs.declared.event.Event.{Event}
use Rattle.net_graph.specs.declared.wiring.HostOn.{HostOn}
use Rattle.net_script.specs.Scripts.{IsScript, ScriptOf}
use Rattle.host_names.specs.declared.choice.Choice.{Choice}
use Rattle.host_names.specs.Caches.{ArrivalOf, choice_of, kept_of, with_arrival}
use Rattle.net_state.specs.Fabric.{FabricOf}
use Rattle.net_world.specs.Histories.{IsLawful}
use Rattle.net_world.specs.Lines.{lines_of}
use Rattle.net_world.specs.World.{world_after}
use Rattle.net_state.specs.declared.line.Line.{Line}
use Rattle.net_state.specs.declared.line.Line.TheVariants as line
use Rattle.report.specs.declared.naming.Traced.{Traced}
use Rattle.report.specs.Beliefs.{address_at, address_in, arrivals_of, beliefs_of, fabric_after, first_move, host_in, is_known}
use Rattle.report.specs.Beliefs.{senders}

-- the host to which a packet is delivered, given the lines that report its hop
abbrev pub delivery_in : List Line → Option ℕ
delivery_in [] = None
delivery_in (line.Moved packet place epoch entry exit host ∷ lines) = host
delivery_in (other ∷ lines) = None

-- no packet
abbrev pub nothing_sent : Traced
nothing_sent = record { host = 0; source = None }

-- what is kept of the packet at an index, from 0; its number is one higher
abbrev pub traced_at : List Traced → ℕ → Traced
traced_at packets place = slice_index_or packets place nothing_sent

-- The address from which the packet at an index comes: `address`, unless it has moved before; then the address of
-- its first move.
abbrev pub source_with : List Traced → (place address : ℕ) → ℕ
source_with packets place address = unwrap_or (traced_at packets place).source address

-- the packets with that address kept, so that a later address changes nothing
abbrev pub with_source : List Traced → (place address : ℕ) → List Traced
with_source packets place address = slice_set packets place (record {
  host = (traced_at packets place).host;
  source = Some (source_with packets place address);
})

-- what a host keeps, and what all hosts keep if something arrives at one
abbrev pub cache_at : List (List ArrivalOf) → ℕ → List ArrivalOf
cache_at caches host = slice_index_or caches host []

abbrev pub with_arrival_at : ArrivalOf → ℕ → List (List ArrivalOf) → List (List ArrivalOf)
with_arrival_at arrival host caches = slice_set caches host (with_arrival arrival (cache_at caches host))

abbrev pub with_delivery : ArrivalOf → Option ℕ → List (List ArrivalOf) → List (List ArrivalOf)
with_delivery arrival None caches = caches
with_delivery arrival (Some host) caches = with_arrival_at arrival host caches

-- where a host sends, given what it keeps
abbrev pub choice_at : ScriptOf → List (List ArrivalOf) → (from to now : ℕ) → Choice
choice_at script caches from to now = choice_of (cache_at caches from) (host_in script to).uid now

-- the sender of the packet at an index, its address by the table in use, and the packet's arrival
abbrev pub sender_in : ScriptOf → List Traced → ℕ → HostOn
sender_in script packets place = host_in script (traced_at packets place).host

abbrev pub own_address : ScriptOf → FabricOf → List Traced → ℕ → ℕ
own_address script fabric packets place = address_in fabric (sender_in script packets place)

abbrev pub arrival_in : ScriptOf → FabricOf → List Traced → ℕ → ArrivalOf
arrival_in script fabric packets place = record {
  uid = (sender_in script packets place).uid;
  address = source_with packets place (own_address script fabric packets place);
  tick = fabric.tick;
}

-- all that came to a host came at `tick` or before
abbrev pub CameUntil : ℕ → List (List ArrivalOf) → Type 0
CameUntil tick caches = (host : ℕ) → All (λ arrival. arrival.tick ≤ tick) (cache_at caches host)

-- the address from which the packet at an index comes, if it has moved
abbrev pub source_at : List Traced → ℕ → Option ℕ
source_at packets place = option_and_then (λ packet. packet.source) (slice_get packets place)

-- the hosts that sent the packets of a history, in ascending order of packet number, and the addresses from which
-- those that have moved come
pub record AreTraced (script : ScriptOf) (history : List Event) (packets : List Traced) : Type 0 where
  pub hosts : map (λ packet. packet.host) packets ≡ senders history
  pub sources : (place : ℕ) → source_at packets place
      ≡ option_map (address_at script (place + 1)) (first_move history (place + 1))
  pub count : length packets ≡ (fabric_after script history).sent

-- each host of the script keeps what its arrivals make it keep
pub record AreRemembered (script : ScriptOf) (history : List Event) (caches : List (List ArrivalOf))
    : Type 0 where
  pub count : length caches ≡ length script.wires.hosts
  pub each : (host : ℕ) → host < length script.wires.hosts
      → cache_at caches host ≡ kept_of (arrivals_of script history host)
  pub ticks : CameUntil (fabric_after script history).tick caches

-- what is kept of a history, with the number of packets sent to a known address
pub record KeepBeliefs (script : ScriptOf) (history : List Event) (own : ScriptOf) (packets : List Traced)
    (caches : List (List ArrivalOf)) (known : ℕ) : Type 0 where
  pub own_is : own ≡ script
  pub traced : AreTraced script history packets
  pub remembered : AreRemembered script history caches
  pub count : length packets ≡ length (beliefs_of script history)
  pub known_are : known ≡ count_by (λ belief. is_known belief.choice) (beliefs_of script history)

-- An event comes: it is lawful, `place` is its position, `fabric` is the state after it, and `lines` report it.
pub record Meets (script : ScriptOf) (before : List Event) (event : Event) (fabric : FabricOf) (place : ℕ)
    (lines : List Line) (own : ScriptOf) (packets : List Traced) (caches : List (List ArrivalOf)) (known : ℕ)
    : Type 0 where
  pub keep : KeepBeliefs script before own packets caches known
  pub can_be : IsScript script
  pub lawful : IsLawful script (before ++ event ∷ [])
  pub fabric_is : fabric ≡ fabric_after script (before ++ event ∷ [])
  pub place_is : place ≡ length before + 1
  pub lines_are : lines ≡ lines_of (world_after script before) event
