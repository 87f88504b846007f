-- What hosts believe about where others are: a host remembers what came to it; for each packet that it sends, the
-- output says where the host would send it.

use Rattle.std.specs.Prelude.{◌≡◌, ◌+◌, ◌-◌, ◌==◌, ℕ, Bool, true, false, List, [], ◌∷◌, ◌++◌, length, reverse, find, count_by, codes, Option, Some, None, if◌then◌else◌, slice_get, slice_index_or}
use Rattle.std.specs.Fmt.{decimal}
use Rattle.std.specs.List.{flat_map}
use Rattle.std.specs.Option.{option_map, option_map_or, option_and_then}
use Rattle.an_base.specs.declared.event.Event.{Event}
use Rattle.an_base.specs.declared.event.Event.TheVariants.{Send, Move}
use Rattle.net_graph.specs.declared.wiring.HostOn.{HostOn}
use Rattle.common_lines.specs.Lines.{line_text}
use Rattle.net_script.specs.Scripts.{ScriptOf}
use Rattle.journal.specs.Texts.{IsJournal}
use Rattle.host_traffic.specs.declared.hop.Hop.{Hop}
use Rattle.host_traffic.specs.declared.hop.Hop.TheVariants as hop
use Rattle.host_traffic.specs.Packets.{packet_of}
use Rattle.host_names.specs.declared.choice.Choice.{Choice}
use Rattle.host_names.specs.declared.choice.Choice.TheVariants.{Known, Broadcast}
use Rattle.host_names.specs.Caches.{ArrivalOf, choice_of, kept_of}
use Rattle.net_state.specs.Fabric.{FabricOf, no_host, table_at}
use Rattle.net_state.specs.Effects.{address_of, hop_of}
use Rattle.net_world.specs.World.{world_after}
use Rattle.report.specs.Events.{HasLegalEnd, host_text}
use Rattle.report.specs.Moments.{Moment, moments}

-- the host of a script at an index
abbrev pub host_in : ScriptOf → ℕ → HostOn
host_in script host = slice_index_or script.wires.hosts host no_host

-- the state of the network after a history
abbrev pub fabric_after : ScriptOf → List Event → FabricOf
fabric_after script history = (world_after script history).fabric

-- The hosts that send, in turn. Packets are numbered as they are sent, from 1, so the sender of a packet is found
-- by its number.
abbrev pub sender_by : Event → List ℕ
sender_by (Send from to) = from ∷ []
sender_by event = []

unfoldable pub senders : List Event → List ℕ
senders history = flat_map sender_by history

-- The sender of a packet; `None` if no packet of this number was sent.
abbrev pub sender_of : ScriptOf → List Event → ℕ → Option HostOn
sender_of script history packet = option_map (host_in script) (slice_get (senders history) (packet - 1))

-- the first `Moment` at which a packet moves
abbrev pub is_move_of : ℕ → Event → Bool
is_move_of packet (Move other) = other == packet
is_move_of packet event = false

abbrev pub is_moving : ℕ → Moment → Bool
is_moving packet moment = is_move_of packet moment.event

unfoldable pub first_move : List Event → ℕ → Option Moment
first_move history packet = find (is_moving packet) (moments history)

-- The address of a host: the number of the table in use at its switch, and its port; 0 if no table is in use.
abbrev pub address_in : FabricOf → HostOn → ℕ
address_in fabric host =
    option_map_or (λ table. address_of table host.port) (table_at fabric host.s) 0

-- the address from which a packet that first moves at this `Moment` comes: that of its sender
abbrev pub address_at : ScriptOf → ℕ → Moment → ℕ
address_at script packet moment =
    option_map_or (address_in (fabric_after script moment.before))
    (sender_of script moment.before packet) 0

-- the address from which a packet comes, given its first move; 0 before it
abbrev pub source_of : ScriptOf → List Event → ℕ → ℕ
source_of script history packet = option_map_or (address_at script packet) (first_move history packet) 0

-- the host to which a hop delivers, if to one
abbrev pub delivered_by : Hop → Option ℕ
delivered_by (hop.Went exit) = None
delivered_by (hop.Delivered exit host) = Some host
delivered_by (hop.Dropped why) = None

-- the host to which the next hop of a packet under way delivers it, if to one
abbrev pub delivery_of : FabricOf → ℕ → Option ℕ
delivery_of fabric packet =
    option_and_then (λ found. delivered_by (hop_of fabric found)) (packet_of packet fabric.packets)

-- the host delivered to is `host`
abbrev pub is_host : ℕ → Option ℕ → Bool
is_host host None = false
is_host host (Some other) = other == host

-- a packet that arrives: the identifier of its sender, the address from which it comes, and the tick
abbrev pub arrival_of : ScriptOf → List Event → ℕ → ArrivalOf
arrival_of script before packet = record {
  uid = option_map_or (λ host. host.uid) (sender_of script before packet) 0;
  address = source_of script (before ++ Move packet ∷ []) packet;
  tick = (fabric_after script before).tick;
}

-- what arrives at a host by an event, after the events `before`
abbrev pub arrivals_by : ScriptOf → ℕ → List Event → Event → List ArrivalOf
arrivals_by script host before (Move packet) =
    if is_host host (delivery_of (fabric_after script before) packet)
    then arrival_of script before packet ∷ [] else []
arrivals_by script host before event = []

abbrev pub arrivals_at : ScriptOf → ℕ → Moment → List ArrivalOf
arrivals_at script host moment = arrivals_by script host moment.before moment.event

-- all that arrives at a host in a history, the newest first
unfoldable pub arrivals_of : ScriptOf → List Event → ℕ → List ArrivalOf
arrivals_of script history host = flat_map (arrivals_at script host) (reverse (moments history))

-- What a host that sends believes: the position of the event in the history, from 1, the host, the host to which it
-- sends, and where it would send, given what it remembers.
pub record Belief : Type 0 where
  pub place : ℕ
  pub from : ℕ
  pub to : ℕ
  pub choice : Choice

abbrev pub belief_of : ScriptOf → List Event → (from to : ℕ) → Belief
belief_of script before from to = record {
  place = length before + 1;
  from = from;
  to = to;
  choice = choice_of (kept_of (arrivals_of script before from)) (host_in script to).uid
      (fabric_after script before).tick;
}

-- the beliefs of an event, of a `Moment` and of a history: one for each packet that is sent, in turn
abbrev pub belief_by : ScriptOf → List Event → Event → List Belief
belief_by script before (Send from to) = belief_of script before from to ∷ []
belief_by script before event = []

abbrev pub belief_at : ScriptOf → Moment → List Belief
belief_at script moment = belief_by script moment.before moment.event

unfoldable pub beliefs_of : ScriptOf → List Event → List Belief
beliefs_of script history = flat_map (belief_at script) (moments history)

-- the words of a belief
abbrev pub choice_words : Choice → List (List ℕ)
choice_words (Known address) = codes "known" ∷ decimal address ∷ []
choice_words Broadcast = codes "broadcast" ∷ []

abbrev pub belief_words : ScriptOf → Belief → List (List ℕ)
belief_words script belief =
    decimal belief.place ∷ host_text script belief.from ∷ codes "to" ∷ host_text script belief.to
    ∷ choice_words belief.choice

-- the line of a belief, and the lines of what is sent at a `Moment`
abbrev pub belief_line : ScriptOf → Belief → List ℕ
belief_line script belief = line_text (belief_words script belief)

abbrev pub belief_text : ScriptOf → Moment → List ℕ
belief_text script moment = flat_map (belief_line script) (belief_at script moment)

-- the last line: the number of packets sent, the number to a known address, and the number of broadcasts
abbrev pub is_known : Choice → Bool
is_known (Known address) = true
is_known Broadcast = false

abbrev pub is_broadcast : Choice → Bool
is_broadcast (Known address) = false
is_broadcast Broadcast = true

abbrev pub counts_by : (sent known broadcast : ℕ) → List (List ℕ)
counts_by sent known broadcast =
    codes "end" ∷ codes "names" ∷ decimal sent ∷ codes "known" ∷ decimal known
    ∷ codes "broadcast" ∷ decimal broadcast ∷ []

abbrev pub counts_words : List Belief → List (List ℕ)
counts_words beliefs =
    counts_by (length beliefs) (count_by (λ belief. is_known belief.choice) beliefs)
    (count_by (λ belief. is_broadcast belief.choice) beliefs)

-- the text of what hosts believe in a history
unfoldable pub names_text : ScriptOf → List Event → List ℕ
names_text script history =
    flat_map (belief_line script) (beliefs_of script history)
    ++ line_text (counts_words (beliefs_of script history))

-- `history` is legal, with some end, and `text` is what hosts believe in it
pub record AreNames (script : ScriptOf) (history : List Event) (text : List ℕ) : Type 0 where
  pub legal : HasLegalEnd script history
  pub says : text ≡ names_text script history

-- `bytes` begins with the text of a journal, and `text` is what hosts believe in it
pub record AreNamesIn (script : ScriptOf) (bytes text : List ℕ) : Type 0 where
  pub journal : List Event
  pub is_journal : IsJournal script bytes journal
  pub names : AreNames script journal text
