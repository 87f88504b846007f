-- A hop, and a packet that is sent, leave the packets under way as they are to be.

use Rattle.std.specs.Prelude.{◌≡◌, ◌+◌, ◌==◌, ◌<◌, ◌≤◌, ℕ, not, List, [], ◌∷◌, ◌++◌, length, cond, slice_index_or, All, AllPairs, IfSome, Option, Some, None, Result, Ok, Err, Bool, true, false, refl, if◌then◌else◌}
use Rattle.std.proofs.Common.{sym, subst, arith, true≢false}
use Rattle.std.proofs.lemmas.List.{append-nil}
use Rattle.std.proofs.lemmas.List.Elements.{All-nil, All-cons, All-get_or, All-append, All-weaker, All-map, All-filter}
use Rattle.std.proofs.lemmas.List.Kept.{AllPairs-filter}
use Rattle.std.proofs.lemmas.List.Quantifiers.{all_pairs_push}
use Rattle.common_values.proofs.PairLemmas.{AllPairs-map}
use Rattle.net_graph.specs.declared.wiring.HostOn.{HostOn}
use Rattle.net_graph.specs.Wires.{IsHost}
use Rattle.net_script.specs.Scripts.{ScriptOf}
use Rattle.host_traffic.specs.declared.hop.DropCause.{DropCause}
use Rattle.wire_set.specs.WireState.{place, side_at, is_link}
use Rattle.host_traffic.specs.declared.hop.Hop.{Hop}
use Rattle.host_traffic.specs.declared.hop.Hop.TheVariants as hop
use Rattle.host_traffic.specs.Packets.{PacketOf, moved_to, moved, after_hop}
use Rattle.net_state.specs.Fabric.{FabricOf}
use Rattle.net_state.specs.Effects.{address_for, admitted, admitted_as, packet_to}
use Rattle.net_state.specs.Fits.{wires_at_first, IsPacketSound}

-- the port of a switch at the far end of a link
pub record IsFarPort (script : ScriptOf) (far : ℕ × ℕ) : Type 0 where
  pub switch : far.0 < length script.wires.switches
  pub least : 1 ≤ far.1
  pub most : far.1 ≤ 12
  pub link : is_link (side_at (wires_at_first script) (place far.0 far.1)).far ≡ true

-- a packet that goes on
abbrev pub goes_to : ℕ → Option (ℕ × ℕ) → PacketOf → PacketOf
goes_to k far x = if x.packet == k then moved_to far x else x

pub to_sound : (script : ScriptOf) (sent : ℕ) (far : Option (ℕ × ℕ)) (x : PacketOf) → IfSome far (IsFarPort script) → IsPacketSound script sent x → IsPacketSound script sent (moved_to far x)
to_sound script sent None x fits h = h
to_sound script sent (Some far) x fits h = record { least = h.least; most = h.most; at = fits.switch; entry_least = fits.least; entry_most = fits.most; linked = λ _. fits.link }

pub goes_sound : (script : ScriptOf) (sent k : ℕ) (far : Option (ℕ × ℕ)) (x : PacketOf) → IfSome far (IsFarPort script) → IsPacketSound script sent x → IsPacketSound script sent (goes_to k far x)
goes_sound script sent k far x fits h = by (x.packet == k) where
  by : (b : Bool) → IsPacketSound script sent (cond b (moved_to far x) x)
  by true = to_sound script sent far x fits h
  by false = h

pub to_number : (far : Option (ℕ × ℕ)) (x : PacketOf) → (moved_to far x).packet ≡ x.packet
to_number None x = refl
to_number (Some far) x = refl

pub goes_number : (k : ℕ) (far : Option (ℕ × ℕ)) (x : PacketOf) → (goes_to k far x).packet ≡ x.packet
goes_number k far x = by (x.packet == k) where
  by : (b : Bool) → (cond b (moved_to far x) x).packet ≡ x.packet
  by true = to_number far x
  by false = refl

abbrev pub Rises : PacketOf → PacketOf → Type 0
Rises a b = a.packet < b.packet

pub moved_rising : (k : ℕ) (far : Option (ℕ × ℕ)) (xs : List PacketOf) → AllPairs Rises xs → AllPairs Rises (moved k far xs)
moved_rising k far xs rising = AllPairs-map Rises (goes_to k far) xs (λ i j d lt below.
    let a = goes_number k far (slice_index_or xs i d) in
    let b = goes_number k far (slice_index_or xs j d) in
    let old : (slice_index_or xs i d).packet < (slice_index_or xs j d).packet = rising i j d lt below in
    omega (arith, a, b, old))

pub moved_each : (script : ScriptOf) (sent k : ℕ) (far : Option (ℕ × ℕ)) (xs : List PacketOf) → IfSome far (IsFarPort script) → All (IsPacketSound script sent) xs → All (IsPacketSound script sent) (moved k far xs)
moved_each script sent k far xs fits each =
    All-map (IsPacketSound script sent) (goes_to k far) xs (All-weaker (IsPacketSound script sent) (λ x. IsPacketSound script sent (goes_to k far x)) (λ x h. goes_sound script sent k far x fits h) xs each)

-- packets after a hop
pub record AreSound (script : ScriptOf) (sent : ℕ) (xs : List PacketOf) : Type 0 where
  pub each : All (IsPacketSound script sent) xs
  pub rising : AllPairs Rises xs

pub hop_sound : (script : ScriptOf) (sent k : ℕ) (next : ℕ → Option (ℕ × ℕ)) (xs : List PacketOf) (made : Hop) → ((p : ℕ) → IfSome (next p) (IsFarPort script)) → AreSound script sent xs → AreSound script sent (after_hop made next k xs)
hop_sound script sent k next xs (hop.Went exit) fits h = record { each = moved_each script sent k (next exit) xs (fits exit) h.each; rising = moved_rising k (next exit) xs h.rising }
hop_sound script sent k next xs (hop.Delivered exit host) fits h = record { each = All-filter (λ x. not (x.packet == k)) (IsPacketSound script sent) xs h.each; rising = AllPairs-filter Rises (λ x. not (x.packet == k)) xs h.rising }
hop_sound script sent k next xs (hop.Dropped why) fits h = record { each = All-filter (λ x. not (x.packet == k)) (IsPacketSound script sent) xs h.each; rising = AllPairs-filter Rises (λ x. not (x.packet == k)) xs h.rising }

-- a packet that a host sends
pub later_sound : (script : ScriptOf) (sent : ℕ) (x : PacketOf) → IsPacketSound script sent x → IsPacketSound script (sent + 1) x
later_sound script sent x h = let most = h.most in record { least = h.least; most = omega (arith, most); at = h.at; entry_least = h.entry_least; entry_most = h.entry_most; linked = h.linked }

pub later_all : (script : ScriptOf) (sent : ℕ) (xs : List PacketOf) → AreSound script sent xs → AreSound script (sent + 1) xs
later_all script sent xs h = record { each = All-weaker (IsPacketSound script sent) (IsPacketSound script (sent + 1)) (later_sound script sent) xs h.each; rising = h.rising }

pub none_more : (script : ScriptOf) (sent : ℕ) (xs : List PacketOf) → AreSound script sent xs → AreSound script (sent + 1) (xs ++ [])
none_more script sent xs h = subst (AreSound script (sent + 1)) (sym (append-nil xs)) (later_all script sent xs h)

pub one_more : (script : ScriptOf) (sent : ℕ) (xs : List PacketOf) (x : PacketOf) → x.packet ≡ sent + 1 → IsPacketSound script (sent + 1) x → AreSound script sent xs → AreSound script (sent + 1) (xs ++ x ∷ [])
one_more script sent xs x number sound h = record {
  each = All-append (IsPacketSound script (sent + 1)) xs (x ∷ []) (later_all script sent xs h).each (All-cons (IsPacketSound script (sent + 1)) x [] sound (All-nil (IsPacketSound script (sent + 1))));
  rising = all_pairs_push Rises xs x h.rising (λ k d below.
      let one = All-get_or (IsPacketSound script sent) xs k d below h.each in
      let most = one.most in
      omega (arith, most, number));
}

pub sent_sound : (script : ScriptOf) (f : FabricOf) (from to : HostOn) → IsHost (length script.wires.switches) from → AreSound script f.sent f.packets → AreSound script (f.sent + 1) (f.packets ++ admitted f from to)
sent_sound script f from to host h = by (address_for f from to) where
  new : (address : ℕ) → IsPacketSound script (f.sent + 1) (packet_to (f.sent + 1) from to address)
  new address = record { least = omega arith; most = omega arith; at = host.switch; entry_least = host.port_least; entry_most = host.port_most; linked = λ (is : true ≡ false). absurd (true≢false is) }

  by : (o : Result ℕ DropCause) → AreSound script (f.sent + 1) (f.packets ++ admitted_as (f.sent + 1) from to o)
  by (Err why) = none_more script f.sent f.packets h
  by (Ok address) = one_more script f.sent f.packets (packet_to (f.sent + 1) from to address) refl (new address) h
