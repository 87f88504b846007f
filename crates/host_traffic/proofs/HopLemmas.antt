-- What a hop makes of the packets under way.

use Rattle.std.specs.Prelude.{◌≡◌, ◌==◌, ◌/◌, ◌%◌, ℕ, List, [], ◌∷◌, Option, Some, None, is_some, Bool, true, false, refl, cond}
use Rattle.std.proofs.Common.{sym, ◌∙◌, ap, true≢false}
use Rattle.table_build.specs.Tables.{TableOf, exits_of}
use Rattle.host_traffic.specs.declared.hop.Hop.{Hop}
use Rattle.host_traffic.specs.declared.hop.Hop.TheVariants as hop
use Rattle.host_traffic.specs.declared.hop.DropCause.TheVariants as cause
use Rattle.host_traffic.specs.Packets.{PacketOf, after_hop, delivered_to, goes_by, hop_by, hop_in, hopped_in, moved, packet_of, row_entry, without}
use Rattle.host_traffic.specs.Filed.{place_after}

-- a packet goes on only by an exit whose link is up
abbrev IsOnward : (ℕ → Option (ℕ × ℕ)) → Hop → Type 0
IsOnward next (hop.Went exit) = is_some (next exit) ≡ true
IsOnward next (hop.Delivered exit host) = Unit {0}
IsOnward next (hop.Dropped why) = Unit {0}

goes_onward : (exits : List ℕ) (next : ℕ → Option (ℕ × ℕ)) → IsOnward next (goes_by exits next)
goes_onward [] next = tt
goes_onward (exit ∷ exits) next = by (is_some (next exit)) refl where
  by : (b : Bool) → is_some (next exit) ≡ b → IsOnward next (cond b (hop.Went exit) (hop.Dropped cause.LinkDown))
  by true up = up
  by false down = tt

delivered_onward : (port : ℕ) (host : Option (ℕ × ℕ)) (next : ℕ → Option (ℕ × ℕ)) (packet : PacketOf) → IsOnward next (delivered_to port host packet)
delivered_onward port None next packet = tt
delivered_onward port (Some host) next packet = by (host.1 == packet.uid) where
  by : (b : Bool) → IsOnward next (cond b (hop.Delivered port host.0) (hop.Dropped cause.WrongHost))
  by true = tt
  by false = tt

hop_onward : (table : Option TableOf) (host next : ℕ → Option (ℕ × ℕ)) (packet : PacketOf) → IsOnward next (hop_by table host next packet)
hop_onward None host next packet = tt
hop_onward (Some table) host next packet = by (packet.address / 16 == table.number) where
  port : ℕ
  port = packet.address % 16

  by : (b : Bool) → IsOnward next (cond b (delivered_to port (host port) packet) (goes_by (exits_of table (row_entry packet) (packet.address / 16)) next))
  by true = delivered_onward port (host port) next packet
  by false = goes_onward (exits_of table (row_entry packet) (packet.address / 16)) next

hop_moves : (step : Hop) (next : ℕ → Option (ℕ × ℕ)) (number : ℕ) (packets : List PacketOf) (far : ℕ × ℕ) → place_after step next ≡ Some far → after_hop step next number packets ≡ moved number (Some far) packets
hop_moves (hop.Went exit) next number packets far there = ap (λ (place : Option (ℕ × ℕ)). moved number place packets) there
hop_moves (hop.Delivered exit host) next number packets far there = absurd (true≢false (sym (ap is_some there)))
hop_moves (hop.Dropped why) next number packets far there = absurd (true≢false (sym (ap is_some there)))

hop_ends : (step : Hop) (next : ℕ → Option (ℕ × ℕ)) (number : ℕ) (packets : List PacketOf) → IsOnward next step → place_after step next ≡ None → after_hop step next number packets ≡ without number packets
hop_ends (hop.Went exit) next number packets up gone = absurd (true≢false (sym up ∙ ap is_some gone))
hop_ends (hop.Delivered exit host) next number packets up gone = refl
hop_ends (hop.Dropped why) next number packets up gone = refl

-- where it has a place after its hop it is there
pub hopped_on : (table : ℕ → Option TableOf) (host next : ℕ → ℕ → Option (ℕ × ℕ)) (number : ℕ) (packets : List PacketOf) (packet : PacketOf) (step : Hop) (at : ℕ) (far : ℕ × ℕ) → packet_of number packets ≡ Some packet → step ≡ hop_in table host next packet → at ≡ packet.at → Some far ≡ place_after step (next at)
    → hopped_in table host next number (packet_of number packets) packets ≡ moved number (Some far) packets
hopped_on table host next number packets packet step at far found is here there =
    let place = ap (λ (h : Hop). place_after h (next packet.at)) (sym is) ∙ ap (λ (s : ℕ). place_after step (next s)) (sym here) ∙ sym there in
    ap (λ (o : Option PacketOf). hopped_in table host next number o packets) found ∙ hop_moves (hop_in table host next packet) (next packet.at) number packets far place

-- and else it is under way no longer
pub hopped_off : (table : ℕ → Option TableOf) (host next : ℕ → ℕ → Option (ℕ × ℕ)) (number : ℕ) (packets : List PacketOf) (packet : PacketOf) (step : Hop) (at : ℕ) → packet_of number packets ≡ Some packet → step ≡ hop_in table host next packet → at ≡ packet.at → None ≡ place_after step (next at)
    → hopped_in table host next number (packet_of number packets) packets ≡ without number packets
hopped_off table host next number packets packet step at found is here gone =
    let place = ap (λ (h : Hop). place_after h (next packet.at)) (sym is) ∙ ap (λ (s : ℕ). place_after step (next s)) (sym here) ∙ sym gone in
    ap (λ (o : Option PacketOf). hopped_in table host next number o packets) found ∙ hop_ends (hop_in table host next packet) (next packet.at) number packets (hop_onward (table packet.at) (host packet.at) (next packet.at) packet) place
