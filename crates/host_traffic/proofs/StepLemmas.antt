-- What each call makes of the packets that are stored.

use Rattle.std.specs.Prelude.{◌≡◌, ◌≢◌, ◌+◌, ◌<◌, ◌≤◌, ℕ, List, length, cond, slice_get, slice_index_or, Option, Some, None, is_some, unwrap_or, All, AllPairs, true, false, refl}
use Rattle.std.specs.List.{remove}
use Rattle.std.proofs.Common.{sym, ◌∙◌, ap, subst, arith, true≢false}
use Rattle.std.proofs.lemmas.List.{length-map}
use Rattle.std.proofs.lemmas.Option.{slice_get-get_or, slice_get_within, get_or_from_slice_get}
use Rattle.std.proofs.lemmas.List.Sums.{sum_by-set}
use Rattle.common_values.proofs.PairLemmas.{AllPairs-map}
use Rattle.slab.specs.Slab.{Slab, get, slab_len, with_value, Updates}
use Rattle.slab.proofs.SlabLemmas.{ContainsKey-within, Updates-with_value}
use Rattle.host_traffic.specs.declared.traffic.Filed.{Filed}
use Rattle.host_traffic.specs.Packets.{PacketOf, packet_of, with_new, without, moved, moved_to}
use Rattle.host_traffic.specs.Filed.{nowhere, stored_at, shown, HasPacket, IsFiled, IsFiledIn, IsFoundAt}
use Rattle.host_traffic.proofs.FiledLemmas.{Rises, number_is, packet_found, packet_lost, keys_apart, keys_same, new_shown, moved_shown, given_up, filed_new, filed_on, filed_less}

-- what is shown stands by rising number
pub shown_rises : (packets : Slab PacketOf) (order : List Filed) → All (HasPacket packets) order → AllPairs Rises order → AllPairs (λ (one other : PacketOf). one.packet < other.packet) (shown packets order)
shown_rises packets order each rising =
    AllPairs-map (λ (one other : PacketOf). one.packet < other.packet) (stored_at packets) order (λ i j d lt low.
    let here = number_is packets (slice_index_or order i d) (each i d (omega (arith, lt, low))) in
    let there = number_is packets (slice_index_or order j d) (each j d low) in
    let up = rising i j d lt low in
    omega (arith, here, there, up))

-- a packet that is under way is found
pub found_is_some : (packets : Slab PacketOf) (order : List Filed) (number : ℕ) (found : Option ℕ) → All (HasPacket packets) order → IsFoundAt number order found → is_some (packet_of number (shown packets order)) ≡ true → is_some found ≡ true
found_is_some packets order number None each none under_way = absurd (true≢false (sym under_way ∙ ap is_some (packet_lost packets order number each none)))
found_is_some packets order number (Some at) each found under_way = refl

-- what stands where it is found is filed by its number
pub found_item : (order : List Filed) (number at : ℕ) (filed : Filed) → IsFoundAt number order (Some at) → filed ≡ slice_index_or order at filed → (slice_get order at ≡ Some filed) × (filed.packet ≡ number)
found_item order number at filed found is =
    let same : filed ≡ found.0 = is ∙ get_or_from_slice_get order at found.0 filed found.1 in
    (found.1 ∙ ap Some (sym same), ap (λ (f : Filed). f.packet) same ∙ found.2)

pub found_within : (order : List Filed) (number at : ℕ) → IsFoundAt number order (Some at) → at < length order
found_within order number at found = slice_get_within order at found.0 found.1

-- its packet is stored
pub found_stored : (packets : Slab PacketOf) (order : List Filed) (number at : ℕ) (filed : Filed) → All (HasPacket packets) order → IsFoundAt number order (Some at) → filed ≡ slice_index_or order at filed → HasPacket packets filed
found_stored packets order number at filed each found is = subst (HasPacket packets) (sym is) (each at filed (found_within order number at found))

pub packet_is : (packets : Slab PacketOf) (order : List Filed) (number at : ℕ) (filed : Filed) (packet : PacketOf) → All (HasPacket packets) order → AllPairs Rises order → IsFoundAt number order (Some at) → filed ≡ slice_index_or order at filed → get packets filed.key ≡ Some packet
    → packet_of number (shown packets order) ≡ Some packet
packet_is packets order number at filed packet each rising found is stored =
    let place = found_item order number at filed found is in
    packet_found packets order number at filed each rising place.0 place.1 ∙ ap (λ (o : Option PacketOf). Some (unwrap_or o nowhere)) stored

-- it goes on
pub goes_on : (most capacity : ℕ) (old : Slab PacketOf) (order : List Filed) (number at : ℕ) (filed : Filed) (packet : PacketOf) (far : ℕ × ℕ) → IsFiled most old order capacity → IsFoundAt number order (Some at) → filed ≡ slice_index_or order at filed → get old filed.key ≡ Some packet
    → (shown (with_value old filed.key (moved_to (Some far) packet)) order ≡ moved number (Some far) (shown old order)) × IsFiled most (with_value old filed.key (moved_to (Some far) packet)) order capacity
goes_on most capacity old order number at filed packet far is found item stored = (
  sym (ap (λ (n : ℕ). moved n (Some far) (shown old order)) (sym place.1) ∙ moved_shown old new order filed (Some far) is.each same apart (subst (λ (p : PacketOf). Updates old new filed.key (Some (moved_to (Some far) p))) (sym here) updates)),
  filed_on most capacity old new order filed (moved_to (Some far) packet) is same apart updates (sym (ap (λ (p : PacketOf). p.packet) here) ∙ number_is old filed has) len refl,
) where
  new : Slab PacketOf
  new = with_value old filed.key (moved_to (Some far) packet)

  place : (slice_get order at ≡ Some filed) × (filed.packet ≡ number)
  place = found_item order number at filed found item

  has : HasPacket old filed
  has = found_stored old order number at filed is.each found item

  here : stored_at old filed ≡ packet
  here = ap (λ (o : Option PacketOf). unwrap_or o nowhere) stored

  present : is_some (get old filed.key) ≡ true
  present = ap is_some stored

  updates : Updates old new filed.key (Some (moved_to (Some far) packet))
  updates = Updates-with_value old filed.key (moved_to (Some far) packet) present

  same : All (λ (one : Filed). one.packet ≡ filed.packet → one.key ≡ filed.key) order
  same = keys_same order at filed is.rising place.0

  apart : All (λ (one : Filed). one.packet ≢ filed.packet → one.key ≢ filed.key) order
  apart = keys_apart old order filed is.each has

  len : slab_len new ≡ slab_len old
  len =
      let one : Option PacketOf → ℕ = λ o. cond (is_some o) 1 0 in
      let set = sum_by-set one old.slots filed.key (Some (moved_to (Some far) packet)) None (ContainsKey-within old filed.key present) in
      let was : one (get old filed.key) ≡ 1 = ap one stored in
      omega (arith, set, was)

-- it is given up
pub goes : (most capacity : ℕ) (old new : Slab PacketOf) (order : List Filed) (number at : ℕ) (filed : Filed) → IsFiled most old order capacity → IsFoundAt number order (Some at) → filed ≡ slice_index_or order at filed
    → Updates old new filed.key None → slab_len new + 1 ≡ slab_len old → new.capacity ≡ old.capacity
    → (shown new (remove order at) ≡ without number (shown old order)) × IsFiled most new (remove order at) capacity
goes most capacity old new order number at filed is found item updates len room =
    let place = found_item order number at filed found item in
    let apart = keys_apart old order filed is.each (found_stored old order number at filed is.each found item) in (
      sym (ap (λ (n : ℕ). without n (shown old order)) (sym place.1) ∙ given_up old new order at filed is.each is.rising place.0 apart updates),
      filed_less most capacity old new order at filed is place.0 apart updates len room,
    )

-- a new one comes
pub comes : (most capacity more : ℕ) (old new : Slab PacketOf) (order files : List Filed) (filed : Filed) (packet : PacketOf) → IsFiled most old order capacity → capacity ≤ more → length (shown old order) < most → is_some (packet_of filed.packet (shown old order)) ≡ false → packet.packet ≡ filed.packet
    → get old filed.key ≡ None → Updates old new filed.key (Some packet) → slab_len new ≡ slab_len old + 1 → new.capacity ≡ old.capacity → IsFiledIn filed order files
    → (shown new files ≡ with_new packet (shown old order)) × IsFiled most new files more
comes most capacity more old new order files filed packet is grown room new_number number vacant updates len kept at = (
  ap (shown new) at.order ∙ new_shown old new order filed packet at.place is.each apart vacant updates number at.is_place,
  subst (λ (fs : List Filed). IsFiled most new fs more) (sym at.order) (filed_new most more old new order filed packet at.place wider (omega (arith, room, length-map order (stored_at old))) vacant updates number apart at.is_place len kept),
) where
  apart : All (λ (one : Filed). one.packet ≢ filed.packet) order
  apart k d low same = true≢false (sym (ap is_some (packet_found old order filed.packet k (slice_index_or order k d) is.each is.rising (slice_get-get_or order k d low) same)) ∙ new_number)

  wider : IsFiled most old order more
  wider =
      let room = is.order_room in
      let order_room : most ≤ more = omega (arith, room, grown) in
      assumption (order_room, is)
