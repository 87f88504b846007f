-- The storage of a `Traffic`, and where a packet is after a hop. No public clause uses this module.

use Rattle.std.specs.Prelude.{◌≡◌, ◌<◌, ◌≤◌, ℕ, List, map, length, Option, Some, All, AllPairs, MatchOption, None}
use Rattle.std.specs.Prelude.{slice_get, true, unwrap_or, take, drop, insert}
use Rattle.slab.specs.Slab.{Slab, get, slab_len}
use Rattle.host_traffic.specs.declared.traffic.Filed.{Filed}
use Rattle.host_traffic.specs.Packets.{PacketOf}
use Rattle.host_traffic.specs.declared.hop.Hop.{Hop}
use Rattle.host_traffic.specs.declared.hop.Hop.TheVariants as hop

-- the packet used where there is none
abbrev pub nowhere : PacketOf
nowhere = record { packet = 0; at = 0; entry = 0; is_new = true; address = 0; uid = 0 }

-- the packet that is stored under a key
abbrev pub stored_at : Slab PacketOf → Filed → PacketOf
stored_at packets filed = unwrap_or (get packets filed.key) nowhere

-- the packets that are stored, in the order of their keys
abbrev pub shown : Slab PacketOf → List Filed → List PacketOf
shown packets order = map (stored_at packets) order

-- the packet stored under the key has the number filed
abbrev pub HasPacket : Slab PacketOf → Filed → Type 0
HasPacket packets filed =
    (packet : PacketOf) × (get packets filed.key ≡ Some packet) × (packet.packet ≡ filed.packet)

-- the packets that are filed are those that are stored; they are in ascending order of number, and there is room for
-- `most` of them
pub record IsFiled (most : ℕ) (packets : Slab PacketOf) (order : List Filed) (capacity : ℕ) : Type 0 where
  pub each : All (HasPacket packets) order
  pub rising : AllPairs (λ one other. one.packet < other.packet) order
  pub count : slab_len packets ≡ length order
  pub few : length order ≤ most
  pub stored_room : most ≤ packets.capacity
  pub order_room : most ≤ capacity

-- `place` is the index at which packet `number` is filed, if it is
abbrev pub IsFoundAt : ℕ → List Filed → Option ℕ → Type 0
IsFoundAt number order place =
    MatchOption place (All (λ filed. filed.packet ≡ number → ⊥) order)
    (λ at. (filed : Filed) × (slice_get order at ≡ Some filed) × (filed.packet ≡ number))

-- the packets before index `place` have numbers below `number`, and those from it on do not
pub record IsPlaceFor (number : ℕ) (order : List Filed) (place : ℕ) : Type 0 where
  pub within : place ≤ length order
  pub before : All (λ filed. filed.packet < number) (take place order)
  pub after : All (λ filed. number ≤ filed.packet) (drop place order)

-- the packet was filed between those with lower and those with higher numbers
pub record IsFiledIn (filed : Filed) (old new : List Filed) : Type 0 where
  pub place : ℕ
  pub is_place : IsPlaceFor filed.packet old place
  pub order : new ≡ insert old place filed

-- the switch and port where a packet is after a hop, if it is still in flight
abbrev pub place_after : Hop → (ℕ → Option (ℕ × ℕ)) → Option (ℕ × ℕ)
place_after (hop.Went exit) next = next exit
place_after (hop.Delivered exit host) next = None
place_after (hop.Dropped why) next = None
