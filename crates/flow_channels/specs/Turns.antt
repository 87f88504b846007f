-- The packet that arrives or leaves next, as the program finds it.
use Rattle.std.specs.Prelude.{◌≡◌, ◌<◌, ◌↔◌, ℕ, [], Some, slice_index_or, slice_set}
use Rattle.std.specs.Int.{bit_at}
use Rattle.dep_check.specs.declared.channel.Channel.{Channel}
use Rattle.dep_check.specs.Tables.{IsSpot, place_of}
use Rattle.fcfc_router.specs.Router.{Grants, NoneCanGo}
use Rattle.fcfc_router.specs.Shown.{RouterOf}
use Rattle.flow_channels.specs.declared.board.Arrival.{Arrival}
use Rattle.flow_channels.specs.declared.board.Board.{Board}
use Rattle.flow_channels.specs.declared.board.Departure.{Departure}
use Rattle.flow_channels.specs.declared.board.Packet.{Packet}
use Rattle.flow_channels.specs.declared.tables.Tables.{Tables}
use Rattle.flow_channels.specs.Board.{flow_of, packet_of, ways}
use Rattle.flow_channels.specs.Flows.{first_of}
use Rattle.flow_channels.specs.Layout.{spot}
use Rattle.flow_channels.specs.Moves.{CanArrive, HasRoom}

-- `packet` is the first packet of `channel`, and is at its target
abbrev pub IsAtTarget : Tables → Board → Channel → Packet → Type 0
IsAtTarget tables board channel packet =
    (entry : ℕ) × (first_of (flow_of board) channel ≡ Some (packet_of packet))
    × ((ways tables).far channel ≡ Some (spot packet.to entry))

-- no first packet of the channels before the index `end` is at its target
abbrev pub NoneArrives : Tables → Board → ℕ → Type 0
NoneArrives tables board end =
    (channel : Channel) → IsSpot channel → place_of channel < end
    → CanArrive (ways tables) (flow_of board) channel → ⊥

-- `arrival` is the first channel whose first packet is at its target
pub record IsFirstArrival (tables : Tables) (board : Board) (arrival : Arrival) : Type 0 where
  pub channel_is : IsSpot arrival.channel
  pub arrives : IsAtTarget tables board arrival.channel arrival.packet
  pub before : NoneArrives tables board (place_of arrival.channel)

-- the router of the switch `at`
abbrev pub router_at : Board → ℕ → RouterOf
router_at board at = slice_index_or board.routers.items at (record { most = 0; waiting = [] })

-- the set `free` has the ports of the switch `at` whose channels have free space
abbrev pub AreFree : Tables → Board → ℕ → ℕ → Type 0
AreFree tables board at free =
    (port : ℕ) → ((bit_at free port ≡ 1) ↔ HasRoom (ways tables) (flow_of board) (spot at port))

-- no packet can leave at the switch `at`
abbrev pub NoneGoesAt : Tables → Board → ℕ → Type 0
NoneGoesAt tables board at =
    (free : ℕ) × AreFree tables board at free × NoneCanGo free (router_at board at).waiting

-- no packet can leave at the switches below `end`
abbrev pub NoneGoes : Tables → Board → ℕ → Type 0
NoneGoes tables board end = (at : ℕ) → at < end → NoneGoesAt tables board at

-- two boards have the same packets in the same places
pub record IsSame (old new : Board) : Type 0 where
  pub packets : new.packets.items ≡ old.packets.items
  pub entries : new.entries.items ≡ old.entries.items
  pub queues : new.queues.items ≡ old.queues.items
  pub routers : new.routers.items ≡ old.routers.items

-- the router of the first switch where a packet can leave has granted a port to the packet of `departure`
pub record HasDeparted (tables : Tables) (old new : Board) (departure : Departure) : Type 0 where
  pub at : departure.at < 127
  pub before : NoneGoes tables old departure.at
  pub free : ℕ
  pub are_free : AreFree tables old departure.at free
  pub router : RouterOf
  pub most : router.most ≡ (router_at old departure.at).most
  pub grant :
      Grants free (router_at old departure.at).waiting router.waiting
      (record { packet = departure.slot; port = departure.exit })
  pub routers : new.routers.items ≡ slice_set old.routers.items departure.at router
  pub packets : new.packets.items ≡ old.packets.items
  pub entries : new.entries.items ≡ old.entries.items
  pub queues : new.queues.items ≡ old.queues.items
