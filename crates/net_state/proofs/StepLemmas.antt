-- What the calls of a fabric ask of its parts, from what is so of a fabric.

use Rattle.std.specs.Prelude.{◌≡◌, ◌≢◌, ◌+◌, ◌==◌, ◌<◌, ◌≤◌, ◌^◌, ℕ, cond, not, List, [], ◌∷◌, All, length, slice_index_or, Some, is_some, Bool, true, false, refl}
use Rattle.std.proofs.Common.{sym, ◌∙◌, ap, subst, arith}
use Rattle.std.proofs.lemmas.Bool.{leb-true, not-true, eqb-true}
use Rattle.std.proofs.lemmas.List.Elements.{All-head, All-tail}
use Rattle.an_base.specs.declared.event.Event.TheVariants.{Tick, Clock, Take, Load, Fail, Repair, Lose, Again, Swap, Noise, Send, Restart}
use Rattle.net_graph.specs.Wires.{far_at}
use Rattle.net_script.specs.Commands.{IsUsedPort, IsWireChange}
use Rattle.wire_set.specs.declared.side.Side.{Side}
use Rattle.wire_set.specs.WireState.{HasLink, IsUsed, hand_of, held_from, place, side_at, side_of, take_from, taken_frame, wire_at}
use Rattle.wire_set.proofs.WireLemmas.{port_is}
use Rattle.frame_codec.proofs.Lengths.{spelling_length}
use Rattle.switch_core.specs.Bytes.{BytesOut, IsFrameOut}
use Rattle.host_traffic.specs.Packets.{PacketOf, packet_of}
use Rattle.net_state.specs.declared.hand.Hand.{Hand}
use Rattle.net_state.specs.Fabric.{FabricOf, station, count, held_bytes, is_empty, is_full_at, is_some_clock_due}
use Rattle.net_state.specs.Fits.{Fits, wires_at_first}
use Rattle.net_state.specs.Lawful.{is_lawful}
use Rattle.net_state.specs.Effects.{after_take}
use Rattle.net_state.proofs.LawfulLemmas.{lawful_is, command_is, command_fits}
use Rattle.net_state.proofs.ReadyLemmas.{clock_ready, empty_at, load_ready, restart_ready, take_ready, tick_is, tick_none_due}
use Rattle.net_state.proofs.QueueLemmas.{port_is_no_hand, copied_elsewhere}
use Rattle.net_state.proofs.WiresLemmas.{spelling_some}
use Rattle.net_state.proofs.HoldLemmas.{empty_hand, frame_here, held_is}
use Rattle.net_state.proofs.FitsLemmas.{change_link, command_more, event_fits, station_below, switch_below}

-- the place of a switch has a station
pub below_is : (f g : FabricOf) (s : ℕ) → f ≡ g → Fits f → s < count g → s < length f.stations
below_is f g s same fits below = station_below f s fits (subst (λ (h : FabricOf). s < count h) (sym same) below)

-- a fabric counts no more than its script lets it
pub record IsFew (f : FabricOf) : Type 0 where
  pub events : f.events < 2 ^ 31
  pub since : f.since < 2 ^ 31
  pub done : f.done < 2 ^ 31
  pub sent : f.sent < 2 ^ 31

pub few_are : (f : FabricOf) → Fits f → IsFew f
few_are f fits =
    let limits = fits.script.limits in
    let events_most = limits.events_most in
    let commands = fits.script.command_count in
    let room = fits.room in
    let since = fits.since in
    let done = fits.time.commands in
    let sent = fits.packets.sent in
    record { events = omega (arith, room, events_most); since = omega (arith, room, since, events_most); done = omega (arith, done, commands); sent = omega (arith, sent, done, commands) }

pub events_most : (f : FabricOf) → Fits f → f.events ≤ 16000000
events_most f fits = let limit = fits.script.limits.events_most in let room = fits.room in omega (arith, room, limit)

-- a tick
pub record IsTickNext (f : FabricOf) : Type 0 where
  pub none_due : is_some_clock_due f ≡ false
  pub room : f.tick < 1000000

pub tick_next : (f : FabricOf) → Fits f → is_lawful f Tick ≡ true → IsTickNext f
tick_next f fits lawful =
    let due = (lawful_is f Tick lawful).ready in
    let below = (tick_is f due).1 in
    let most = fits.script.limits.ticks in
    record { none_due = tick_none_due f due; room = omega (arith, below, most) }

-- a switch with an empty hand
pub record IsFree (f : FabricOf) (s : ℕ) : Type 0 where
  pub switch : s < count f
  pub within : s < length f.stations
  pub empty : is_empty (station f s).hand ≡ true

free_is : (f : FabricOf) (s : ℕ) → Fits f → s < count f → is_full_at f s ≡ false → IsFree f s
free_is f s fits at empty = record { switch = at; within = station_below f s fits at; empty = ap is_empty (empty_at f s empty) }

-- a clock
pub clock_free : (f : FabricOf) (s : ℕ) → Fits f → is_lawful f (Clock s) ≡ true → IsFree f s
clock_free f s fits lawful = let ready = clock_ready f s (lawful_is f (Clock s) lawful).ready in free_is f s fits (switch_below f s ready.0) ready.1

pub clock_due : (f : FabricOf) (s : ℕ) → is_lawful f (Clock s) ≡ true → (station f s).clock ≤ f.tick
clock_due f s lawful = leb-true (station f s).clock f.tick (clock_ready f s (lawful_is f (Clock s) lawful).ready).2

-- a load
pub load_free : (f : FabricOf) (s : ℕ) → Fits f → is_lawful f (Load s) ≡ true → IsFree f s
load_free f s fits lawful = let ready = load_ready f s (lawful_is f (Load s) lawful).ready in free_is f s fits (switch_below f s ready.0) ready.1

-- a restart
pub restart_free : (f : FabricOf) (s : ℕ) → Fits f → is_lawful f (Restart s) ≡ true → IsFree f s
restart_free f s fits lawful =
    let ready = restart_ready f s (lawful_is f (Restart s) lawful).ready in
    free_is f s fits (command_fits f (Restart s) fits.script (command_is f (Restart s) ready.0)) ready.1

-- a frame is taken
pub take_free : (f : FabricOf) (s p : ℕ) → Fits f → is_lawful f (Take s p) ≡ true → IsFree f s
take_free f s p fits lawful = let ready = take_ready f s p (lawful_is f (Take s p) lawful).ready in free_is f s fits (switch_below f s ready.switch) ready.empty

pub record IsTaken (f : FabricOf) (s p : ℕ) : Type 0 where
  pub link : HasLink f.wires s p
  pub some : 1 ≤ length (wire_at f.wires (place s p))
  pub none_held : hand_of f.wires s ≡ []
  pub apart : place s 0 ≢ place s p
  pub queue : place s 0 < length f.wires.frames.queues

pub taken_is : (f : FabricOf) (s p : ℕ) → Fits f → is_lawful f (Take s p) ≡ true → IsTaken f s p
taken_is f s p fits lawful =
    let ready = take_ready f s p (lawful_is f (Take s p) lawful).ready in
    let at = switch_below f s ready.switch in
    let here = frame_here f s p ready.frame in
    let most = ready.most in
    let some = here.1 in
    let size = fits.wires_sound.frames.queues in
    record {
      link = (omega (arith, most), here.0);
      some = omega (arith, some);
      none_held = empty_hand (station f s).hand (hand_of f.wires s) (empty_at f s ready.empty) (fits.hands s at).holds;
      apart = port_is_no_hand s s p ready.least ready.most;
      queue = omega (arith, at, size);
    }

-- its bytes are in hand then
pub taken_held : (f : FabricOf) (s p : ℕ) → Fits f → is_lawful f (Take s p) ≡ true → taken_frame (place s p) f.wires ≡ held_bytes (after_take s p f) s
taken_held f s p fits lawful =
    let is = taken_is f s p fits lawful in
    let held = held_is (place s p) (place s 0) f.wires is.apart is.queue is.none_held in
    let copied : wire_at (take_from (place s p) (place s 0) f.wires) (place s 0) ≡ wire_at (held_from (place s p) (place s 0) f.wires) (place s 0) =
    copied_elsewhere (place s p) (place s 0) (taken_frame (place s p) f.wires) (held_from (place s p) (place s 0) f.wires) is.apart in
    sym (ap (λ (xs : List (List ℕ)). slice_index_or xs 0 []) (copied ∙ held))

-- what is in hand is given up
pub full_is_not_empty : (h : Hand) → not (is_empty h) ≡ true → is_empty h ≡ false
full_is_not_empty h full = not-true (is_empty h) full

-- a frame that goes out has bytes, and not too many
pub frame_some : (out : BytesOut) → IsFrameOut out → 1 ≤ length out.bytes
frame_some out is = subst (λ (bytes : List ℕ). 1 ≤ length bytes) (sym is.spelled) (spelling_some is.frame)

pub frame_most : (out : BytesOut) → IsFrameOut out → length out.bytes ≤ 22591
frame_most out is = subst (λ (bytes : List ℕ). length bytes ≤ 22591) (sym is.spelled) (spelling_length is.frame is.is_frame)

-- a command's port has a link or a host, or a link of two switches

pub used_is : (f : FabricOf) (s p : ℕ) → Fits f → IsUsedPort f.script.wires s p → IsUsed f.wires s p
used_is f s p fits is =
    let most = is.port.port_most in
    let first : side_at (wires_at_first f.script) (place s p) ≡ side_of (far_at f.script.wires s p) = port_is f.script.wires f.script.limits.blocks s p is.port.switch (omega (arith, most)) in
    (omega (arith, most), ap is_some (fits.fars (place s p) ∙ ap (λ (x : Side). x.far) first) ∙ is.used)

pub linked_is : (f : FabricOf) (s p n most : ℕ) → Fits f → IsWireChange f.script.wires s p n most → HasLink f.wires s p
linked_is f s p n most fits is = let port = is.port.port_most in (omega (arith, port), change_link f s p n most fits is)

-- what a lawful command asks of the wires
pub fail_used : (f : FabricOf) (s p : ℕ) → Fits f → is_lawful f (Fail s p) ≡ true → IsUsed f.wires s p
fail_used f s p fits lawful = used_is f s p fits (event_fits f (Fail s p) fits lawful refl)

pub repair_used : (f : FabricOf) (s p : ℕ) → Fits f → is_lawful f (Repair s p) ≡ true → IsUsed f.wires s p
repair_used f s p fits lawful = used_is f s p fits (event_fits f (Repair s p) fits lawful refl)

pub lose_linked : (f : FabricOf) (s p n : ℕ) → Fits f → is_lawful f (Lose s p n) ≡ true → HasLink f.wires s p
lose_linked f s p n fits lawful = linked_is f s p n 1000000 fits (event_fits f (Lose s p n) fits lawful refl)

pub again_linked : (f : FabricOf) (s p n : ℕ) → Fits f → is_lawful f (Again s p n) ≡ true → HasLink f.wires s p
again_linked f s p n fits lawful = linked_is f s p n 1000000 fits (event_fits f (Again s p n) fits lawful refl)

pub swap_linked : (f : FabricOf) (s p n : ℕ) → Fits f → is_lawful f (Swap s p n) ≡ true → HasLink f.wires s p
swap_linked f s p n fits lawful = linked_is f s p n 1000000 fits (event_fits f (Swap s p n) fits lawful refl)

pub noise_change : (f : FabricOf) (s p n : ℕ) → Fits f → is_lawful f (Noise s p n) ≡ true → IsWireChange f.script.wires s p n 64
noise_change f s p n fits lawful = event_fits f (Noise s p n) fits lawful refl

pub noise_linked : (f : FabricOf) (s p n : ℕ) → Fits f → is_lawful f (Noise s p n) ≡ true → HasLink f.wires s p
noise_linked f s p n fits lawful = linked_is f s p n 64 fits (noise_change f s p n fits lawful)

-- no packet has a number above all of them
pub none_above : (number : ℕ) (packets : List PacketOf) → All (λ (packet : PacketOf). packet.packet < number) packets → is_some (packet_of number packets) ≡ false
none_above number [] all = refl
none_above number (x ∷ xs) all = by (x.packet == number) refl (none_above number xs (All-tail (λ (packet : PacketOf). packet.packet < number) x xs all))
  where
    by : (b : Bool) → (x.packet == number) ≡ b → is_some (packet_of number xs) ≡ false → is_some (packet_of number (x ∷ xs)) ≡ false
    by true is rest =
        let same = eqb-true x.packet number is in
        let lower = All-head (λ (packet : PacketOf). packet.packet < number) x xs all in
        absurd (omega (arith, same, lower))
    by false is rest = ap (λ b. is_some (cond b (Some x) (packet_of number xs))) is ∙ rest

packets_most : (f : FabricOf) → Fits f → All (λ (packet : PacketOf). packet.packet ≤ f.sent) f.packets
packets_most f fits k d below = (fits.packets.each k d below).most

pub all_lower : (f : FabricOf) → Fits f → All (λ (packet : PacketOf). packet.packet < f.sent + 1) f.packets
all_lower f fits k d below = let most = packets_most f fits k d below in omega (arith, most)

-- there is room for a packet that is sent
pub send_room : (f : FabricOf) (from to : ℕ) → Fits f → is_lawful f (Send from to) ≡ true → length f.packets < length f.script.commands
send_room f from to fits lawful =
    let is = command_is f (Send from to) (lawful_is f (Send from to) lawful).ready in
    let more = command_more f (Send from to) is in
    let few = fits.few in
    let sent = fits.packets.sent in
    omega (arith, more, few, sent)
