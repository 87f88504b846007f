-- Each event leaves a fabric as fabrics are to be.

use Rattle.std.specs.Prelude.{◌≡◌, ◌≢◌, ◌⊎◌, ◌+◌, ◌-◌, ◌*◌, ◌==◌, ◌<◌, ◌≤◌, ℕ, not, List, cond, length, slice_index_or, slice_set, IfSome, Option, Some, None, Result, Ok, Err, Bool, true, false, refl}
use Rattle.std.proofs.Common.{sym, ◌∙◌, ap, subst, inl, inr, arith}
use Rattle.std.proofs.lemmas.Bool.{cases_eq, ltb-true}
use Rattle.std.proofs.lemmas.Option.{slice_get_within}
use Rattle.std.proofs.lemmas.List.{get_or-set_other, get_or-set_same, length-append, length-map, length-set, length-replicate}
use Rattle.std.proofs.lemmas.List.Elements.{All-get_or}
use Rattle.std.proofs.lemmas.List.Sums.{length-filter, count_by-le-length}
use Rattle.an_base.specs.Ports.{NoteOf}
use Rattle.an_base.specs.declared.event.Event.{Event}
use Rattle.an_base.specs.declared.event.Event.TheVariants.{Tick, Clock, Take, Load, Fail, Repair, Lose, Again, Swap, Noise, Send, Move, Restart}
use Rattle.net_graph.specs.declared.wiring.Far.{Far}
use Rattle.net_graph.specs.declared.wiring.Far.TheVariants.{Switch, HostAt}
use Rattle.net_graph.specs.declared.wiring.HostOn.{HostOn}
use Rattle.net_graph.specs.Wires.{IsHost, far_at}
use Rattle.net_script.specs.Commands.{IsCommandEvent, IsWireChange}
use Rattle.wire_set.specs.declared.side.Side.{Side}
use Rattle.wire_set.specs.WireState.{WiresOf, is_link, far_place, wire_out, place, side_at, side_of, hand_of, HaveSameFarEnds, fail_at, repair_at}
use Rattle.wire_set.specs.WireState.{held_from, taken_frame, take_from, lose_on, again_on, swap_on, more_told}
use Rattle.wire_set.proofs.WireLemmas.{port_is}
use Rattle.wire_set.proofs.FarLemmas.{fars_then, put_fars, take_fars, fail_fars, link_fars, told_fars}
use Rattle.switch_core.specs.Bytes.{BytesOut}
use Rattle.switch_core.specs.declared.switch.TableFor.{TableFor}
use Rattle.host_traffic.specs.declared.hop.DropCause.{DropCause}
use Rattle.host_traffic.specs.declared.hop.Hop.{Hop}
use Rattle.host_traffic.specs.declared.hop.Hop.TheVariants as hop
use Rattle.host_traffic.specs.Packets.{PacketOf, after_hop, moved, packet_of, without}
use Rattle.net_state.specs.declared.hand.Hand.TheVariants as hand
use Rattle.net_state.specs.Fabric.{FabricOf, StationOf, station, with_station, vacant, count, full_hands, is_switch, is_full_at, samples_of}
use Rattle.net_state.specs.Fabric.{host_on, is_up, next_at, no_host, side_of_port, switch_behind}
use Rattle.net_state.specs.Fits.{Fits, HandFitsAt, IsHandPort, HoldsFor, AreWiresSound, wires_at_first}
use Rattle.net_state.specs.Lawful.{is_lawful, is_ready, is_command, is_handle}
use Rattle.net_state.specs.Effects.{counted, after_tick, after_clock, after_take, after_load, after_restart, emptied, shows, showing}
use Rattle.net_state.specs.Effects.{released, put_out, on_wires, noise, noise_out, restarted, address_for, admitted, admitted_as}
use Rattle.net_state.specs.Effects.{after_move, after_send, hop_of, hopped}
use Rattle.net_state.proofs.LawfulLemmas.{lawful_is, next_open, IsCommandOf, ready_command, command_is, command_fits}
use Rattle.net_state.proofs.ReadyLemmas.{empty_at, tick_is, clock_ready, load_ready, restart_ready, take_ready}
use Rattle.net_state.proofs.QueueLemmas.{Keeps, AreFarPorts, far_ports_stay, port_is_no_hand, hands_differ, take_elsewhere, copied_elsewhere}
use Rattle.net_state.proofs.QueueLemmas.{put_elsewhere, put_out_elsewhere, put_out_fars, repair_keeps, wire_is_no_hand}
use Rattle.net_state.proofs.WiresLemmas.{link_is, first_ports, told_sound, put_sound, take_sound, fail_sound, repair_sound, put_out_sound}
use Rattle.net_state.proofs.HoldLemmas.{released_fars, switch_far_is, released_sound, frame_here, held_alone, empty_hand, released_hand}
use Rattle.net_state.proofs.HoldLemmas.{released_elsewhere, fails_hand}
use Rattle.net_state.proofs.HopLemmas.{IsFarPort, AreSound, hop_sound, sent_sound}
use Rattle.net_state.proofs.RoomLemmas.{full_set, room_one}

-- places of switches have stations
pub station_below : (f : FabricOf) (s : ℕ) → Fits f → s < count f → s < length f.stations
station_below f s fits below = let size = fits.size in omega (arith, size, below)

pub switch_below : (f : FabricOf) (s : ℕ) → is_switch f s ≡ true → s < count f
switch_below f s is = ltb-true s (count f) is

-- far ends of links are external ports
pub fabric_ports : (f : FabricOf) → Fits f → AreFarPorts f.wires
fabric_ports f fits = far_ports_stay (wires_at_first f.script) f.wires fits.fars (first_ports f.script fits.script)

-- a lawful event but of what is in hand has room
pub free_of : (f : FabricOf) (e : Event) → is_lawful f e ≡ true → is_handle e ≡ false → f.events + full_hands f + 2 ≤ f.script.limits.events
free_of f e lawful other =
    let roomy : 2 ≤ f.script.limits.events - f.events - full_hands f = (next_open f e (lawful_is f e lawful) other).roomy in
    omega (arith, roomy)

-- a lawful command is one that can be in the wiring
pub event_fits : (f : FabricOf) (e : Event) → Fits f → is_lawful f e ≡ true → is_ready f e ≡ is_command f e → IsCommandEvent f.script.wires e
event_fits f e fits lawful same = command_fits f e fits.script (ready_command f e lawful same)

pub command_more : (f : FabricOf) (e : Event) → IsCommandOf f e → f.done + 1 ≤ length f.script.commands
command_more f e is = let below = slice_get_within f.script.commands f.done is.command is.there in omega (arith, below)

pub change_link : (f : FabricOf) (s p n most : ℕ) → Fits f → IsWireChange f.script.wires s p n most → is_link (side_at f.wires (place s p)).far ≡ true
change_link f s p n most fits is =
    let port_most = is.port.port_most in
    let first : side_at (wires_at_first f.script) (place s p) ≡ side_of (far_at f.script.wires s p) = port_is f.script.wires f.script.limits.blocks s p is.port.switch (omega (arith, port_most)) in
    ap is_link (fits.fars (place s p) ∙ ap (λ (x : Side). x.far) first) ∙ switch_far_is (far_at f.script.wires s p) is.linked

-- A tick
pub tick_fits : (f : FabricOf) → Fits f → is_lawful f Tick ≡ true → Fits (after_tick f)
tick_fits f fits lawful =
    let free = free_of f Tick lawful refl in
    let due = tick_is f (lawful_is f Tick lawful).ready in
    let later = due.1 in
    record {
      script = fits.script;
      size = fits.size;
      hands = λ s below. record { port = (fits.hands s below).port; holds = (fits.hands s below).holds };
      wires_sound = fits.wires_sound;
      fars = fits.fars;
      room = omega (arith, free);
      since = omega arith;
      time = record { ticks = omega (arith, later); commands = fits.time.commands };
      packets = record { each = fits.packets.each; rising = fits.packets.rising; sent = fits.packets.sent };
      few = fits.few;
    }

-- what stands at one place changes, and the wires, which hold for it what it has in hand
abbrev pub Elsewhere : ℕ → WiresOf → WiresOf → Type 0
Elsewhere s w u = (other : ℕ) → other ≢ s → Keeps (place other 0) w u

abbrev pub with_both : ℕ → StationOf → WiresOf → FabricOf → FabricOf
with_both s x w f = with_station s x (record f { wires = w })

pub hands_one : (f : FabricOf) (s : ℕ) (x : StationOf) (w : WiresOf) → Fits f → s < count f → Elsewhere s f.wires w → IsHandPort x.hand → HoldsFor x.hand (hand_of w s)
    → (other : ℕ) → other < count f → HandFitsAt (with_both s x w f) other
hands_one f s x w fits at elsewhere port holds other below = by (cases_eq other s) where
  by : (other ≡ s) ⊎ (other ≡ s → ⊥) → HandFitsAt (with_both s x w f) other
  by (inl same) =
      let here : station (with_both s x w f) other ≡ x = ap (λ (k : ℕ). slice_index_or (slice_set f.stations s x) k vacant) same ∙ get_or-set_same f.stations s x vacant (station_below f s fits at) in
      record {
        port = subst (λ (y : StationOf). IsHandPort y.hand) (sym here) port;
        holds = subst (λ (y : StationOf). HoldsFor y.hand (hand_of w other)) (sym here) (subst (λ (k : ℕ). HoldsFor x.hand (hand_of w k)) (sym same) holds);
      }
  by (inr differs) =
      let here : station (with_both s x w f) other ≡ station f other = get_or-set_other f.stations s other x vacant differs in
      let was = fits.hands other below in
      record {
        port = subst (λ (y : StationOf). IsHandPort y.hand) (sym here) was.port;
        holds = subst (λ (y : StationOf). HoldsFor y.hand (hand_of w other)) (sym here) (subst (HoldsFor (station f other).hand) (sym (elsewhere other differs)) was.holds);
      }

pub one_fits : (f : FabricOf) (s : ℕ) (x : StationOf) (w : WiresOf) → Fits f → s < count f → AreWiresSound f.script w → HaveSameFarEnds f.wires w → Elsewhere s f.wires w
    → IsHandPort x.hand → HoldsFor x.hand (hand_of w s) → f.events + full_hands f + 2 ≤ f.script.limits.events → Fits (counted (with_both s x w f))
one_fits f s x w fits at sound fars elsewhere port holds free =
    let since = fits.since in
    record {
      script = fits.script;
      size = length-set f.stations s x ∙ fits.size;
      hands = λ other below. let now = hands_one f s x w fits at elsewhere port holds other below in record { port = now.port; holds = now.holds };
      wires_sound = sound;
      fars = fars_then (wires_at_first f.script) f.wires w fits.fars fars;
      room = room_one f.script.limits.events f.events s f.stations x (station_below f s fits at) free;
      since = omega (arith, since);
      time = record { ticks = fits.time.ticks; commands = fits.time.commands };
      packets = record { each = fits.packets.each; rising = fits.packets.rising; sent = fits.packets.sent };
      few = fits.few;
    }

-- A switch takes its clock in hand
pub clock_fits : (f : FabricOf) (s : ℕ) → Fits f → is_lawful f (Clock s) ≡ true → Fits (after_clock s f)
clock_fits f s fits lawful =
    let ready = clock_ready f s (lawful_is f (Clock s) lawful).ready in
    let at = switch_below f s ready.0 in
    one_fits f s (record (station f s) { hand = hand.Clock f.tick (samples_of f s); clock = f.tick + 1 }) f.wires fits at fits.wires_sound (λ k. refl) (λ other differs. refl) tt
    (empty_hand (station f s).hand (hand_of f.wires s) (empty_at f s ready.1) (fits.hands s at).holds) (free_of f (Clock s) lawful refl)

-- or a frame
pub take_fits : (f : FabricOf) (s p : ℕ) → Fits f → is_lawful f (Take s p) ≡ true → Fits (after_take s p f)
take_fits f s p fits lawful =
    let ready = take_ready f s p (lawful_is f (Take s p) lawful).ready in
    let at = switch_below f s ready.switch in
    let here = frame_here f s p ready.frame in
    let w = take_from (place s p) (place s 0) f.wires in
    let apart : place s 0 ≢ place s p = port_is_no_hand s s p ready.least ready.most in
    let size = fits.wires_sound.frames.queues in
    let none = empty_hand (station f s).hand (hand_of f.wires s) (empty_at f s ready.empty) (fits.hands s at).holds in
    let held = held_alone (place s p) (place s 0) f.wires apart (omega (arith, at, size)) none in
    let copied : Keeps (place s 0) (held_from (place s p) (place s 0) f.wires) w = copied_elsewhere (place s p) (place s 0) (taken_frame (place s p) f.wires) (held_from (place s p) (place s 0) f.wires) apart in
    one_fits f s (record (station f s) { hand = hand.Frame p }) w fits at
    (take_sound f.script fits.script (place s p) (place s 0) f.wires fits.fars here.0 (omega (arith, at)) (omega arith) here.1 fits.wires_sound)
    (take_fars f.wires (place s p) (place s 0))
    (λ other differs. take_elsewhere (place s p) (place s 0) (place other 0) f.wires (port_is_no_hand other s p ready.least ready.most) (hands_differ other s differs))
    (ready.least, ready.most) (ap (length {A = List ℕ}) copied ∙ held) (free_of f (Take s p) lawful refl)

-- A switch loads a table
pub load_fits : (f : FabricOf) (s : ℕ) (table : TableFor) (note : NoteOf) → Fits f → is_lawful f (Load s) ≡ true → Fits (after_load s table note f)
load_fits f s table note fits lawful =
    let ready = load_ready f s (lawful_is f (Load s) lawful).ready in
    let at = switch_below f s ready.0 in
    let was = fits.hands s at in
    one_fits f s (record (station f s) { table = Some table; note = note }) f.wires fits at fits.wires_sound (λ k. refl) (λ other differs. refl) was.port was.holds (free_of f (Load s) lawful refl)

-- What is in hand is given up
pub emptied_fits : (f : FabricOf) (s : ℕ) → Fits f → s < count f → is_full_at f s ≡ true → Fits (emptied s f)
emptied_fits f s fits at full =
    let k = (station f s).hand in
    let w = released k s f.wires in
    let x = record (station f s) { hand = hand.Empty } in
    let size = fits.wires_sound.frames.queues in
    let none = released_hand k s f.wires (omega (arith, at, size)) (fits.hands s at).holds in
    let now = full_set f.stations s x (station_below f s fits at) in
    let room = fits.room in
    record {
      script = fits.script;
      size = length-set f.stations s x ∙ fits.size;
      hands = λ other below. let here = hands_one f s x w fits at (λ other differs. released_elsewhere k other s f.wires differs) tt none other below in record { port = here.port; holds = here.holds };
      wires_sound = released_sound f.script k s f.wires fits.wires_sound;
      fars = fars_then (wires_at_first f.script) f.wires w fits.fars (released_fars k s f.wires);
      room = omega (arith, now, room);
      since = fits.since;
      time = record { ticks = fits.time.ticks; commands = fits.time.commands };
      packets = record { each = fits.packets.each; rising = fits.packets.rising; sent = fits.packets.sent };
      few = fits.few;
    }

-- A frame goes out
pub put_fits : (f : FabricOf) (s : ℕ) (out : BytesOut) → Fits f → 1 ≤ length out.bytes → Fits (record f { wires = put_out s out f.wires })
put_fits f s out fits some =
    let w = put_out s out f.wires in
    record {
      script = fits.script;
      size = fits.size;
      hands = λ other below.
          let was = fits.hands other below in
          record { port = was.port; holds = subst (HoldsFor (station f other).hand) (sym (put_out_elsewhere other s out f.wires (fabric_ports f fits))) was.holds };
      wires_sound = put_out_sound f.script fits.script s out f.wires some fits.fars fits.wires_sound;
      fars = fars_then (wires_at_first f.script) f.wires w fits.fars (put_out_fars s out f.wires);
      room = fits.room;
      since = fits.since;
      time = record { ticks = fits.time.ticks; commands = fits.time.commands };
      packets = record { each = fits.packets.each; rising = fits.packets.rising; sent = fits.packets.sent };
      few = fits.few;
    }

-- A switch shows what became of it
pub shows_fits : (f : FabricOf) (s : ℕ) (note : NoteOf) (spent : Bool) → Fits f → s < count f → f.events + full_hands f < f.script.limits.events → Fits (shows s note spent f)
shows_fits f s note spent fits at room =
    let x = showing note spent (station f s) in
    let was = fits.hands s at in
    let now = full_set f.stations s x (station_below f s fits at) in
    let since = fits.since in
    record {
      script = fits.script;
      size = length-set f.stations s x ∙ fits.size;
      hands = λ other below. let here = hands_one f s x f.wires fits at (λ other differs. refl) was.port was.holds other below in record { port = here.port; holds = here.holds };
      wires_sound = fits.wires_sound;
      fars = fits.fars;
      room = omega (arith, now, room);
      since = omega (arith, since);
      time = record { ticks = fits.time.ticks; commands = fits.time.commands };
      packets = record { each = fits.packets.each; rising = fits.packets.rising; sent = fits.packets.sent };
      few = fits.few;
    }

-- The next life of a switch
pub restart_fits : (f : FabricOf) (s : ℕ) (note : NoteOf) → Fits f → is_lawful f (Restart s) ≡ true → Fits (after_restart s note f)
restart_fits f s note fits lawful =
    let next = lawful_is f (Restart s) lawful in
    let is = command_is f (Restart s) (restart_ready f s next.ready).0 in
    let at : s < count f = command_fits f (Restart s) fits.script is in
    let x = restarted f.tick note (station f s) in
    let was = fits.hands s at in
    let more = command_more f (Restart s) is in
    let since = fits.since in
    let sent = fits.packets.sent in
    record {
      script = fits.script;
      size = length-set f.stations s x ∙ fits.size;
      hands = λ other below. let here = hands_one f s x f.wires fits at (λ other differs. refl) was.port was.holds other below in record { port = here.port; holds = here.holds };
      wires_sound = fits.wires_sound;
      fars = fits.fars;
      room = room_one f.script.limits.events f.events s f.stations x (station_below f s fits at) (free_of f (Restart s) lawful refl);
      since = omega (arith, since);
      time = record { ticks = fits.time.ticks; commands = more };
      packets = record { each = fits.packets.each; rising = fits.packets.rising; sent = omega (arith, sent) };
      few = fits.few;
    }

-- A command changes links and wires, and leaves the frames in hand alone
pub wires_fit : (f : FabricOf) (e : Event) (w : WiresOf) → Fits f → is_lawful f e ≡ true → is_handle e ≡ false → is_ready f e ≡ is_command f e → AreWiresSound f.script w → HaveSameFarEnds f.wires w
    → ((other : ℕ) → Keeps (place other 0) f.wires w) → Fits (on_wires (λ _. w) f)
wires_fit f e w fits lawful other same sound fars keeps =
    let free = free_of f e lawful other in
    let more = command_more f e (ready_command f e lawful same) in
    let since = fits.since in
    let sent = fits.packets.sent in
    record {
      script = fits.script;
      size = fits.size;
      hands = λ one below. let was = fits.hands one below in record { port = was.port; holds = subst (HoldsFor (station f one).hand) (sym (keeps one)) was.holds };
      wires_sound = sound;
      fars = fars_then (wires_at_first f.script) f.wires w fits.fars fars;
      room = omega (arith, free);
      since = omega (arith, since);
      time = record { ticks = fits.time.ticks; commands = more };
      packets = record { each = fits.packets.each; rising = fits.packets.rising; sent = omega (arith, sent) };
      few = fits.few;
    }

pub fail_fits : (f : FabricOf) (s p : ℕ) → Fits f → is_lawful f (Fail s p) ≡ true → Fits (on_wires (fail_at (place s p)) f)
fail_fits f s p fits lawful =
    let port = (event_fits f (Fail s p) fits lawful refl).port in
    wires_fit f (Fail s p) (fail_at (place s p) f.wires) fits lawful refl refl (fail_sound f.script (place s p) f.wires fits.wires_sound) (fail_fars f.wires (place s p))
    (λ other. fails_hand (place s p) other f.wires (fabric_ports f fits) (port_is_no_hand other s p port.port_least port.port_most))

pub repair_fits : (f : FabricOf) (s p : ℕ) → Fits f → is_lawful f (Repair s p) ≡ true → Fits (on_wires (repair_at (place s p)) f)
repair_fits f s p fits lawful =
    wires_fit f (Repair s p) (repair_at (place s p) f.wires) fits lawful refl refl (repair_sound f.script (place s p) f.wires fits.wires_sound)
    (link_fars f.wires true (side_at f.wires (place s p)).far (place s p)) (λ other. repair_keeps (place s p) (place other 0) f.wires)

pub lose_fits : (f : FabricOf) (s p n : ℕ) → Fits f → is_lawful f (Lose s p n) ≡ true → Fits (on_wires (lose_on (wire_out f.wires s p) n) f)
lose_fits f s p n fits lawful =
    let at = wire_out f.wires s p in
    let side = side_at f.wires at in
    wires_fit f (Lose s p n) (lose_on at n f.wires) fits lawful refl refl (told_sound f.script f.wires at (more_told side.lose n) side.again side.swap fits.wires_sound)
    (told_fars f.wires at (more_told side.lose n) side.again side.swap) (λ other. refl)

pub again_fits : (f : FabricOf) (s p n : ℕ) → Fits f → is_lawful f (Again s p n) ≡ true → Fits (on_wires (again_on (wire_out f.wires s p) n) f)
again_fits f s p n fits lawful =
    let at = wire_out f.wires s p in
    let side = side_at f.wires at in
    wires_fit f (Again s p n) (again_on at n f.wires) fits lawful refl refl (told_sound f.script f.wires at side.lose (more_told side.again n) side.swap fits.wires_sound)
    (told_fars f.wires at side.lose (more_told side.again n) side.swap) (λ other. refl)

pub swap_fits : (f : FabricOf) (s p n : ℕ) → Fits f → is_lawful f (Swap s p n) ≡ true → Fits (on_wires (swap_on (wire_out f.wires s p) n) f)
swap_fits f s p n fits lawful =
    let at = wire_out f.wires s p in
    let side = side_at f.wires at in
    wires_fit f (Swap s p n) (swap_on at n f.wires) fits lawful refl refl (told_sound f.script f.wires at side.lose side.again (more_told side.swap n) fits.wires_sound)
    (told_fars f.wires at side.lose side.again (more_told side.swap n)) (λ other. refl)

pub noise_fits : (f : FabricOf) (s p n : ℕ) → Fits f → is_lawful f (Noise s p n) ≡ true → Fits (on_wires (noise_out s p n) f)
noise_fits f s p n fits lawful =
    let change = event_fits f (Noise s p n) fits lawful refl in
    let linked = change_link f s p n 64 fits change in
    let least = change.count_least in
    let size : length (noise n) ≡ n = length-replicate n 0 in
    let is = link_is f.script fits.script f.wires (place s p) fits.fars linked in
    wires_fit f (Noise s p n) (noise_out s p n f.wires) fits lawful refl refl
    (put_sound f.script (place s p) (wire_out f.wires s p) (noise n) f.wires (omega (arith, least, size)) is.there (inl is.linked) fits.wires_sound)
    (put_fars f.wires (place s p) (wire_out f.wires s p) (noise n))
    (λ other. put_elsewhere (place s p) (wire_out f.wires s p) (place other 0) (noise n) f.wires (wire_is_no_hand f.wires (place s p) other (fabric_ports f fits) linked))

-- The far end of a link that is up is a port of a switch with a link
pub next_fits : (f : FabricOf) → Fits f → (s port : ℕ) → IfSome (next_at f s port) (IsFarPort f.script)
next_fits f fits s port = by_up (is_up f s port) where
  by_far : (o : Option Far) → (side_of_port f s port).far ≡ o → IfSome (switch_behind o) (IsFarPort f.script)
  by_far None is = tt
  by_far (Some (HostAt n)) is = tt
  by_far (Some (Switch t q)) is =
      let link = link_is f.script fits.script f.wires (place s port) fits.fars (ap is_link is) in
      let ports = fabric_ports f fits (place s port) t q is in
      let there : place t q < 13 * length f.script.wires.switches = subst (λ (o : Option Far). far_place o < 13 * length f.script.wires.switches) is link.there in
      record { switch = omega (arith, there); least = ports.0; most = ports.1; link = ap (λ o. is_link (side_at (wires_at_first f.script) (far_place o)).far) (sym is) ∙ link.linked }

  by_up : (b : Bool) → IfSome (cond b (switch_behind (side_of_port f s port).far) None) (IsFarPort f.script)
  by_up true = by_far (side_of_port f s port).far refl
  by_up false = tt

-- A packet makes one hop
hopped_sound : (f : FabricOf) (k : ℕ) (o : Option PacketOf) → Fits f → AreSound f.script f.sent f.packets → AreSound f.script f.sent (hopped k o f)
hopped_sound f k None fits sound = sound
hopped_sound f k (Some x) fits sound = hop_sound f.script f.sent k (next_at f x.at) f.packets (hop_of f x) (λ p. next_fits f fits x.at p) sound

without_few : (k : ℕ) (xs : List PacketOf) → length (without k xs) ≤ length xs
without_few k xs =
    let test : PacketOf → Bool = λ x. not (x.packet == k) in
    let e = length-filter test xs in
    let le = count_by-le-length test xs in
    omega (arith, e, le)

hopped_few : (k : ℕ) (next : ℕ → Option (ℕ × ℕ)) (made : Hop) (xs : List PacketOf) → length (after_hop made next k xs) ≤ length xs
hopped_few k next (hop.Went exit) xs = let e : length (moved k (next exit) xs) ≡ length xs = length-map xs _ in omega (arith, e)
hopped_few k next (hop.Delivered exit host) xs = without_few k xs
hopped_few k next (hop.Dropped why) xs = without_few k xs

pub move_fits : (f : FabricOf) (k : ℕ) → Fits f → is_lawful f (Move k) ≡ true → Fits (after_move k f)
move_fits f k fits lawful =
    let free = free_of f (Move k) lawful refl in
    let since = fits.since in
    let now = hopped_sound f k (packet_of k f.packets) fits (record { each = fits.packets.each; rising = fits.packets.rising }) in
    let fewer = by (packet_of k f.packets) in
    let few = fits.few in
    record {
      script = fits.script;
      size = fits.size;
      hands = λ s below. record { port = (fits.hands s below).port; holds = (fits.hands s below).holds };
      wires_sound = fits.wires_sound;
      fars = fits.fars;
      room = omega (arith, free);
      since = omega (arith, since);
      time = record { ticks = fits.time.ticks; commands = fits.time.commands };
      packets = record { each = now.each; rising = now.rising; sent = fits.packets.sent };
      few = omega (arith, fewer, few);
    }
  where
    by : (o : Option PacketOf) → length (hopped k o f) ≤ length f.packets
    by None = omega arith
    by (Some x) = hopped_few k (next_at f x.at) (hop_of f x) f.packets

-- A host sends a packet
admitted_few : (f : FabricOf) (from to : HostOn) → length (admitted f from to) ≤ 1
admitted_few f from to = by (address_for f from to) where
  by : (o : Result ℕ DropCause) → length (admitted_as (f.sent + 1) from to o) ≤ 1
  by (Err why) = omega arith
  by (Ok address) = omega arith

pub send_fits : (f : FabricOf) (from to : ℕ) → Fits f → is_lawful f (Send from to) ≡ true → Fits (after_send from to f)
send_fits f from to fits lawful =
    let free = free_of f (Send from to) lawful refl in
    let more = command_more f (Send from to) (ready_command f (Send from to) lawful refl) in
    let since = fits.since in
    let sent = fits.packets.sent in
    let hosts = event_fits f (Send from to) fits lawful refl in
    let host : IsHost (count f) (host_on f from) = All-get_or (IsHost (count f)) f.script.wires.hosts from no_host hosts.0 fits.script.wired.hosts in
    let now = sent_sound f.script f (host_on f from) (host_on f to) host (record { each = fits.packets.each; rising = fits.packets.rising }) in
    let few = fits.few in
    let new = admitted_few f (host_on f from) (host_on f to) in
    let both = length-append f.packets (admitted f (host_on f from) (host_on f to)) in
    record {
      script = fits.script;
      size = fits.size;
      hands = λ s below. record { port = (fits.hands s below).port; holds = (fits.hands s below).holds };
      wires_sound = fits.wires_sound;
      fars = fits.fars;
      room = omega (arith, free);
      since = omega (arith, since);
      time = record { ticks = fits.time.ticks; commands = more };
      packets = record { each = now.each; rising = now.rising; sent = omega (arith, sent) };
      few = omega (arith, few, new, both);
    }
