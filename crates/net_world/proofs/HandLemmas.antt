-- An event of another owner leaves what a switch has in hand alone.

use Rattle.std.specs.Prelude.{◌≡◌, ◌≢◌, ◌+◌, ◌≤◌, ℕ, List, Option, Some, None, true, refl}
use Rattle.std.proofs.Common.{◌∙◌}
use Rattle.an_base.specs.Values.{TopoOf}
use Rattle.an_base.specs.declared.event.Event.{Event}
use Rattle.an_base.specs.declared.event.Event.TheVariants.{Tick, Clock, Take, Handle, Load, Fail, Repair, Lose, Again, Swap, Noise, Send, Move, Restart}
use Rattle.wire_set.specs.WireState.{place, side_at, wire_out, is_link}
use Rattle.switch_core.specs.Switch.{finish_of}
use Rattle.switch_core.specs.Bytes.{all_spelled}
use Rattle.net_state.specs.Fabric.{station}
use Rattle.net_state.specs.Effects.{released, noise}
use Rattle.net_world.specs.World.{WorldOf, effect, handled, loads_with}
use Rattle.net_world.specs.Histories.{owner_of}
use Rattle.net_state.proofs.QueueLemmas.{Keeps, AreFarPorts, put_elsewhere, take_elsewhere, repair_keeps, all_put_out_elsewhere, wire_is_no_hand, port_is_no_hand, hands_differ}
use Rattle.net_state.proofs.HoldLemmas.{released_elsewhere, released_ports, fails_hand}
use Rattle.net_script.specs.Scripts.{ScriptOf, IsScript}
use Rattle.net_state.specs.Lawful.{is_lawful}
use Rattle.net_state.proofs.LawfulLemmas.{lawful_is}
use Rattle.net_state.proofs.ReadyLemmas.{take_ready}
use Rattle.net_state.proofs.FitsLemmas.{fabric_ports, event_fits, change_link}
use Rattle.net_world.specs.World.{world_after}
use Rattle.net_world.proofs.ElsewhereLemmas.{places_differ}
use Rattle.net_world.proofs.FabricLemmas.{world_fits}

-- the port of a take or a failure is external, and that of noise has a link
abbrev pub HasPort : WorldOf → Event → Type 0
HasPort w (Take t p) = (1 ≤ p) × (p ≤ 12)
HasPort w (Fail t p) = (1 ≤ p) × (p ≤ 12)
HasPort w (Noise t p n) = is_link (side_at w.fabric.wires (place t p)).far ≡ true
HasPort w e = Unit {0}

loads_hand : (topo : Option TopoOf) (s t : ℕ) (w : WorldOf) → Keeps (place s 0) w.fabric.wires (loads_with topo t w).fabric.wires
loads_hand None s t w = refl
loads_hand (Some topo) s t w = refl

-- an event of another owner leaves what a switch has in hand alone
pub hand_elsewhere : (e : Event) (s : ℕ) (w : WorldOf) → AreFarPorts w.fabric.wires → HasPort w e → owner_of e ≢ s + 1 → Keeps (place s 0) w.fabric.wires (effect e w).fabric.wires
unfolding effect
hand_elsewhere Tick s w ports port other = refl
hand_elsewhere (Clock t) s w ports port other = refl
hand_elsewhere (Take t p) s w ports port other = take_elsewhere (place t p) (place t 0) (place s 0) w.fabric.wires (port_is_no_hand s t p port.0 port.1) (hands_differ s t (places_differ s t other))
hand_elsewhere (Handle t) s w ports port other =
    all_put_out_elsewhere s t (all_spelled (handled t w).frames) (released (station w.fabric t).hand t w.fabric.wires) (released_ports (station w.fabric t).hand t w.fabric.wires ports)
    ∙ released_elsewhere (station w.fabric t).hand s t w.fabric.wires (places_differ s t other)
hand_elsewhere (Load t) s w ports port other = loads_hand (finish_of (w.switches t)) s t w
hand_elsewhere (Restart t) s w ports port other = refl
hand_elsewhere (Fail t p) s w ports port other = fails_hand (place t p) s w.fabric.wires ports (port_is_no_hand s t p port.0 port.1)
hand_elsewhere (Repair t p) s w ports port other = repair_keeps (place t p) (place s 0) w.fabric.wires
hand_elsewhere (Lose t p n) s w ports port other = refl
hand_elsewhere (Again t p n) s w ports port other = refl
hand_elsewhere (Swap t p n) s w ports port other = refl
hand_elsewhere (Noise t p n) s w ports port other = put_elsewhere (place t p) (wire_out w.fabric.wires t p) (place s 0) (noise n) w.fabric.wires (wire_is_no_hand w.fabric.wires (place t p) s ports port)
hand_elsewhere (Send h g) s w ports port other = refl
hand_elsewhere (Move k) s w ports port other = refl

-- far ends of links are external ports
pub world_ports : (script : ScriptOf) → IsScript script → (h : List Event) → AreFarPorts (world_after script h).fabric.wires
world_ports script kept h = fabric_ports (world_after script h).fabric (world_fits script kept h)

-- a lawful event has the ports that it is to have
pub lawful_port : (script : ScriptOf) → IsScript script → (h : List Event) (e : Event) → is_lawful (world_after script h).fabric e ≡ true → HasPort (world_after script h) e
lawful_port script kept h (Take t p) lawful = let f = (world_after script h).fabric in let ready = take_ready f t p (lawful_is f (Take t p) lawful).ready in (ready.least, ready.most)
lawful_port script kept h (Fail t p) lawful = let fits = event_fits (world_after script h).fabric (Fail t p) (world_fits script kept h) lawful refl in (fits.port.port_least, fits.port.port_most)
lawful_port script kept h (Noise t p n) lawful = let f = (world_after script h).fabric in let fits = world_fits script kept h in change_link f t p n 64 fits (event_fits f (Noise t p n) fits lawful refl)
lawful_port script kept h e lawful = tt
