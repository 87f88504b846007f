-- Each reached world has a fabric as fabrics are to be.

use Rattle.std.specs.Prelude.{◌≡◌, ◌<◌, ◌≤◌, ℕ, List, [], ◌∷◌, All, length, map, Option, Some, None, true, refl}
use Rattle.std.specs.List.{sum_by, range_with_len}
use Rattle.std.proofs.Common.{sym, subst, arith}
use Rattle.std.proofs.lemmas.List.Elements.{All-nil, All-cons}
use Rattle.std.proofs.lemmas.List.FromFn.{get_or-map-range_with_len, length-map-range_with_len}
use Rattle.an_base.specs.Values.{TopoOf}
use Rattle.an_base.specs.declared.event.Event.{Event}
use Rattle.an_base.specs.declared.event.Event.TheVariants.{Tick, Clock, Take, Handle, Load, Fail, Repair, Lose, Again, Swap, Noise, Send, Move, Restart}
use Rattle.net_script.specs.Scripts.{ScriptOf, IsScript}
use Rattle.wire_set.specs.WireState.{HaveSameFarEnds, place, hand_of}
use Rattle.switch_core.specs.Switch.{finish_of, note_of}
use Rattle.switch_core.specs.Steps.{Sent, loaded}
use Rattle.switch_core.specs.Bytes.{BytesOut, all_spelled}
use Rattle.table_build.specs.Made.{number_in}
use Rattle.net_state.specs.Fabric.{StationOf, station, vacant, count}
use Rattle.net_state.specs.Lawful.{is_lawful}
use Rattle.net_state.specs.Fits.{Fits, HandFitsAt, IsHandPort, HoldsFor, IsPacketSound, wires_at_first}
use Rattle.net_state.proofs.LawfulLemmas.{lawful_is}
use Rattle.net_state.proofs.ReadyLemmas.{handle_ready}
use Rattle.net_state.proofs.RoomLemmas.{fullness}
use Rattle.net_state.proofs.WiresLemmas.{spelling_some, first_empty, first_wires}
use Rattle.net_state.proofs.FitsLemmas.{switch_below, tick_fits, clock_fits, take_fits, load_fits, fail_fits, repair_fits, lose_fits, again_fits, swap_fits, noise_fits, send_fits, move_fits, restart_fits}
use Rattle.net_state.proofs.HandleLemmas.{handle_fits}
use Rattle.net_world.specs.World.{WorldOf, begun, first_station, effect, handled, loads_with, next_life, table_for, world_after}
use Rattle.net_world.proofs.InductionLemmas.{always, world_script}

-- frames that are spelled have bytes
all_some : (frames : List Sent) → All (λ (out : BytesOut). 1 ≤ length out.bytes) (all_spelled frames)
all_some [] = All-nil (λ (out : BytesOut). 1 ≤ length out.bytes)
all_some (x ∷ xs) = All-cons (λ (out : BytesOut). 1 ≤ length out.bytes) _ (all_spelled xs) (spelling_some x.frame) (all_some xs)

loads_fit : (topo : Option TopoOf) (s : ℕ) (w : WorldOf) → Fits w.fabric → is_lawful w.fabric (Load s) ≡ true → Fits (loads_with topo s w).fabric
loads_fit None s w fits lawful = fits
loads_fit (Some topo) s w fits lawful = load_fits w.fabric s (table_for topo (w.switches s)) (note_of (loaded (number_in topo (w.switches s).life) (w.switches s))) fits lawful

-- a lawful event leaves it so
pub effect_fits : (e : Event) (w : WorldOf) → Fits w.fabric → is_lawful w.fabric e ≡ true → Fits (effect e w).fabric
unfolding effect
effect_fits Tick w fits lawful = tick_fits w.fabric fits lawful
effect_fits (Clock s) w fits lawful = clock_fits w.fabric s fits lawful
effect_fits (Take s p) w fits lawful = take_fits w.fabric s p fits lawful
effect_fits (Handle s) w fits lawful =
    let ready = handle_ready w.fabric s (lawful_is w.fabric (Handle s) lawful).ready in
    handle_fits w.fabric s (all_spelled (handled s w).frames) (note_of (handled s w).switch) (handled s w).switch.spent fits (switch_below w.fabric s ready.0) ready.1 (all_some (handled s w).frames)
effect_fits (Load s) w fits lawful = loads_fit (finish_of (w.switches s)) s w fits lawful
effect_fits (Fail s p) w fits lawful = fail_fits w.fabric s p fits lawful
effect_fits (Repair s p) w fits lawful = repair_fits w.fabric s p fits lawful
effect_fits (Lose s p n) w fits lawful = lose_fits w.fabric s p n fits lawful
effect_fits (Again s p n) w fits lawful = again_fits w.fabric s p n fits lawful
effect_fits (Swap s p n) w fits lawful = swap_fits w.fabric s p n fits lawful
effect_fits (Noise s p n) w fits lawful = noise_fits w.fabric s p n fits lawful
effect_fits (Send from to) w fits lawful = send_fits w.fabric from to fits lawful
effect_fits (Move k) w fits lawful = move_fits w.fabric k fits lawful
effect_fits (Restart s) w fits lawful = restart_fits w.fabric s (note_of (next_life s w)) fits lawful

-- so it is at first
first_full : (script : ScriptOf) (xs : List ℕ) → sum_by (λ (y : StationOf). fullness y.hand) (map (first_station script) xs) ≡ 0
first_full script [] = refl
first_full script (x ∷ xs) = first_full script xs

first_hand : (script : ScriptOf) (s : ℕ) → s < count (begun script).fabric → HandFitsAt (begun script).fabric s
first_hand script s below =
    let is : station (begun script).fabric s ≡ first_station script s = get_or-map-range_with_len (first_station script) 0 (length script.wires.switches) s s vacant below (omega arith) in
    record {
      port = subst (λ (x : StationOf). IsHandPort x.hand) (sym is) tt;
      holds = subst (λ (x : StationOf). HoldsFor x.hand (hand_of (wires_at_first script) s)) (sym is) (first_empty script (place s 0));
    }

begun_fits : (script : ScriptOf) → IsScript script → Fits (begun script).fabric
begun_fits script kept = record {
  script = kept;
  size = length-map-range_with_len (first_station script) 0 (length script.wires.switches);
  hands = first_hand script;
  wires_sound = first_wires script kept;
  fars = λ at. refl;
  room = let none = first_full script (range_with_len 0 (length script.wires.switches)) in omega (arith, none);
  since = omega arith;
  time = record { ticks = omega arith; commands = omega arith };
  packets = record { each = All-nil (IsPacketSound script 0); rising = λ i j d lt (below : j < 0). absurd (omega (arith, below)); sent = omega arith };
  few = omega arith;
}

-- and after any events
pub world_fits : (script : ScriptOf) → IsScript script → (h : List Event) → Fits (world_after script h).fabric
world_fits script kept h = always script (λ w. Fits w.fabric) (begun_fits script kept) (λ g e lawful before. effect_fits e (world_after script g) before lawful) h

-- so what lies behind each port is what the script has there
pub world_fars : (script : ScriptOf) → IsScript script → (h : List Event) → HaveSameFarEnds (wires_at_first script) (world_after script h).fabric.wires
world_fars script kept h = subst (λ (x : ScriptOf). HaveSameFarEnds (wires_at_first x) (world_after script h).fabric.wires) (world_script script h) (world_fits script kept h).fars
