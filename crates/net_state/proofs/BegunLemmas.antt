-- The fabric with which a network begins is as fabrics are to be.

use Rattle.std.specs.Prelude.{◌≡◌, ◌<◌, ℕ, length, not, refl}
use Rattle.std.specs.List.{range_with_len}
use Rattle.std.proofs.Common.{sym, subst, arith}
use Rattle.std.proofs.lemmas.List.Elements.{All-nil}
use Rattle.std.proofs.lemmas.List.FromFn.{length-map-range_with_len, get_or-map-range_with_len}
use Rattle.net_script.specs.Scripts.{ScriptOf, IsScript}
use Rattle.wire_set.specs.WireState.{hand_of, place}
use Rattle.net_state.specs.Fabric.{StationOf, station, vacant, full_hands, is_empty}
use Rattle.net_state.specs.Fits.{Fits, HandFitsAt, HoldsFor, IsHandPort, IsPacketSound, wires_at_first}
use Rattle.net_state.specs.Starts.{begun_fabric, begun_station}
use Rattle.net_state.proofs.WiresLemmas.{first_empty, first_wires}
use Rattle.net_state.proofs.TallyLemmas.{begun_none}

begun_at : (script : ScriptOf) (s : ℕ) → s < length script.wires.switches → station (begun_fabric script) s ≡ begun_station script.wires script.epoch s
begun_at script s below = get_or-map-range_with_len (begun_station script.wires script.epoch) 0 (length script.wires.switches) s s vacant below (omega arith)

begun_hand : (script : ScriptOf) (s : ℕ) → s < length script.wires.switches → HandFitsAt (begun_fabric script) s
begun_hand script s below =
    let here = begun_at script s below in
    record {
      port = subst (λ (x : StationOf). IsHandPort x.hand) (sym here) tt;
      holds = subst (λ (x : StationOf). HoldsFor x.hand (hand_of (wires_at_first script) s)) (sym here) (first_empty script (place s 0));
    }

pub begun_fits : (script : ScriptOf) → IsScript script → Fits (begun_fabric script)
begun_fits script kept =
    let none : full_hands (begun_fabric script) ≡ 0 = begun_none (λ (at : StationOf). not (is_empty at.hand)) script.wires script.epoch (λ place. refl) (range_with_len 0 (length script.wires.switches)) in
    record {
      script = kept;
      size = length-map-range_with_len (begun_station script.wires script.epoch) 0 (length script.wires.switches);
      hands = begun_hand script;
      wires_sound = first_wires script kept;
      fars = λ at. refl;
      room = omega (arith, none);
      since = omega arith;
      time = record { ticks = omega arith; commands = omega arith };
      packets = record { each = All-nil (IsPacketSound script 0); rising = λ i j d lt low. absurd (omega arith); sent = omega arith };
      few = omega arith;
    }
