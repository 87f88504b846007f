-- What a fabric's links are, for the questions about them, and what its parts are at the beginning.

use Rattle.std.specs.Prelude.{◌≡◌, ◌<◌, ℕ, List, [], length, map, slice_index_or, refl}
use Rattle.std.specs.List.{range_with_len}
use Rattle.std.proofs.Common.{sym, ap, subst, arith}
use Rattle.net_graph.specs.declared.wiring.LinkAt.{LinkAt}
use Rattle.net_graph.specs.Wires.{IsLink}
use Rattle.net_script.specs.Scripts.{ScriptOf, IsScript}
use Rattle.wire_set.specs.WireState.{WiresOf}
use Rattle.host_traffic.specs.Packets.{TrafficOf}
use Rattle.net_state.specs.declared.past.Past.{Past}
use Rattle.net_state.specs.Fits.{wires_at_first}
use Rattle.net_state.specs.Kept.{IsKept, fabric_of_all}
use Rattle.net_state.specs.Starts.{begun_station}
use Rattle.net_state.specs.Tallies.{StationsOf}
use Rattle.net_state.proofs.BegunLemmas.{begun_fits}

-- a link of the script joins ports of its switches
pub link_fits : (script : ScriptOf) (links : List LinkAt) (i : ℕ) (d : LinkAt) → IsScript script → links ≡ script.wires.links → i < length links → IsLink (length script.wires.switches) (slice_index_or links i d)
link_fits script links i d kept are low =
    let size = ap (length {A = LinkAt}) are in
    subst (λ (xs : List LinkAt). IsLink (length script.wires.switches) (slice_index_or xs i d)) (sym are) (kept.wired.links i d (omega (arith, low, size)))

-- the parts with which a fabric begins, and that they are kept
pub record AreFirst (script plan : ScriptOf) (wires : WiresOf) (stations : StationsOf) (traffic : TrafficOf) (past : Past) : Type 0 where
  pub plan_is : plan ≡ script
  pub wires_are : wires ≡ wires_at_first script
  pub stations_are : stations ≡ record { tick = 0; items = map (begun_station script.wires script.epoch) (range_with_len 0 (length script.wires.switches)) }
  pub traffic_is : traffic ≡ record { packets = []; most = length script.commands }
  pub past_is : past ≡ record { done = 0; since = 0; events = 0 }

pub first_kept : (script plan : ScriptOf) (wires : WiresOf) (stations : StationsOf) (traffic : TrafficOf) (past : Past) → IsScript script → AreFirst script plan wires stations traffic past
    → IsKept (fabric_of_all plan wires stations traffic 0 past) traffic
first_kept script plan wires stations traffic past kept first =
    subst (λ (p : ScriptOf). IsKept (fabric_of_all p wires stations traffic 0 past) traffic) (sym first.plan_is)
    (subst (λ (w : WiresOf). IsKept (fabric_of_all script w stations traffic 0 past) traffic) (sym first.wires_are)
    (subst (λ (s : StationsOf). IsKept (fabric_of_all script (wires_at_first script) s traffic 0 past) traffic) (sym first.stations_are)
    (subst (λ (t : TrafficOf). IsKept (fabric_of_all script (wires_at_first script) (record { tick = 0; items = map (begun_station script.wires script.epoch) (range_with_len 0 (length script.wires.switches)) }) t 0 past) t) (sym first.traffic_is)
    (subst (λ (q : Past). IsKept (fabric_of_all script (wires_at_first script) (record { tick = 0; items = map (begun_station script.wires script.epoch) (range_with_len 0 (length script.wires.switches)) }) (record { packets = []; most = length script.commands }) 0 q) (record { packets = []; most = length script.commands })) (sym first.past_is)
    (record { fits = begun_fits script kept; most = refl })))))
