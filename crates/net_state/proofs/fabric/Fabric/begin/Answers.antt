use Rattle.std.proofs.Common.{◌∙◌, ℕ, [], length, map, ap}
use Rattle.std.specs.List.{range_with_len}
use Rattle.net_graph.specs.Wires.{Wires}
use Rattle.net_script.specs.declared.command.Command.{Command}
use Rattle.net_script.specs.declared.setting.Limits.{Limits}
use Rattle.wire_set.specs.WireState.{start}
use Rattle.host_traffic.specs.Packets.{TrafficOf}
use Rattle.net_state.specs.Starts.{begun_station}
use Rattle.net_state.specs.Tallies.{StationsOf}
use Rattle.net_state.proofs.AskLemmas.{first_kept}
use Rattle.net_state.proofs.fabric.Fabric.begin.Goals as goal

pub invariant_of-result : goal.invariant_of-result
invariant_of-result c =
    let script = c.args.script.now in
    let wired = c.wiring-wiring.ensures.wires in
    first_kept script _ _ _ _ _ c.wiring-wiring.ensures.kept record {
      plan_is = c.in_ok-of.ensures;
      wires_are = c.in_ok-begin.ensures ∙ ap (λ (w : Wires). start w c.limits.result.blocks) wired ∙ ap (λ (l : Limits). start script.wires l.blocks) c.limits.ensures.limits;
      stations_are = c.in_ok-begin-2.ensures ∙ ap (stations_of c.epoch.result) wired ∙ ap (λ (e : ℕ). stations_of e script.wires) c.epoch.ensures;
      traffic_is = c.in_ok-begin-3.ensures ∙ ap traffic_of (ap (length {A = Command}) c.commands.ensures.all);
      past_is = c.begin-4.ensures;
    }
  where
    stations_of : ℕ → Wires → StationsOf
    stations_of e w = record { tick = 0; items = map (begun_station w e) (range_with_len 0 (length w.switches)) }

    traffic_of : ℕ → TrafficOf
    traffic_of n = record { packets = []; most = n }
