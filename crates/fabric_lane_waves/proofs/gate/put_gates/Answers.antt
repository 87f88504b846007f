use Rattle.std.proofs.Common.{◌≡◌, sym, subst, ℕ, arith}
use Rattle.fabric_model.specs.declared.node.EndPort.{EndPort}
use Rattle.fabric_lane_tables.specs.Lanes.{lanes_of}
use Rattle.fabric_lane_waves.specs.LaneGates.{AreGatesBelow, AreMoreSpots, source_count}
use Rattle.fabric_lane_waves.proofs.GateLemmas.{IsGate, gates_more, gates_none}
use Rattle.fabric_lane_waves.proofs.gate.put_gates.Goals as goal

pub sources-init : goal.sources-init
sources-init c =
    let routing = c.args.routing.now in
    record {
      gates = gates_none routing.fabric.now (lanes_of routing.lanes.now) routing.traffic c.args.spots.now.items c.args.gates.now c.requires.none;
      last = c.requires.last;
    }

pub sources-preserved : goal.sources-preserved
sources-preserved c =
    let routing = c.args.routing.now in
    record {
      gates = gates_more routing.fabric.now (lanes_of routing.lanes.now) routing.traffic c.sources.place c.sources.spots.items c.gate_of.new.spots.items c.sources.gates c.in_ok-gate.gate (omega arith)
          (subst (λ (n : ℕ). AreMoreSpots n c.sources.spots.items c.gate_of.new.spots.items) (sym routing.rows) c.in_ok-gate.ensures.more)
          (subst (λ (source : EndPort). IsGate routing.fabric.now (lanes_of routing.lanes.now) routing.traffic c.gate_of.new.spots.items source c.in_ok-gate.gate) c.source_of-source.ensures c.in_ok-gate.ensures.gate)
          c.sources.invariant.gates;
      last = c.in_ok-gate.ensures.last;
    }

pub returns : goal.returns
returns c =
    let routing = c.args.routing.now in
    let end : c.sources.place ≡ source_count routing.fabric.now = omega arith in
    subst (λ (n : ℕ). AreGatesBelow routing.fabric.now (lanes_of routing.lanes.now) routing.traffic n c.sources.spots.items c.sources.gates) end c.sources.invariant.gates
