use Rattle.std.proofs.Common.{◌≡◌, ◌∙◌, ◌+◌, ◌-◌, ◌*◌, ◌<◌, sym, ap, get_or, ℕ, None, Some, length, arith}
use Rattle.std.proofs.lemmas.List.{get_or_default}
use Rattle.fabric_model.specs.declared.node.EndPort.{EndPort}
use Rattle.fabric_lane_tables.specs.Lanes.{lanes_of}
use Rattle.fabric_lane_tables.specs.Levels.{levels_of}
use Rattle.fabric_lane_waves.specs.LaneGates.{source_count}
use Rattle.fabric_lane_waves.proofs.GateLemmas.{gate_there}
use Rattle.fabric_lane_waves.proofs.start.stand_already.Goals as goal

pub returns : goal.returns
returns c = λ bit has.
    let routing = c.args.routes.now.routing in
    let are = c.requires.gates in
    let fits : c.args.place - 1 < length c.args.gates.now.gates.items = (let size = are.size in let count = c.requires.size in let less = c.requires.place in omega arith) in
    let low : c.args.place - 1 < source_count routing.fabric.now = (let count = c.requires.size in let less = c.requires.place in omega arith) in
    let gate : get_or c.args.gates.now.gates.items (c.args.place - 1) None ≡ Some c.args.gate = get_or_default c.args.gates.now.gates.items (c.args.place - 1) None c.index.result.now fits ∙ sym c.index.ensures ∙ c.in-Some.is ∙ ap (λ (n : ℕ). Some n) c.if-other-gate.false in
    let there = gate_there routing.fabric.now (lanes_of routing.lanes.now) routing.traffic (source_count routing.fabric.now) c.args.gates.now.spots.items c.args.gates.now.gates.items are.all (c.args.place - 1) c.args.gate low gate in
    let sent = (c.sent_by.ensures there.0 bit).0 has in
    record {
      before = c.args.place - 1;
      less = omega arith;
      same = gate;
      sends = sent.1;
      levels_are = ap (λ (s : EndPort). levels_of routing.levels.now s (64 * c.args.routes.now.block + bit)) (sym c.source_of.ensures)
          ∙ c.are_same.ensures c.if-not-are_same.false bit sent.0
          ∙ ap (λ (s : EndPort). levels_of routing.levels.now s (64 * c.args.routes.now.block + bit)) c.source_of-before.ensures;
    }
