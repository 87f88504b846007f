use Rattle.std.proofs.Common.{◌≡◌, ◌∙◌, ◌<◌, ◌+◌, ◌*◌, sym, subst, ℕ, List, None, Some, length, get_or, arith}
use Rattle.std.proofs.lemmas.List.{get_or_default}
use Rattle.std.proofs.lemmas.Nat.{mul-add-lt}
use Rattle.fabric_tables.specs.Cells.{tables_of}
use Rattle.fabric_model.specs.declared.node.EndPort.{EndPort}
use Rattle.fabric_lane_tables.specs.Lanes.{lanes_of}
use Rattle.fabric_lane_tables.specs.Levels.{levels_of}
use Rattle.fabric_lane_waves.specs.LaneBlocks.{AreSetBy}
use Rattle.fabric_lane_waves.specs.LaneGates.{source_count}
use Rattle.fabric_lane_waves.proofs.GateLemmas.{gate_there}
use Rattle.fabric_lane_waves.proofs.LevelLemmas.{Told}
use Rattle.fabric_lane_waves.proofs.SentLemmas.{AreSentBelow, all_sent, sent_had, sent_more, sent_none, sent_skip}
use Rattle.fabric_lane_waves.proofs.start.put_sent.Goals as goal
use Rattle.fabric_lane_waves.proofs.start.put_sent.Goals.{in-Some, in_default}

-- the row of a gate and a level is one of those there are
row_low : (gate top level count room : ℕ) → gate < count → level < top → room ≡ count * top → gate * top + level < room
row_low gate top level count room low below size = let a = mul-add-lt gate top level count low below in omega arith

pub sources-init : goal.sources-init
sources-init c =
    let routes = c.args.routes.now in
    let routing = routes.routing in
    subst (λ (words : List ℕ). AreSentBelow routing.fabric.now (tables_of routing.cells.now) routing.traffic routes.block (levels_of routing.levels.now) c.args.gates.now.gates.items c.args.top 0 words) (sym c.clear.ensures)
    (sent_none routing.fabric.now (tables_of routing.cells.now) routing.traffic routes.block (levels_of routing.levels.now) c.args.gates.now.gates.items c.args.top (length c.args.sent.now))

pub add_source-requires-clause-room : goal.add_source-requires-clause-room
add_source-requires-clause-room c = λ lid level has.
    let routing = c.args.routes.now.routing in
    let lanes = lanes_of routing.lanes.now in
    let are = c.requires.gates in
    let is : get_or c.args.gates.now.gates.items c.sources.place None ≡ Some c.in-Some.gate = get_or_default c.args.gates.now.gates.items c.sources.place None c.index.result.now (let size = are.size in omega arith) ∙ sym c.index.ensures ∙ c.in-Some.is in
    let there = gate_there routing.fabric.now lanes routing.traffic (source_count routing.fabric.now) c.args.gates.now.spots.items c.args.gates.now.gates.items are.all c.sources.place c.in-Some.gate (omega arith) is in
    row_low c.in-Some.gate c.args.top level (length c.args.gates.now.spots.items) (length c.sources.sent) there.1 (c.requires.top c.source_of-source.result lid level has) (let a = c.sources.auto.sent in let b = c.clear.auto.words in let size = c.requires.sent in omega arith)

pub sources-preserved : goal.sources-preserved
sources-preserved c =
    let routes = c.args.routes.now in
    let routing = routes.routing in
    let lanes = lanes_of routing.lanes.now in
    let are = c.requires.gates in
    let low : c.sources.place < source_count routing.fabric.now = omega arith in
    let told = get_or_default c.args.gates.now.gates.items c.sources.place None c.index.result.now (let size = are.size in omega arith) ∙ sym c.index.ensures in
    elim c.match-index.branch [
      | in-Some w ↦ (
          let is : get_or c.args.gates.now.gates.items c.sources.place None ≡ Some w.in-Some.gate = told ∙ w.in-Some.is in
          let there = gate_there routing.fabric.now lanes routing.traffic (source_count routing.fabric.now) c.args.gates.now.spots.items c.args.gates.now.gates.items are.all c.sources.place w.in-Some.gate low is in
          let sends = w.sent_by-word.ensures there.0 in
          subst (λ (words : List ℕ). AreSentBelow routing.fabric.now (tables_of routing.cells.now) routing.traffic routes.block (levels_of routing.levels.now) c.args.gates.now.gates.items c.args.top (c.sources.place + 1) words) (sym w.sent-is)
          (sent_more routing.fabric.now (tables_of routing.cells.now) routing.traffic routes.block (levels_of routing.levels.now) c.args.gates.now.gates.items c.args.top c.sources.place w.in-Some.gate w.sent_by-word.result c.sources.sent w.add_source.new.sent c.requires.top is sends
          (sent_had routing.fabric.now (tables_of routing.cells.now) routing.traffic routes.block (levels_of routing.levels.now) c.args.gates.now.gates.items c.args.top c.sources.place w.in-Some.gate w.sent_by-word.result w.stand_already-had.result w.fresh_of.result c.sources.sent w.add_source.new.sent sends
          w.stand_already-had.ensures w.fresh_of.ensures c.requires.top c.sources.invariant
          (subst (λ (source : EndPort). AreSetBy c.sources.sent w.add_source.new.sent (Told (levels_of routing.levels.now) source routes.block (w.in-Some.gate * c.args.top) w.fresh_of.result)) w.source_of-source.ensures w.add_source.ensures))
          c.sources.invariant))
      | in_default w ↦ subst (λ (words : List ℕ). AreSentBelow routing.fabric.now (tables_of routing.cells.now) routing.traffic routes.block (levels_of routing.levels.now) c.args.gates.now.gates.items c.args.top (c.sources.place + 1) words) (sym w.sent-is)
          (sent_skip routing.fabric.now (tables_of routing.cells.now) routing.traffic routes.block (levels_of routing.levels.now) c.args.gates.now.gates.items c.args.top c.sources.place c.sources.sent (told ∙ w.in_default.is) c.sources.invariant)
    ]

pub returns : goal.returns
returns c =
    let routes = c.args.routes.now in
    let routing = routes.routing in
    let are = c.requires.gates in
    let end : c.sources.place ≡ length c.args.gates.now.gates.items = (let size = are.size in omega arith) in
    all_sent routing.fabric.now (tables_of routing.cells.now) routing.traffic routes.block (levels_of routing.levels.now) c.args.gates.now.gates.items c.args.top (length c.args.gates.now.spots.items) c.sources.sent
    (subst (λ (n : ℕ). AreSentBelow routing.fabric.now (tables_of routing.cells.now) routing.traffic routes.block (levels_of routing.levels.now) c.args.gates.now.gates.items c.args.top n c.sources.sent) end c.sources.invariant)
