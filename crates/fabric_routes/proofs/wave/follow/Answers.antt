use Rattle.std.proofs.Common.{◌∙◌}
use Rattle.fabric_tables.specs.Cells.{tables_of}
use Rattle.fabric_routes.proofs.RunLemmas.{further_idle, further_more, further_one, graph_kept}
use Rattle.fabric_routes.proofs.wave.follow.Goals as goal

pub turns-init : goal.turns-init
turns-init c =
    let turned = c.in_ok-stops.ensures in
    record {
      further = further_one c.args.fabric.now (tables_of c.args.cells.now) c.args.block c.args.at (record { seen = c.args.seen.now; graph = c.args.graph.now; stopped = c.args.stopped }) (record { seen = c.turn.new.seen; graph = c.turn.new.graph; stopped = c.in_ok-stops.stops }) c.args.done.now c.turn.new.done turned;
      seen_count = turned.taken.count ∙ c.requires.count;
      done_count = turned.count ∙ c.requires.done_count;
      graph = graph_kept c.args.fabric.now c.args.graph.now c.turn.new.graph turned.taken.wide turned.taken.bases c.requires.graph;
    }

pub turns-preserved : goal.turns-preserved
turns-preserved c =
    let so_far = c.turns.invariant in
    let turned = c.in-Some.ensures in
    record {
      further = further_more c.args.fabric.now (tables_of c.args.cells.now) c.args.block c.turns.ahead (record { seen = c.args.seen.now; graph = c.args.graph.now; stopped = c.args.stopped }) (record { seen = c.turns.seen; graph = c.turns.graph; stopped = c.turns.stops }) (record { seen = c.turn-in-turns.new.seen; graph = c.turn-in-turns.new.graph; stopped = c.in-Some.now }) c.args.done.now c.turns.done c.turn-in-turns.new.done so_far.further turned;
      seen_count = turned.taken.count ∙ so_far.seen_count;
      done_count = turned.count ∙ so_far.done_count;
      graph = graph_kept c.args.fabric.now c.turns.graph c.turn-in-turns.new.graph turned.taken.wide turned.taken.bases so_far.graph;
    }

pub turns-smaller : goal.turns-smaller
turns-smaller c = c.in-Some.ensures.less

pub returns-after-turns : goal.returns-after-turns
returns-after-turns c = c.turns.invariant.further

pub returns-in-None : goal.returns-in-None
returns-in-None c = further_idle c.args.fabric.now (tables_of c.args.cells.now) c.args.block c.turns.ahead (record { seen = c.args.seen.now; graph = c.args.graph.now; stopped = c.args.stopped }) (record { seen = c.turns.seen; graph = c.turns.graph; stopped = c.turns.stops }) (record { seen = c.turn-in-turns.new.seen; graph = c.turn-in-turns.new.graph; stopped = c.turns.stops }) c.args.done.now c.turns.done c.turn-in-turns.new.done c.turns.invariant.further c.in-None.ensures
