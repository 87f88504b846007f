use Rattle.std.proofs.Common.{◌≡◌, subst, ℕ, ◌*◌, arith}
use Rattle.fabric_tables.specs.Cells.{tables_of}
use Rattle.fabric_lane_tables.specs.Lanes.{lanes_of}
use Rattle.fabric_lane_tables.specs.Levels.{levels_of}
use Rattle.fabric_lane_waves.specs.LaneBlocks.{AreFoundBelow}
use Rattle.fabric_lane_waves.proofs.FindLemmas.{found_more, found_none}
use Rattle.fabric_lane_waves.proofs.StepLemmas.{graph_kept}
use Rattle.fabric_lane_waves.proofs.find.add_blocks.Goals as goal

pub adding-init : goal.adding-init
adding-init c =
    let routing = c.args.routing.now in
    record {
      found = found_none routing.fabric.now (tables_of routing.cells.now) (lanes_of routing.lanes.now) routing.lanes.now.count routing.traffic (levels_of routing.levels.now) c.args.graph.now;
      rooms = c.requires.rooms;
      graph = c.requires.graph;
    }

pub adding-preserved : goal.adding-preserved
adding-preserved c =
    let routing = c.args.routing.now in
    let waved = c.add_block-stopped.ensures.waved in
    record {
      found = found_more routing.fabric.now (tables_of routing.cells.now) (lanes_of routing.lanes.now) routing.lanes.now.count routing.traffic (levels_of routing.levels.now) c.adding.block c.args.graph.now c.adding.graph c.add_block-stopped.new.graph c.adding.stopped c.add_block-stopped.result c.adding.invariant.found waved;
      rooms = c.add_block-stopped.ensures.rooms;
      graph = graph_kept routing.fabric.now routing.lanes.now.count c.adding.graph c.add_block-stopped.new.graph waved.wide waved.bases c.adding.invariant.graph;
    }

pub returns : goal.returns
returns c =
    let last : c.adding.block ≡ c.args.routing.now.cells.now.blocks = omega arith in
    subst (λ (n : ℕ). AreFoundBelow c.args.routing.now (64 * n) c.args.graph.now c.adding.graph c.adding.stopped) last c.adding.invariant.found
