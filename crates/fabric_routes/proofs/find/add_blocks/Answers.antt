use Rattle.std.proofs.Common.{◌≡◌, subst, ℕ, ◌*◌, arith}
use Rattle.fabric_tables.specs.Cells.{tables_of}
use Rattle.fabric_routes.specs.Finding.{AreFoundBelow}
use Rattle.fabric_routes.proofs.FoundLemmas.{found_none, found_more, found_all}
use Rattle.fabric_routes.proofs.RunLemmas.{graph_kept}
use Rattle.fabric_routes.proofs.StartLemmas.{sent_low}
use Rattle.fabric_routes.proofs.find.add_blocks.Goals as goal

pub waves-init : goal.waves-init
waves-init c = record { found = found_none c.args.fabric.now (tables_of c.args.cells.now) c.args.traffic c.args.graph.now; graph = c.requires.graph }

pub waves-preserved : goal.waves-preserved
waves-preserved c = record {
  found = found_more c.args.fabric.now (tables_of c.args.cells.now) c.args.traffic c.waves.block c.args.graph.now c.waves.graph c.add_block-stopped.new.graph c.waves.stopped c.add_block-stopped.result c.waves.invariant.found c.add_block-stopped.ensures;
  graph = graph_kept c.args.fabric.now c.waves.graph c.add_block-stopped.new.graph c.add_block-stopped.ensures.wide c.add_block-stopped.ensures.bases c.waves.invariant.graph;
}

pub returns : goal.returns
returns c =
    let last : c.waves.block ≡ c.args.cells.now.blocks = omega arith in
    found_all c.args.fabric.now (tables_of c.args.cells.now) c.args.traffic c.args.cells.now.blocks (sent_low c.args.fabric.now (tables_of c.args.cells.now) c.args.traffic c.args.cells.now.blocks c.requires.owners c.blocks-block-end.ensures.past) c.args.graph.now c.waves.graph c.waves.stopped
    (subst (λ (n : ℕ). AreFoundBelow c.args.fabric.now (tables_of c.args.cells.now) c.args.traffic (64 * n) c.args.graph.now c.waves.graph c.waves.stopped) last c.waves.invariant.found)
