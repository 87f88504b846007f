use Rattle.fabric_tables.specs.Cells.{tables_of}
use Rattle.fabric_mixtures.proofs.RowLemmas.{graph_kept}
use Rattle.fabric_mixtures.proofs.TurnLemmas.{one_below}
use Rattle.fabric_mixtures.proofs.follow.add_lid.Goals as goal

pub switches-preserved : goal.switches-preserved
switches-preserved c = record {
  grown = one_below c.args.fabric.now (tables_of c.args.old.now) (tables_of c.args.new.now) c.args.lid c.switches.at c.args.graph.now c.switches.graph c.add_turns.new.graph c.switches.invariant.grown c.add_turns.ensures;
  graph = graph_kept c.args.fabric.now c.switches.graph c.add_turns.new.graph c.add_turns.ensures.wide c.add_turns.ensures.bases c.switches.invariant.graph;
}
