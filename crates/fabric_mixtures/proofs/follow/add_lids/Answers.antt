use Rattle.fabric_tables.specs.Cells.{tables_of}
use Rattle.fabric_model.specs.Fabric.{switch_count}
use Rattle.fabric_mixtures.proofs.RowLemmas.{graph_kept}
use Rattle.fabric_mixtures.proofs.TurnLemmas.{one_to}
use Rattle.fabric_mixtures.proofs.follow.add_lids.Goals as goal

pub lids-preserved : goal.lids-preserved
lids-preserved c = record {
  grown = one_to c.args.fabric.now (tables_of c.args.old.now) (tables_of c.args.new.now) (switch_count c.args.fabric.now) c.lids.lid c.args.graph.now c.lids.graph c.add_lid.new.graph c.lids.invariant.grown c.add_lid.ensures;
  graph = graph_kept c.args.fabric.now c.lids.graph c.add_lid.new.graph c.add_lid.ensures.wide c.add_lid.ensures.bases c.lids.invariant.graph;
}
