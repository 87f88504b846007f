use Rattle.fabric_tables.specs.Cells.{tables_of}
use Rattle.fabric_mixtures.proofs.TurnLemmas.{each_way}
use Rattle.fabric_mixtures.proofs.follow.add_from.Goals as goal

pub returns : goal.returns
returns c = each_way c.args.fabric.now (tables_of c.args.old.now) (tables_of c.args.new.now) (tables_of c.args.first.now) c.args.lid c.args.at c.args.graph.now c.add_turn.new.graph c.add_turn-2.new.graph c.add_turn.ensures c.add_turn-2.ensures
