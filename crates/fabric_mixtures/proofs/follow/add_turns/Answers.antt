use Rattle.std.proofs.Common.{◌∙◌, sym}
use Rattle.fabric_tables.specs.Cells.{tables_of}
use Rattle.fabric_mixtures.proofs.TurnLemmas.{both_ways, no_port, no_way, same_way}
use Rattle.fabric_mixtures.proofs.follow.add_turns.Goals as goal

pub returns-then-is_none-2 : goal.returns-then-is_none-2
returns-then-is_none-2 c = no_way c.args.fabric.now (tables_of c.args.old.now) (tables_of c.args.new.now) c.args.lid c.args.at c.args.graph.now (no_port _ _ c.is_none.result c.port_for-was.ensures c.is_none.ensures c.if-is_none.true) (no_port _ _ c.is_none-then-is_none.result c.port_for-is.ensures c.is_none-then-is_none.ensures c.if-is_none-2.true)

pub returns-then-are_same : goal.returns-then-are_same
returns-then-are_same c = same_way c.args.fabric.now (tables_of c.args.old.now) (tables_of c.args.new.now) c.args.lid c.args.at c.args.graph.now c.add_from.new.graph (sym c.port_for-was.ensures ∙ c.are_same.ensures.0 c.if-are_same.true ∙ c.port_for-is.ensures) c.add_from.ensures

pub returns : goal.returns
returns c = both_ways c.args.fabric.now (tables_of c.args.old.now) (tables_of c.args.new.now) c.args.lid c.args.at c.args.graph.now c.add_from.new.graph c.add_from-2.new.graph c.add_from.ensures c.add_from-2.ensures
