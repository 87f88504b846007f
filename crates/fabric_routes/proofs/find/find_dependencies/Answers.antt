use Rattle.fabric_tables.specs.Cells.{tables_of}
use Rattle.fabric_routes.proofs.ChannelLemmas.{all_found}
use Rattle.fabric_routes.proofs.find.find_dependencies.Goals as goal

pub returns-clause-graph : goal.returns-clause-graph
returns-clause-graph c = all_found c.args.fabric.now (tables_of c.args.cells.now) c.args.traffic c.in_ok-graph.graph c.add_dependencies.new.graph c.in_ok-stopped.stopped c.in_ok-graph.ensures.graph c.in_ok-graph.ensures.none c.in_ok-stopped.ensures
