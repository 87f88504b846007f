use Rattle.topo_graph.proofs.PlaceLemmas.{place_there}
use Rattle.topo_graph.proofs.graph.Graph.place.Goals as goal

pub returns-clause-found : goal.returns-clause-found
returns-clause-found c = rw (c.place.ensures, c.as_slice.ensures.all, c.entries.ensures.all) (place_there c.args.self.now c.args.life c.entries.ensures.graph.rising)
