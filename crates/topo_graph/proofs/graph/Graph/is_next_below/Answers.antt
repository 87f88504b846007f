use Rattle.std.proofs.Common.{ℕ, refl, arith}
use Rattle.topo_graph.specs.Stands.{IsAfter}
use Rattle.topo_graph.proofs.graph.Graph.is_next_below.Goals as goal

pub returns : goal.returns
returns c = (
  λ _. (c.in-Some.parent, record { parent = c.in-Some.ensures.parent; after = after }),
  λ _. refl,
)
  where
    after : (o : ℕ) → IsAfter c.args.self.now c.args.x c.in-Some.parent c.args.place.now o
    after o z q e = let within = c.in-Some.ensures.graph.within c.args.x o (z, q) e in c.ports.invariant o (omega arith) (omega arith) z q e
