use Rattle.common_graph.proofs.graph.Graph.next.Goals as goal

pub returns-clause-next : goal.returns-clause-next
returns-clause-next c = rw c.cursor-cursor.ensures.from at c.advance.ensures.next
