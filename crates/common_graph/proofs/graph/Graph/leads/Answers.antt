use Rattle.std.proofs.Common.{arith}
use Rattle.std.proofs.lemmas.Bool.{false≢true}
use Rattle.common_graph.proofs.CursorLemmas.{next_is}
use Rattle.common_graph.proofs.graph.Graph.leads.Goals as goal

pub returns-in-Some : goal.returns-in-Some
returns-in-Some c = next_is c.args.self.now c.args.node c.args.other c.in-Some.next c.in-Some.ensures.next

pub returns-in-None : goal.returns-in-None
returns-in-None c = (λ never. absurd (false≢true never), λ leads. absurd (c.in-None.ensures.next c.args.other (omega arith) leads))
