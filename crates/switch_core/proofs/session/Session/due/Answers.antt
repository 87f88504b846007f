use Rattle.switch_core.proofs.ResendLemmas.{due_is_first}
use Rattle.switch_core.proofs.session.Session.due.Goals as goal

pub returns-clause-first : goal.returns-clause-first
returns-clause-first c t r is = due_is_first c.due.result c.args.self.now.sender t c.args.now c.due.ensures.out c.due.ensures.due c.due.ensures.least c.due.ensures.none is.0
