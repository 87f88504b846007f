use Rattle.std.proofs.Common.{arith}
use Rattle.fabric_judge_call.proofs.WordLemmas.{no_said, settles}
use Rattle.fabric_judge_call.proofs.words.call_of.Goals as goal

pub returns-clause-call : goal.returns-clause-call
returns-clause-call c =
    settles c.args.words.now c.first-item.result c.first-item.is (omega (arith, c.in-len1-up.len_at_least)) c.in_ok-said.said c.in_ok-said.ensures c.in_ok-task.task c.in_ok-task.ensures.0 c.in_ok-task.ensures.1 c.settled.result c.settled.ensures.call

pub returns-in_err-said-clause-call : goal.returns-in_err-said-clause-call
returns-in_err-said-clause-call c = rw c.from_residual.ensures (no_said c.args.words.now c.in_err-said.ensures)
