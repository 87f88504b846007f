use Rattle.std.proofs.Common.{subst}
use Rattle.fabric_verdict.specs.Verdict.{IsVerdict}
use Rattle.fabric_judge_commands.proofs.EndLemmas.{cycle_ends}
use Rattle.fabric_judge_commands.proofs.answer.status_of.Goals as goal

pub returns-in-Cycle : goal.returns-in-Cycle
returns-in-Cycle c fabric tables traffic is = cycle_ends fabric tables traffic c.in-Cycle.channels.items (subst (IsVerdict fabric tables traffic) c.in-Cycle.is is.verdict)
