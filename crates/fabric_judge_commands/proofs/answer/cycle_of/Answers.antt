use Rattle.std.proofs.Common.{subst, sym, List}
use Rattle.fabric_verdict.specs.declared.verdict.LoopChannel.{LoopChannel}
use Rattle.fabric_verdict.specs.Verdict.{HasRanks, IsVerdict}
use Rattle.fabric_judge_commands.specs.Judged.{IsLoop}
use Rattle.fabric_judge_commands.proofs.EndLemmas.{loop_is}
use Rattle.fabric_judge_commands.proofs.answer.cycle_of.Goals as goal

pub returns-in-Cycle : goal.returns-in-Cycle
returns-in-Cycle c fabric tables traffic is = subst (λ (found : List LoopChannel). IsLoop fabric tables traffic found) (sym c.deref.ensures.value) (loop_is fabric tables traffic c.in-Cycle.channels.items (subst (IsVerdict fabric tables traffic) c.in-Cycle.is is.verdict))

pub returns-in-Ranks : goal.returns-in-Ranks
returns-in-Ranks c fabric tables traffic is =
    let ranks : HasRanks fabric tables traffic c.in-Ranks.ranks.items = subst (IsVerdict fabric tables traffic) c.in-Ranks.is is.verdict in
    ranks.no_cycle
