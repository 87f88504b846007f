use Rattle.std.proofs.Common.{subst, sym, List}
use Rattle.fabric_mixtures.specs.declared.judge.LoopChannel.{LoopChannel}
use Rattle.fabric_mixtures.specs.Verdict.{HasRanks, IsVerdict}
use Rattle.fabric_between_command.specs.Judged.{IsLoop}
use Rattle.fabric_between_command.proofs.EndLemmas.{loop_is}
use Rattle.fabric_between_command.proofs.answer.cycle_of.Goals as goal

pub returns-in-Cycle : goal.returns-in-Cycle
returns-in-Cycle c fabric old new is = subst (λ (found : List LoopChannel). IsLoop fabric old new found) (sym c.deref.ensures.value) (loop_is fabric old new c.in-Cycle.channels.items (subst (IsVerdict fabric old new) c.in-Cycle.is is.verdict).0)

pub returns-in-Ranks : goal.returns-in-Ranks
returns-in-Ranks c fabric old new is =
    let ranks : HasRanks fabric old new c.in-Ranks.ranks.items = subst (IsVerdict fabric old new) c.in-Ranks.is is.verdict in
    ranks.no_cycle
