use Rattle.std.proofs.Common.{subst}
use Rattle.fabric_mixtures.specs.Verdict.{IsVerdict}
use Rattle.fabric_between_command.proofs.EndLemmas.{looped_told, none_told}
use Rattle.fabric_between_command.proofs.answer.looped_of.Goals as goal

pub returns-in-Cycle : goal.returns-in-Cycle
returns-in-Cycle c fabric old new found is loop = looped_told fabric old new c.in-Cycle.channels.items found c.in-Cycle.looped (subst (IsVerdict fabric old new) c.in-Cycle.is is.verdict) loop

pub returns-in-Ranks : goal.returns-in-Ranks
returns-in-Ranks c fabric old new found is loop = none_told fabric old new c.in-Ranks.ranks.items (subst (IsVerdict fabric old new) c.in-Ranks.is is.verdict) found loop
