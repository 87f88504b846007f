use Rattle.std.proofs.Common.{subst}
use Rattle.fabric_mixtures.specs.Verdict.{IsVerdict}
use Rattle.fabric_between_command.proofs.EndLemmas.{cycle_ends}
use Rattle.fabric_between_command.proofs.answer.status_of.Goals as goal

pub returns-in-Cycle : goal.returns-in-Cycle
returns-in-Cycle c fabric old new is = cycle_ends fabric old new c.in-Cycle.channels.items (subst (IsVerdict fabric old new) c.in-Cycle.is is.verdict).0

pub returns-in-Ranks : goal.returns-in-Ranks
returns-in-Ranks c fabric old new is = (c.in-Ranks.ranks.items, subst (IsVerdict fabric old new) c.in-Ranks.is is.verdict)
