use Rattle.an_base.proofs.OrderLaws.{entry_total, entry_apart}
use Rattle.an_base.proofs.law.entries_are_ordered.Goals as goal

pub returns-clause-total : goal.returns-clause-total
returns-clause-total c = entry_total

pub returns-clause-apart : goal.returns-clause-apart
returns-clause-apart c = entry_apart
