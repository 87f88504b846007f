use Rattle.an_base.proofs.OrderLaws.{position_total}
use Rattle.an_base.proofs.law.positions_are_ordered.Goals as goal

pub returns-clause-total : goal.returns-clause-total
returns-clause-total c = position_total
