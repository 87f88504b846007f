use Rattle.journal.proofs.FaultLemmas.{one_fault}
use Rattle.journal.proofs.law.one_fault.Goals as goal

pub returns : goal.returns
returns c = one_fault
