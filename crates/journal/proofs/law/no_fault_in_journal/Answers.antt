use Rattle.journal.proofs.FaultLemmas.{no_fault}
use Rattle.journal.proofs.law.no_fault_in_journal.Goals as goal

pub returns : goal.returns
returns c = no_fault
