use Rattle.journal.proofs.EitherLemmas.{journal_or_fault}
use Rattle.journal.proofs.law.journal_or_fault.Goals as goal

pub returns : goal.returns
returns c = journal_or_fault
