use Rattle.journal.proofs.JournalLemmas.{one_journal}
use Rattle.journal.proofs.law.one_journal.Goals as goal

pub returns : goal.returns
returns c = one_journal
