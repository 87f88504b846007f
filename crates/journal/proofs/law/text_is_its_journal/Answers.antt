use Rattle.journal.proofs.JournalLemmas.{text_is}
use Rattle.journal.proofs.law.text_is_its_journal.Goals as goal

pub returns : goal.returns
returns c = text_is
