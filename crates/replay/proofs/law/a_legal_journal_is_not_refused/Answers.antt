use Rattle.replay.proofs.ReplayLemmas.{legal_is_not_refused}
use Rattle.replay.proofs.law.a_legal_journal_is_not_refused.Goals as goal

pub returns : goal.returns
returns c = legal_is_not_refused
