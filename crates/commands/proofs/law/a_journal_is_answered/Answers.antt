use Rattle.commands.proofs.CompleteLemmas.{legal_is_named, legal_is_replayed}
use Rattle.commands.proofs.law.a_journal_is_answered.Goals as goal

pub returns-clause-replay : goal.returns-clause-replay
returns-clause-replay c = λ answer bytes after script journal end old new input is_journal legal. legal_is_replayed bytes after script journal end input is_journal legal answer old new

pub returns-clause-names : goal.returns-clause-names
returns-clause-names c = λ answer bytes after script journal end old new input is_journal legal. legal_is_named bytes after script journal end input is_journal legal answer old new
