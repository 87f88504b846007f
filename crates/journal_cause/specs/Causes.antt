use Rattle.std.specs.Prelude.{ℕ, List, codes}
use Rattle.journal_cause.specs.declared.cause.JournalCause.{JournalCause}
use Rattle.journal_cause.specs.declared.cause.JournalCause.TheVariants.{BadHeader, UnknownWord, BadNumber}
use Rattle.journal_cause.specs.declared.cause.JournalCause.TheVariants.{NoSuchName, NotLawful, NoEnd, Unfinished}

-- The words for the errors in a journal.

-- the words for an error
abbrev pub cause_text : JournalCause → List ℕ
cause_text BadHeader = codes "bad header"
cause_text UnknownWord = codes "unknown word"
cause_text BadNumber = codes "bad number"
cause_text NoSuchName = codes "no such name"
cause_text NotLawful = codes "not lawful"
cause_text NoEnd = codes "no end"
cause_text Unfinished = codes "unfinished"
