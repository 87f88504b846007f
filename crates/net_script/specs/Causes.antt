use Rattle.std.specs.Prelude.{ℕ, List, codes}
use Rattle.net_script.specs.declared.cause.ScriptCause.{ScriptCause}
use Rattle.net_script.specs.declared.cause.ScriptCause.TheVariants.{NotAscii, BadHeader, UnknownWord}
use Rattle.net_script.specs.declared.cause.ScriptCause.TheVariants.{BadNumber, BadName, NameTwice, UidTwice}
use Rattle.net_script.specs.declared.cause.ScriptCause.TheVariants.{NoSuchName, PortRange, PortUsed, TooMany}
use Rattle.net_script.specs.declared.cause.ScriptCause.TheVariants.{TimesFall, NoEnd, AfterEnd, LineTooLong}
use Rattle.net_script.specs.declared.cause.ScriptCause.TheVariants.{NoLink, TablesShort}

-- The words for the errors in a script.

-- the words for an error
abbrev pub cause_text : ScriptCause → List ℕ
cause_text NotAscii = codes "not ascii"
cause_text BadHeader = codes "bad header"
cause_text UnknownWord = codes "unknown word"
cause_text BadNumber = codes "bad number"
cause_text BadName = codes "bad name"
cause_text NameTwice = codes "name twice"
cause_text UidTwice = codes "uid twice"
cause_text NoSuchName = codes "no such name"
cause_text PortRange = codes "port range"
cause_text PortUsed = codes "port used"
cause_text TooMany = codes "too many"
cause_text TimesFall = codes "times fall"
cause_text NoEnd = codes "no end"
cause_text AfterEnd = codes "after end"
cause_text LineTooLong = codes "line too long"
cause_text NoLink = codes "no link"
cause_text TablesShort = codes "tables short"
