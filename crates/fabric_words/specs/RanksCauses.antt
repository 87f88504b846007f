-- The words for the reasons for which a text of ranks is rejected.
use Rattle.std.specs.Prelude.{ℕ, List, codes}
use Rattle.fabric_words.specs.declared.ranks_cause.RanksCause.{RanksCause}
use Rattle.fabric_words.specs.declared.ranks_cause.RanksCause.TheVariants.{LineTooLong, UnknownLine, BadGuid, BadPort, BadRank}
use Rattle.fabric_words.specs.declared.ranks_cause.RanksCause.TheVariants.{OutOfPlace, UnknownSwitch, NoChannel, RankTold, NoHead}

abbrev pub cause_text : RanksCause → List ℕ
cause_text LineTooLong = codes "line too long"
cause_text UnknownLine = codes "unknown line"
cause_text BadGuid = codes "bad guid"
cause_text BadPort = codes "bad port"
cause_text BadRank = codes "bad rank"
cause_text OutOfPlace = codes "out of place"
cause_text UnknownSwitch = codes "unknown switch"
cause_text NoChannel = codes "no channel"
cause_text RankTold = codes "rank told"
cause_text NoHead = codes "no head"
