-- The words for the reasons for which a text of lanes or service levels is rejected.
use Rattle.std.specs.Prelude.{ℕ, List, codes}
use Rattle.fabric_words.specs.declared.lane_cause.LaneCause.{LaneCause}
use Rattle.fabric_words.specs.declared.lane_cause.LaneCause.TheVariants.{LineTooLong, UnknownLine, BadRow}
use Rattle.fabric_words.specs.declared.lane_cause.LaneCause.TheVariants.{LidRange}
use Rattle.fabric_words.specs.declared.lane_cause.LaneCause.TheVariants.{UnknownSwitch, UnknownEnd, NoSuchPort}
use Rattle.fabric_words.specs.declared.lane_cause.LaneCause.TheVariants.{OutOfPlace, NoEnd, LanesDiffer, TooMany}

abbrev pub cause_text : LaneCause → List ℕ
cause_text LineTooLong = codes "line too long"
cause_text UnknownLine = codes "unknown line"
cause_text BadRow = codes "bad row"
cause_text LidRange = codes "lid range"
cause_text UnknownSwitch = codes "unknown switch"
cause_text UnknownEnd = codes "unknown end"
cause_text NoSuchPort = codes "no such port"
cause_text OutOfPlace = codes "out of place"
cause_text NoEnd = codes "no end"
cause_text LanesDiffer = codes "lanes differ"
cause_text TooMany = codes "too many"
