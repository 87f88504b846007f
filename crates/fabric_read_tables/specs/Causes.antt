use Rattle.std.specs.Prelude.{ℕ, List, codes}
use Rattle.fabric_read_tables.specs.declared.cause.TablesCause.{TablesCause}
use Rattle.fabric_read_tables.specs.declared.cause.TablesCause.TheVariants.{LineTooLong, UnknownLine, BadRow, BadGuid}
use Rattle.fabric_read_tables.specs.declared.cause.TablesCause.TheVariants.{LidRange, PortRange, UnknownSwitch}
use Rattle.fabric_read_tables.specs.declared.cause.TablesCause.TheVariants.{OutOfPlace, NoEnd}
use Rattle.fabric_read_tables.specs.declared.cause.TablesCause.TheVariants.{PortDiffers, TooMany}

-- The words for what is wrong with a text of tables.

-- the words for a cause
abbrev pub cause_text : TablesCause → List ℕ
cause_text LineTooLong = codes "line too long"
cause_text UnknownLine = codes "unknown line"
cause_text BadRow = codes "bad row"
cause_text BadGuid = codes "bad guid"
cause_text LidRange = codes "lid range"
cause_text PortRange = codes "port range"
cause_text UnknownSwitch = codes "unknown switch"
cause_text OutOfPlace = codes "out of place"
cause_text NoEnd = codes "no end"
cause_text PortDiffers = codes "port differs"
cause_text TooMany = codes "too many"
