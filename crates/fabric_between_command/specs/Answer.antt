-- The answer to a call of `between`.

use Rattle.std.specs.Prelude.{◌≡◌, ℕ, List}
use Rattle.outside.specs.Told.{Seen}
use Rattle.fabric_model.specs.Fabric.{FabricOf}
use Rattle.fabric_read_lines.specs.declared.reader.TextRefusal.{TextRefusal}
use Rattle.fabric_read_lines.specs.declared.reader.TextRefusal.TheVariants as refusal
use Rattle.fabric_read_tables.specs.declared.cause.TablesCause.{TablesCause}
use Rattle.fabric_read_tables.specs.declared.reader.Tables.{Tables}
use Rattle.fabric_read_tables.specs.Reads.{GaveTables, IsRefusedBy}
use Rattle.fabric_call.specs.declared.status.Status.{Status}
use Rattle.fabric_call.specs.declared.status.Status.TheVariants.{NewTablesRefused, OutOfMemory, ReadFault}
use Rattle.fabric_call.specs.Answer.{GaveFabric, IsAnswerBy, IsNoFabric, tables_refused}
use Rattle.fabric_between_command.specs.Judged.{IsBetween}

-- the sources of a call at one moment
pub record Sources : Type 0 where
  pub topology : Seen
  pub old : Seen
  pub new : Seen

abbrev pub sources : (topology old new : Seen) → Sources
sources topology old new = record { topology = topology; old = old; new = new }

-- the status of new tables that are refused
abbrev pub new_refused : TextRefusal TablesCause → Status
new_refused (refusal.Fault line cause) = NewTablesRefused line cause
new_refused refusal.ReadFault = ReadFault
new_refused refusal.OutOfMemory = OutOfMemory

-- the source of the old tables was refused, and that of the new ones was not looked at
pub record AreNoOldTables (was is : Sources) (status : Status) : Type 0 where
  pub text : List ℕ
  pub fabric : FabricOf
  pub gave : GaveFabric was.topology is.topology text fabric
  pub cause : TextRefusal TablesCause
  pub refused : IsRefusedBy fabric was.old is.old cause
  pub status_is : status ≡ tables_refused cause
  pub kept : is.new ≡ was.new

-- the old tables were read to their end, and the source of the new ones was refused
pub record AreNoNewTables (was is : Sources) (status : Status) : Type 0 where
  pub text : List ℕ
  pub fabric : FabricOf
  pub old : Tables
  pub gave : GaveFabric was.topology is.topology text fabric
  pub gave_old : GaveTables fabric was.old is.old old
  pub cause : TextRefusal TablesCause
  pub refused : IsRefusedBy fabric was.new is.new cause
  pub status_is : status ≡ new_refused cause

-- why there is no text to be written: there is no fabric, and no tables were looked at; the tables of a file are none;
-- or memory is wanting
pub data IsStop (was is : Sources) (status : Status) : Type 0 where
  no_fabric : IsNoFabric was.topology is.topology status → is.old ≡ was.old → is.new ≡ was.new → IsStop was is status
  no_old : AreNoOldTables was is status → IsStop was is status
  no_new : AreNoNewTables was is status → IsStop was is status
  wanting : status ≡ OutOfMemory → IsStop was is status

-- the sources were read to their ends, and this is given for them
pub record IsGiven (was is : Sources) (status : Status) (written : List ℕ) : Type 0 where
  pub text : List ℕ
  pub fabric : FabricOf
  pub old : Tables
  pub new : Tables
  pub gave : GaveFabric was.topology is.topology text fabric
  pub gave_old : GaveTables fabric was.old is.old old
  pub gave_new : GaveTables fabric was.new is.new new
  pub given : IsBetween text fabric old new status written

-- the answer to a call of `between`
abbrev pub IsBetweenAnswer : (was is : Sources) (out out' err err' : Seen) (answer : ℕ) → Type 0
IsBetweenAnswer was is = IsAnswerBy (IsGiven was is) (IsStop was is)
