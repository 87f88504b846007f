-- The answer of a command: a status that came about by its cause, and was told.

use Rattle.std.specs.Prelude.{◌≡◌, ◌^◌, ℕ, List, Result}
use Rattle.std.specs.Result.{IsErrAnd, IsOkAnd}
use Rattle.outside.specs.Told.{Seen, Gains, GainsFront, IsKept, Failed}
use Rattle.common_lines.specs.declared.stop.Refusal.{Refusal}
use Rattle.common_lines.specs.declared.stop.Refusal.TheVariants as topology_refusal
use Rattle.common_call.specs.declared.input.Unread.{Unread}
use Rattle.common_call.specs.declared.input.Unread.TheVariants as no_input
use Rattle.common_call.specs.Inputs.{IsInput, IsUnread}
use Rattle.fabric_model.specs.Fabric.{FabricOf}
use Rattle.fabric_read_topology.specs.declared.cause.FabricCause.{FabricCause}
use Rattle.fabric_read_topology.specs.Fabrics.{IsFabricText, IsFault}
use Rattle.fabric_read_lines.specs.declared.reader.TextRefusal.{TextRefusal}
use Rattle.fabric_read_lines.specs.declared.reader.TextRefusal.TheVariants as tables_refusal
use Rattle.fabric_read_tables.specs.declared.cause.TablesCause.{TablesCause}
use Rattle.fabric_read_tables.specs.declared.reader.Tables.{Tables}
use Rattle.fabric_read_tables.specs.Reads.{GaveTables, IsRefusedBy}
use Rattle.fabric_call.specs.declared.command.Given.{Given}
use Rattle.fabric_call.specs.declared.status.Status.{Status}
use Rattle.fabric_call.specs.declared.status.Status.TheVariants.{Ok, Usage, TopologyRefused, TopologyTooLong, TablesRefused, ReadFault, WriteFault, RoutesLost, Cycle, OutOfMemory}
use Rattle.fabric_call.specs.declared.status.Status.TheVariants.{RanksRefused, RanksRise}
use Rattle.fabric_call.specs.Status.{IsToldOf}

-- the sources of a call at one moment
pub record Sources : Type 0 where
  pub topology : Seen
  pub tables : Seen

abbrev pub sources : (topology tables : Seen) → Sources
sources topology tables = record { topology = topology; tables = tables }

-- they and the sinks
pub record Streams : Type 0 where
  pub read : Sources
  pub out : Seen
  pub err : Seen

abbrev pub streams : (topology tables out err : Seen) → Streams
streams topology tables out err = record { read = sources topology tables; out = out; err = err }

-- the most bytes of a topology
abbrev pub topology_limit : ℕ
topology_limit = 2 ^ 28

-- for the text of a topology, its fabric and tables: the status with which a command ends, and what it writes
abbrev pub Gives : Type 1
Gives = List ℕ → FabricOf → Tables → Status → List ℕ → Type 0

-- a source was read to its end, and its bytes are the text of this fabric
abbrev pub GaveFabric : (old new : Seen) (text : List ℕ) → FabricOf → Type 0
GaveFabric old new text fabric =
    IsInput topology_limit (λ bytes. (bytes ≡ text) × IsFabricText bytes fabric) old new

-- the status of a topology that was not read
abbrev pub unread_as : Unread → Status
unread_as no_input.Fault = ReadFault
unread_as (no_input.TooLong line) = TopologyTooLong line
unread_as no_input.OutOfMemory = OutOfMemory

-- why there is no fabric: it was not read; the first fault of its text; or want of memory
pub data IsNoFabric (old new : Seen) (status : Status) : Type 0 where
  unread : (why : Unread) → status ≡ unread_as why → IsUnread topology_limit old new why → IsNoFabric old new status
  refused : (line : ℕ) (cause : FabricCause) → status ≡ TopologyRefused line cause
      → IsInput topology_limit (λ bytes. IsFault bytes line cause) old new → IsNoFabric old new status
  want : status ≡ OutOfMemory → IsNoFabric old new status

-- the status of a topology that is refused, and of tables that are
abbrev pub fabric_refused : Refusal FabricCause → Status
fabric_refused (topology_refusal.Fault line cause) = TopologyRefused line cause
fabric_refused topology_refusal.OutOfMemory = OutOfMemory

abbrev pub tables_refused : TextRefusal TablesCause → Status
tables_refused (tables_refusal.Fault line cause) = TablesRefused line cause
tables_refused tables_refusal.ReadFault = ReadFault
tables_refused tables_refusal.OutOfMemory = OutOfMemory

-- the source of tables of a fabric was refused
pub record AreNoTables (old new : Sources) (status : Status) : Type 0 where
  pub text : List ℕ
  pub fabric : FabricOf
  pub gave : GaveFabric old.topology new.topology text fabric
  pub refusal : TextRefusal TablesCause
  pub refused : IsRefusedBy fabric old.tables new.tables refusal
  pub status_is : status ≡ tables_refused refusal

-- why there is no text to be written: there is no fabric, and the tables were not looked at; there are no tables of it;
-- or memory is wanting
pub data IsStop (old new : Sources) (status : Status) : Type 0 where
  no_fabric : IsNoFabric old.topology new.topology status → new.tables ≡ old.tables → IsStop old new status
  no_tables : AreNoTables old new status → IsStop old new status
  wanting : status ≡ OutOfMemory → IsStop old new status

-- the statuses with which a command may end that has read both sources; with `RanksRefused` it refuses a file
-- of its own
abbrev pub IsEnding : Status → Type 0
IsEnding Ok = Unit {0}
IsEnding RoutesLost = Unit {0}
IsEnding Cycle = Unit {0}
IsEnding RanksRise = Unit {0}
IsEnding (RanksRefused line cause) = Unit {0}
IsEnding status = ⊥

-- both sources were read to their ends, and this is given for them
pub record IsGiven (gives : Gives) (old new : Sources) (status : Status) (written : List ℕ) : Type 0 where
  pub text : List ℕ
  pub fabric : FabricOf
  pub found : Tables
  pub gave : GaveFabric old.topology new.topology text fabric
  pub tables : GaveTables fabric old.tables new.tables found
  pub given : gives text fabric found status written
  pub ends : IsEnding status

-- the text that is found was written
pub record IsWritten (found : Status → List ℕ → Type 0) (out out' : Seen) (status : Status) : Type 0 where
  pub written : List ℕ
  pub given : found status written
  pub gains : Gains out out' written

-- out failed, and has a front of the text
pub record IsCutOff (found : Status → List ℕ → Type 0) (out out' : Seen) : Type 0 where
  pub end : Status
  pub written : List ℕ
  pub given : found end written
  pub gains : GainsFront out out' written
  pub failed : Failed out out'

-- The cause of a status, if this is found or nothing for such a cause, and what out gained: the text, a front of it if
-- out failed, and else nothing.
pub data IsCause (found : Status → List ℕ → Type 0) (none : Status → Type 0) (out out' : Seen) (status : Status)
    : Type 0 where
  written : IsWritten found out out' status → IsCause found none out out' status
  cut : status ≡ WriteFault → IsCutOff found out out' → IsCause found none out out' status
  stopped : none status → IsKept out out' → IsCause found none out out' status

-- the answer to a call: a status came about by its cause, and was told
pub record IsAnswerBy (found : Status → List ℕ → Type 0) (none : Status → Type 0) (out out' err err' : Seen)
    (answer : ℕ)
    : Type 0 where
  pub status : Status
  pub cause : IsCause found none out out' status
  pub told : IsToldOf err err' status answer

-- what was found: this status and this text, or nothing, and this status says why
abbrev pub WasFound : Result Given Status → Status → List ℕ → Type 0
WasFound found status text = IsOkAnd found (λ given. (status ≡ given.status) × (text ≡ given.text.items))

abbrev pub WasNone : Result Given Status → Status → Type 0
WasNone found status = IsErrAnd found (λ why. status ≡ why)

-- that of a command
abbrev pub IsAnswer : Gives → (old new : Streams) → (answer : ℕ) → Type 0
IsAnswer gives old new answer =
    IsAnswerBy (IsGiven gives old.read new.read) (IsStop old.read new.read) old.out new.out old.err new.err answer

-- the answer to words that are no call: the sources and out are left alone
pub record IsUsageAnswer (old new : Streams) (answer : ℕ) : Type 0 where
  pub read : new.read ≡ old.read
  pub out : new.out ≡ old.out
  pub told : IsToldOf old.err new.err Usage answer
