-- What C sees of a switch.

use Rattle.std.specs.Prelude.{◌≡◌, ◌↔◌, ℕ, ◌-◌, length, slice_get, slice_index, Contains, Option, None, Some, Bool, true, false, if◌then◌else◌}
use Rattle.std.specs.Int.{bit_at}
use Rattle.std.specs.Option.{option_map_or}
use Rattle.an_base.specs.Values.{EndId, EntryOf, TopoOf}
use Rattle.an_base.specs.Ports.{PortViewOf}
use Rattle.an_base.specs.Rows.{RowOf}
use Rattle.an_base.specs.declared.port.PortState.{PortState}
use Rattle.an_base.specs.declared.port.PortState.TheVariants as state
use Rattle.switch_core.specs.Switch.{SwitchOf, finish_of, note_of}
use Rattle.switch_core.specs.Kept.{StandsFor, carried, is_spent}
use Rattle.switch_c.specs.declared.shown.Shown.{Shown}
use Rattle.switch_c.specs.declared.shown.PortShown.{PortShown}
use Rattle.switch_c.specs.declared.shown.RowShown.{RowShown}
use Rattle.switch_c.specs.declared.shown.MemberShown.{MemberShown}
use Rattle.switch_c.specs.declared.status.Status.{Status}
use Rattle.switch_c.specs.declared.status.Status.TheVariants.{Done, Argument, NoMore}
use Rattle.switch_c.specs.declared.instance.Instance.{Instance}
use Rattle.switch_c.specs.Calls.{is_port}

abbrev pub flag_of : Bool → ℕ
flag_of is = if is then 1 else 0

-- the number of members that the switch has finished with
abbrev pub member_count : Option TopoOf → ℕ
member_count topo = option_map_or (λ it. length it.entries) topo 0

-- the epoch of the table that was loaded last, and the short address of the switch in it; 0 before
-- the first table
abbrev pub table_epoch_of : Instance → ℕ
table_epoch_of instance = option_map_or (λ it. it.epoch) instance.loaded 0

abbrev pub number_of : Instance → ℕ
number_of instance = option_map_or (λ it. it.table.number) instance.loaded 0

-- `shown` is what the switch of `instance` shows of itself
pub record IsShown (instance : Instance) (shown : Shown) : Type 0 where
  pub epoch : (switch : SwitchOf) → StandsFor instance.switch switch → shown.epoch ≡ switch.epoch
  pub table_epoch : shown.table_epoch ≡ table_epoch_of instance
  pub works : shown.works ≡ instance.switch.works
  pub carried_is : shown.carried ≡ carried instance.switch
  pub members : (switch : SwitchOf) → StandsFor instance.switch switch
      → shown.members ≡ member_count (finish_of switch)
  pub number : shown.number ≡ number_of instance
  pub load_due : (switch : SwitchOf) → StandsFor instance.switch switch
      → shown.load_due ≡ flag_of switch.load_due
  pub unacked : (switch : SwitchOf) → StandsFor instance.switch switch
      → shown.unacked ≡ flag_of (note_of switch).unacked
  pub spent : shown.spent ≡ flag_of (is_spent instance.switch)
  pub noframe : shown.noframe ≡ flag_of instance.out.noframe
  pub lost : shown.lost ≡ flag_of instance.lost

-- the call is done, and `shown` is what C sees of the switch
pub record Shows (shown : Shown) (instance : Instance) (status : Status) : Type 0 where
  pub done : status ≡ Done
  pub is_shown : IsShown instance shown

-- the number of a port state in C
abbrev pub state_of : PortState → ℕ
state_of state.Dead = 0
state_of state.Checking = 1
state_of state.Host = 2
state_of state.Who = 3
state_of state.Loop = 4
state_of state.Good = 5

-- what a switch takes the other end of a port to be; zeros if it knows none
abbrev pub IsPeerShown : Option EndId → PortShown → Type 0
IsPeerShown None shown = (shown.uid ≡ 0) × ((shown.boot ≡ 0) × (shown.port ≡ 0))
IsPeerShown (Some peer) shown =
    (shown.uid ≡ peer.life.uid) × ((shown.boot ≡ peer.life.boot) × (shown.port ≡ peer.port))

-- the number of the port's state, and the other end
pub record IsPortShown (view : PortViewOf) (shown : PortShown) : Type 0 where
  pub state_is : shown.state ≡ state_of view.state
  pub peer : IsPeerShown view.peer shown

-- C asks for a port
pub record AsksPort (port : ℕ) (shown told : PortShown) (instance : Instance) (status : Status) : Type 0 where
  pub argument : is_port port ≡ false → (status ≡ Argument) × (told ≡ shown)
  pub done : is_port port ≡ true → status ≡ Done
  pub tells : is_port port ≡ true → (switch : SwitchOf) → StandsFor instance.switch switch
      → (view : PortViewOf) × (slice_get (note_of switch).ports (port - 1) ≡ Some view)
      × IsPortShown view told

-- a row of a table: bit p of the exits says that port p is one
pub record IsRowShown (row : RowOf) (shown : RowShown) : Type 0 where
  pub exits : (port : ℕ) → (bit_at shown.exits port ≡ 1) ↔ Contains row.exits port
  pub entry : shown.entry ≡ row.entry
  pub to : shown.to ≡ row.to

-- the row at an index of the table that was loaded last
abbrev pub row_at : Instance → ℕ → Option RowOf
row_at instance place = option_map_or (λ it. slice_get it.table.rows place) instance.loaded None

-- C asks for the row at the index `place`; if there is none, nothing is written
pub record AsksRow (place : ℕ) (shown told : RowShown) (instance : Instance) (status : Status) : Type 0 where
  pub none : row_at instance place ≡ None → (status ≡ NoMore) × (told ≡ shown)
  pub some : (row : RowOf) → row_at instance place ≡ Some row → (status ≡ Done) × IsRowShown row told

-- the member at an index of what the switch has finished with, and its short address
abbrev pub entry_at : SwitchOf → ℕ → Option EntryOf
entry_at switch place = option_map_or (λ it. slice_get it.entries place) (finish_of switch) None

abbrev pub number_at : SwitchOf → ℕ → Option ℕ
number_at switch place = option_map_or (λ it. slice_get it.numbers place) (finish_of switch) None

-- the identifier, the boot and the short address of the member at the index `place`
pub record IsMemberShown (switch : SwitchOf) (place : ℕ) (shown : MemberShown) : Type 0 where
  pub entry : EntryOf
  pub at : entry_at switch place ≡ Some entry
  pub uid : shown.uid ≡ entry.life.uid
  pub boot : shown.boot ≡ entry.life.boot
  pub number : number_at switch place ≡ Some shown.number

-- C asks for the member at the index `place`; if there is none, nothing is written
pub record AsksMember (place : ℕ) (shown told : MemberShown) (instance : Instance) (status : Status)
    : Type 0 where
  pub none : (switch : SwitchOf) → StandsFor instance.switch switch → entry_at switch place ≡ None
      → (status ≡ NoMore) × (told ≡ shown)
  pub some : (switch : SwitchOf) → StandsFor instance.switch switch → (entry : EntryOf)
      → entry_at switch place ≡ Some entry → (status ≡ Done) × IsMemberShown switch place told
