-- The seats of a run, through its rounds, and what their callers have reported in the end.

use Rattle.std.specs.Prelude.{◌≡◌, ◌+◌, ◌-◌, ◌⊎◌, ◌<◌, ℕ, List, length, Option, Some, slice_index_or}
use mathlib.Core.Option.{some}
use lib.ListN.{get_elem?}
use Rattle.an_base.specs.declared.event.Event.{Event}
use Rattle.net_script.specs.Scripts.{ScriptOf}
use Rattle.net_state.specs.declared.ending.Ending.{Ending}
use Rattle.net_world.specs.Accounts.{account_of}
use Rattle.net_world.specs.Histories.{owner_of}
use Rattle.fabric_book.specs.Accounts.{HasAccount}
use Rattle.fabric_book.specs.declared.account.Account.{Account}
use Rattle.fabric_turn.specs.Calls.{DifferByCalls}
use Rattle.fabric_turn.specs.History.{Extends, own_entries}
use Rattle.fabric_turn.specs.Rule.{first_view}
use Rattle.fabric_turn.specs.Seats.{HasAllNumbers, HasOneNumber, ended_caller}
use Rattle.fabric_turn.specs.Turnstiles.{TurnstileId}
use Rattle.fabric_turn.specs.declared.view.View.{View}

-- a seat: the name of its turnstile, and what it knows
abbrev pub SeatOf : Type 0
SeatOf = TurnstileId × View Event ScriptOf

-- what contracts see of the driver: its seat, and the end that it was given
pub record DriverOf : Type 0 where
  pub seat : SeatOf
  pub end : Option Ending

-- the number of callers: a worker for each switch, and the driver
abbrev pub callers_of : ScriptOf → ℕ
callers_of script = length script.wires.switches + 1

-- the first seat of a run, and that seat once it has given each worker a number
abbrev pub first_seat : TurnstileId → ScriptOf → SeatOf
first_seat turnstile script = (turnstile, first_view (callers_of script) script)

abbrev pub driver_seat : TurnstileId → ScriptOf → SeatOf
driver_seat turnstile script =
    (turnstile, record (first_view (callers_of script) script) { next = callers_of script })

-- `seat` belongs to this turnstile, which was started with `script`, and has `number` and no other number
pub record IsSeatOf (turnstile : TurnstileId) (script : ScriptOf) (number : ℕ) (seat : SeatOf) : Type 0 where
  pub turnstile_is : seat.0 ≡ turnstile
  pub begun : seat.1.start ≡ Some script
  pub number_is : seat.1.number ≡ number
  pub one : HasOneNumber (callers_of script) seat.1

-- the seats of the workers, in the order of the script
abbrev pub AreWorkers : TurnstileId → ScriptOf → List SeatOf → Type 0
AreWorkers turnstile script seats = (index : ℕ) (seat : SeatOf) → index < length seats
    → IsSeatOf turnstile script (index + 1) (slice_index_or seats index seat)

-- `seat` belongs to this turnstile and has all numbers
pub record IsWhole (turnstile : TurnstileId) (script : ScriptOf) (seat : SeatOf) : Type 0 where
  pub turnstile_is : seat.0 ≡ turnstile
  pub begun : seat.1.start ≡ Some script
  pub all : HasAllNumbers seat.1

-- the caller is the same, and what it has seen extends what it had seen
pub record HasSeenMore (before after : View Event ScriptOf) : Type 0 where
  pub number_is : after.number ≡ before.number
  pub mine_is : after.mine ≡ before.mine
  pub on : Extends before.seen after.seen

-- a seat made calls, or none
abbrev pub HasCalled : SeatOf → SeatOf → Type 0
HasCalled before after = (after.0 ≡ before.0) × DifferByCalls before.1 after.1

-- each of these seats made calls, or none
abbrev pub HaveCalled : List SeatOf → List SeatOf → Type 0
HaveCalled before after = (index : ℕ) (seat : SeatOf) → index < length before
    → HasCalled (slice_index_or before index seat) (slice_index_or after index seat)

-- the account has all events of the caller of a seat that are in what the seat has seen
abbrev pub IsToldAt : SeatOf → Account → Type 0
IsToldAt seat account = (own_entries owner_of seat.1.seen seat.1.number ≡ seat.1.mine)
    × ((script : ScriptOf) → seat.1.start ≡ Some script
    → HasAccount (account_of script seat.1.number seat.1.seen) account)

-- a seat has these entries of the caller with a number: its own entries, or those of an ended caller
abbrev pub HasEntries : View Event ScriptOf → ℕ → List Event → Type 0
HasEntries view number mine = ((number ≡ view.number) × (mine ≡ view.mine))
    ⊎ ((index : ℕ) × (get_elem? view.ended index ≡ some (ended_caller number mine)))

-- `account` has all events of the caller `number`, as a seat knows: the entries that it has of the caller are all
-- in what the caller had seen, which the seat's history extends.
pub record IsToldBy (script : ScriptOf) (view : View Event ScriptOf) (number : ℕ) (account : Account)
    : Type 0 where
  pub mine : List Event
  pub has : HasEntries view number mine
  pub seen : List Event
  pub on : Extends seen view.seen
  pub own : own_entries owner_of seen number ≡ mine
  pub account_is : HasAccount (account_of script number seen) account

-- the accounts of the workers, from the last one down
abbrev pub AreToldDown : ScriptOf → View Event ScriptOf → List Account → Type 0
AreToldDown script view accounts = (index : ℕ) (account : Account) → index < length accounts
    → IsToldBy script view (length script.wires.switches - index) (slice_index_or accounts index account)

-- the accounts of all callers, in the order of their numbers
abbrev pub AreToldBy : ScriptOf → View Event ScriptOf → List Account → Type 0
AreToldBy script view accounts = (length accounts ≡ callers_of script)
    × ((number : ℕ) (account : Account) → number < length accounts
    → IsToldBy script view number (slice_index_or accounts number account))
