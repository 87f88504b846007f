-- How a worker and the driver follow the world: what each has fits the world after the history that its seat has
-- seen.

use Rattle.std.specs.Prelude.{◌≡◌, ◌+◌, ◌<◌, ◌≤◌, ℕ, List, length, Option, Some, IfSome, false, true}
use Rattle.an_base.specs.declared.event.Event.{Event}
use Rattle.net_script.specs.Scripts.{IsScript, ScriptOf}
use Rattle.switch_core.specs.Bytes.{OutOf}
use Rattle.switch_core.specs.Kept.{KeptOf, StandsFor}
use Rattle.switch_core.specs.Steps.{loaded}
use Rattle.switch_core.specs.Switch.{SwitchOf, note_of}
use Rattle.net_state.specs.declared.ending.Ending.{Ending}
use Rattle.net_state.specs.declared.hand.Hand.{Hand}
use Rattle.net_state.specs.declared.hand.Hand.TheVariants as hand
use Rattle.net_state.specs.declared.work.Work.{Work}
use Rattle.net_state.specs.declared.work.Work.TheVariants as work
use Rattle.net_state.specs.Fabric.{held_bytes, is_full_at, station}
use Rattle.net_world.specs.declared.ask.Done.{Done}
use Rattle.net_state.specs.declared.line.Line.{Line}
use Rattle.net_world.specs.Accounts.{account_of}
use Rattle.net_world.specs.World.{WorldOf, handled, start_of, world_after}
use Rattle.net_world.specs.Histories.{end_of, owner_of}
use Rattle.net_world.specs.Turns.{IsDone, IsToLoad}
use Rattle.fabric_book.specs.Accounts.{IsAccount}
use Rattle.fabric_book.specs.Nets.{IsStarted, IsSwitchKept, PowerOf, power_of, start_with}
use Rattle.fabric_book.specs.Told.{hand_lines}
use Rattle.fabric_book.specs.declared.account.Account.{Account}
use Rattle.net_world.specs.declared.ask.Parcel.{Parcel}
use Rattle.fabric_turn.specs.History.{own_entries}
use Rattle.fabric_turn.specs.declared.view.View.{View}
use Rattle.switch_threads.specs.declared.desk.Desk.{Desk}
use Rattle.switch_threads.specs.declared.desk.Next.{Next}
use Rattle.switch_threads.specs.declared.desk.Next.TheVariants as next
use Rattle.switch_threads.specs.declared.desk.Papers.{Papers}
use Rattle.switch_threads.specs.declared.desk.Pending.{Pending}
use Rattle.switch_threads.specs.declared.desk.Pending.TheVariants as pending
use Rattle.switch_threads.specs.declared.desk.Tale.{Tale}

-- what came of what a switch had in hand, with what the switch shows then
abbrev pub done_with : OutOf → SwitchOf → Done
done_with out switch =
    record { frames = out.frames; noframe = out.noframe; note = note_of switch; spent = switch.spent }

-- What a worker must ask for next fits the world, and its switch is the one at its index: as it is, or as it will
-- be once that is put or loaded.
abbrev pub IsPending : WorldOf → ℕ → KeptOf → Pending → Type 0
IsPending world place switch pending.Work =
    (is_full_at world.fabric place ≡ false) × StandsFor switch (world.switches place)
IsPending world place switch pending.Put =
    (is_full_at world.fabric place ≡ true) × StandsFor switch (handled place world).switch
IsPending world place switch (pending.Load sheet) =
    IsToLoad world place sheet.value.table
    (note_of (loaded sheet.value.table.table.number (world.switches place)))
    × StandsFor switch (loaded sheet.value.table.table.number (world.switches place))

-- all lines that report what a switch has in hand, once it is handled, except those about lost frames
abbrev pub lines_at_hand : WorldOf → ℕ → List Line
lines_at_hand world place =
    hand_lines place (station world.fabric place).hand (held_bytes world.fabric place) (world.switches place)
    (handled place world).switch

-- What a worker is to put, to show and to report fits what it must ask for: its note is what its switch then shows.
-- After handling it has what came of it, the lines, and space for the fate of each frame; for a table it has the
-- rows.
abbrev pub IsPrepared : WorldOf → ℕ → Parcel → Tale → Pending → Type 0
IsPrepared world place parcel tale pending.Work = parcel.done.note ≡ note_of (world.switches place)
IsPrepared world place parcel tale pending.Put =
    IsDone world place parcel.done
    × (tale.lines ≡ lines_at_hand world place) × (length parcel.puts.items ≡ length parcel.done.frames)
IsPrepared world place parcel tale (pending.Load sheet) =
    (parcel.done.note ≡ note_of (loaded sheet.value.table.table.number (world.switches place)))
    × (tale.rows.items ≡ sheet.value.table.table.rows)

-- `power` is what the switch at `place` of a script is started with.
pub record IsPowerAt (script : ScriptOf) (place : ℕ) (power : PowerOf) : Type 0 where
  pub kept : IsScript script
  pub within : place < length script.wires.switches
  pub power_is : power ≡ power_of script place

-- A worker keeps up with the world: its switch is of the present life at its index, after no more clocks and frames
-- than there were events, and what it must ask for next fits the world.
pub record KeepsUp (script : ScriptOf) (world : WorldOf) (place : ℕ) (power : PowerOf) (switch : KeptOf)
    (next : Pending) : Type 0 where
  pub powered : IsPowerAt script place power
  pub start : switch.start ≡ start_of script place (world.switches place).life.boot
  pub works : switch.works ≤ world.fabric.events
  pub fits : IsPending world place switch next

-- The switch has `hand` in hand, and has not handled it yet. If it is a frame, `buffer` has its bytes.
pub record HasInHand (script : ScriptOf) (world : WorldOf) (place : ℕ) (power : PowerOf) (switch : KeptOf)
    (buffer : List ℕ) (hand : Hand) : Type 0 where
  pub powered : IsPowerAt script place power
  pub full : is_full_at world.fabric place ≡ true
  pub hand_is : hand ≡ (station world.fabric place).hand
  pub kept : IsSwitchKept world place switch buffer
  pub more : switch.works < world.fabric.events

-- The desk and the papers of a worker, after a history, fit what the worker must ask for.
pub record IsUpTo (script : ScriptOf) (history : List Event) (desk : Desk) (papers : Papers) (next : Pending)
    : Type 0 where
  pub keeps_up : KeepsUp script (world_after script history) desk.s desk.power_on desk.switch.value next
  pub prepared : IsPrepared (world_after script history) desk.s papers.parcel.value desk.tale next

-- The desk and the papers of a worker, after a history, fit what its switch is to handle, before which it shows
-- what is noted.
pub record IsToHandle (script : ScriptOf) (history : List Event) (desk : Desk) (papers : Papers) (hand : Hand)
    : Type 0 where
  pub has : HasInHand script (world_after script history) desk.s desk.power_on desk.switch.value
      papers.letter.value.buffer hand
  pub note_is : papers.parcel.value.done.note ≡ note_of ((world_after script history).switches desk.s)

-- The work that a worker took fits: if it is nothing, so does what it must ask for; if it is a clock or a frame,
-- that is what it has in hand; if it is a restart, each switch that is started in the next life fits.
abbrev pub IsToDo : ScriptOf → List Event → Desk → Papers → Work → Type 0
IsToDo script history desk papers (work.Nothing reason) = IsUpTo script history desk papers desk.pending
IsToDo script history desk papers (work.Clock now samples) =
    IsToHandle script history desk papers (hand.Clock now samples)
IsToDo script history desk papers (work.Frame port) = IsToHandle script history desk papers (hand.Frame port)
IsToDo script history desk papers (work.Restart life) = (switch : KeptOf)
    → IsStarted (start_with desk.power_on life) switch
    → KeepsUp script (world_after script history) desk.s desk.power_on switch pending.Work

-- What a worker does next fits: it asks for something now or later, or does the work that it took.
abbrev pub IsNext : ScriptOf → List Event → Desk → Papers → Next → Type 0
IsNext script history desk papers next.Ask = IsUpTo script history desk papers desk.pending
IsNext script history desk papers next.Later = IsUpTo script history desk papers desk.pending
IsNext script history desk papers next.Do = IsToDo script history desk papers papers.letter.value.work

-- A caller has reported its events: its seat has all of them that are in what it has seen, and the account has
-- their lines.
pub record HasTold (script : ScriptOf) (view : View Event ScriptOf) (account : Account) : Type 0 where
  pub own : own_entries owner_of view.seen view.number ≡ view.mine
  pub account_is : IsAccount (account_of script view.number view.seen) account

-- The worker of a seat: the seat's number is that of its index, plus one; what `Fits` says of the history that the
-- seat has seen holds; and the worker has reported its events.
pub record IsWorker (view : View Event ScriptOf) (desk : Desk) (Fits : ScriptOf → List Event → Type 0)
    : Type 0 where
  pub script : ScriptOf
  pub begun : view.start ≡ Some script
  pub number : view.number ≡ desk.s + 1
  pub fits : Fits script view.seen
  pub told : HasTold script view desk.tale.account

-- The worker asks for something that fits.
abbrev pub IsAsking : View Event ScriptOf → Desk → Papers → Pending → Type 0
IsAsking view desk papers next = IsWorker view desk (λ script history. IsUpTo script history desk papers next)

-- What the worker does next fits.
abbrev pub IsInStep : View Event ScriptOf → Desk → Papers → Next → Type 0
IsInStep view desk papers then = IsWorker view desk (λ script history. IsNext script history desk papers then)

-- The driver has the number 0, and has reported its events. If it was given an end, that is the end of what its
-- seat has seen.
pub record IsDriving (view : View Event ScriptOf) (end : Option Ending) (account : Account) : Type 0 where
  pub script : ScriptOf
  pub kept : IsScript script
  pub begun : view.start ≡ Some script
  pub number : view.number ≡ 0
  pub end_is : IfSome end (λ end. end_of script view.seen ≡ Some end)
  pub told : HasTold script view account
