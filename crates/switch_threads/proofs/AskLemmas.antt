-- What a worker and the driver ask is fit for what their seats have seen, and what kind of reply comes.

use Rattle.std.specs.Prelude.{◌≡◌, ℕ, List, length, Option, Some, IfSome, Bool, true, false, refl}
use Rattle.std.specs.Global.{Box}
use Rattle.std.proofs.Common.{sym, subst}
use Rattle.an_base.specs.declared.event.Event.{Event}
use Rattle.net_script.specs.Scripts.{ScriptOf}
use Rattle.switch_core.specs.Kept.{KeptOf}
use Rattle.switch_core.specs.Steps.{loaded}
use Rattle.switch_core.specs.Switch.{note_of}
use Rattle.switch_core.specs.declared.switch.TableFor.{TableFor}
use Rattle.net_state.specs.declared.ending.Ending.{Ending}
use Rattle.fabric_turn.specs.Calls.{IsFitFor}
use Rattle.fabric_turn.specs.declared.view.View.{View}
use Rattle.net_world.specs.declared.ask.Ask.{Ask}
use Rattle.net_world.specs.declared.ask.Ask.TheVariants as ask
use Rattle.net_world.specs.Turns.{AnswersDrive, AnswersPut, AnswersTake, IsDone, IsFit, IsToLoad, LoadsOrNot}
use Rattle.net_state.specs.declared.line.PlacedLine.{PlacedLine}
use Rattle.net_world.specs.World.{world_after}
use Rattle.fabric_book.specs.Nets.{PowerOf}
use Rattle.fabric_book.specs.declared.account.Account.{Account}
use Rattle.net_world.specs.declared.ask.Reply.{Reply}
use Rattle.net_world.specs.declared.ask.Reply.TheVariants as reply
use Rattle.net_world.specs.declared.ask.Letter.{Letter}
use Rattle.net_world.specs.declared.ask.Parcel.{Parcel}
use Rattle.net_world.specs.declared.ask.Sheet.{Sheet}
use Rattle.net_world.specs.declared.ask.Slip.{Slip}
use Rattle.switch_threads.specs.declared.desk.Pending.TheVariants as pending
use Rattle.switch_threads.specs.Workers.{IsDriving}
use Rattle.switch_threads.proofs.StayLemmas.{IsAtPlace}

-- what may be asked is fit
fit_of : (view : View Event ScriptOf) (script : ScriptOf) (asked : Ask) → view.start ≡ Some script → IsFit script view.seen view.number asked → IsFitFor IsFit view asked
fit_of view script asked begun fit = subst (λ (o : Option ScriptOf). IfSome o (λ start. IsFit start view.seen view.number asked)) (sym begun) fit

module _ (view : View Event ScriptOf) (place : ℕ) (power : PowerOf) (switch : KeptOf) where
  pub take_fit : (letter : Box Letter) → IsAtPlace view place power switch pending.Work → IsFitFor IsFit view (ask.Take place letter)
  take_fit letter step =
      let at = step.keeps_up.powered in
      fit_of view step.script (ask.Take place letter) step.begun (record { kept = at.kept; may_ask = (record { within = at.within; caller_is = step.number }, step.keeps_up.fits.0) })

  pub put_fit : (parcel : Box Parcel) (step : IsAtPlace view place power switch pending.Put) → IsDone (world_after step.script view.seen) place parcel.value.done → length parcel.value.puts.items ≡ length parcel.value.done.frames
      → IsFitFor IsFit view (ask.Put place parcel)
  put_fit parcel step came room =
      let at = step.keeps_up.powered in
      fit_of view step.script (ask.Put place parcel) step.begun (record { kept = at.kept; may_ask = (record { within = at.within; caller_is = step.number }, came, room) })

  pub load_fit : (sheet given : Box Sheet) (step : IsAtPlace view place power switch (pending.Load sheet)) → sheet.value.table ≡ given.value.table
      → given.value.note ≡ note_of (loaded given.value.table.table.number ((world_after step.script view.seen).switches place)) → IsFitFor IsFit view (ask.Load place given)
  load_fit sheet given step same shows =
      let w = world_after step.script view.seen in
      let at = step.keeps_up.powered in
      let is = subst (λ (t : TableFor). IsToLoad w place t (note_of (loaded t.table.number (w.switches place)))) same step.keeps_up.fits.0 in
      let to = subst (IsToLoad w place given.value.table) (sym shows) is in
      fit_of view step.script (ask.Load place given) step.begun (record { kept = at.kept; may_ask = (record { within = at.within; caller_is = step.number }, to) })

pub drive_fit : (view : View Event ScriptOf) (end : Option Ending) (account : Account) (slip : Box Slip) → IsDriving view end account → IsFitFor IsFit view (ask.Drive slip)
drive_fit view end account slip is = fit_of view is.script (ask.Drive slip) is.begun (record { kept = is.kept; may_ask = is.number })

-- each ask has its own kind of reply
pub replies_take : (script : ScriptOf) (h : List Event) (place : ℕ) (answer : Reply) (after : List Event) → AnswersTake script h place answer after
    → ((letter : Box Letter) → answer ≡ reply.Take letter → ⊥) → ⊥
replies_take script h place (reply.Take letter) after is other = other letter refl
replies_take script h place (reply.Put parcel) after is other = absurd is
replies_take script h place (reply.Loaded told) after is other = absurd is
replies_take script h place (reply.NotNow sheet) after is other = absurd is
replies_take script h place (reply.Drive slip) after is other = absurd is

pub replies_put : (script : ScriptOf) (h : List Event) (place : ℕ) (given : Parcel) (answer : Reply) (after : List Event) → AnswersPut script h place given answer after
    → ((parcel : Box Parcel) → answer ≡ reply.Put parcel → ⊥) → ⊥
replies_put script h place given (reply.Put parcel) after is other = other parcel refl
replies_put script h place given (reply.Take letter) after is other = absurd is
replies_put script h place given (reply.Loaded told) after is other = absurd is
replies_put script h place given (reply.NotNow sheet) after is other = absurd is
replies_put script h place given (reply.Drive slip) after is other = absurd is

pub replies_load : (b : Bool) (script : ScriptOf) (h : List Event) (place : ℕ) (given : Box Sheet) (answer : Reply) (after : List Event) → LoadsOrNot b given answer place script h after
    → ((told : PlacedLine) → answer ≡ reply.Loaded told → ⊥) → ((sheet : Box Sheet) → answer ≡ reply.NotNow sheet → ⊥) → ⊥
replies_load true script h place given answer after is loaded back = back given is.0
replies_load false script h place given answer after is loaded back = loaded is.told is.answer_is

pub replies_drive : (script : ScriptOf) (h : List Event) (answer : Reply) (after : List Event) → AnswersDrive script h answer after
    → ((slip : Box Slip) → answer ≡ reply.Drive slip → ⊥) → ⊥
replies_drive script h (reply.Drive slip) after is other = other slip refl
replies_drive script h (reply.Take letter) after is other = absurd is
replies_drive script h (reply.Put parcel) after is other = absurd is
replies_drive script h (reply.Loaded told) after is other = absurd is
replies_drive script h (reply.NotNow sheet) after is other = absurd is
