-- The report of a history, of whose events each caller has reported its own.

use Rattle.std.specs.Prelude.{◌≡◌, ◌≢◌, ◌+◌, ◌<◌, ℕ, List, [], ◌∷◌, ◌++◌, codes, length, map, slice_index_or, true}
use Rattle.an_base.specs.declared.event.Event.{Event}
use Rattle.net_script.specs.Scripts.{IsScript, ScriptOf}
use Rattle.net_state.specs.Lawful.{is_lawful}
use Rattle.net_state.specs.declared.line.PlacedLine.{PlacedLine}
use Rattle.net_world.specs.Accounts.{AccountOf, gathered, loaded_rows, placed_lines}
use Rattle.net_world.specs.Histories.{AreLawful}
use Rattle.net_world.specs.World.{WorldOf, begun, world_after}
use Rattle.fabric_book.specs.declared.account.Account.{Account}
use Rattle.report.specs.Events.{CourseOf, course_after, events_text}

-- A lawful event comes in the network of a possible script, which has come as far as `course` with `history`.
pub record Comes (script : ScriptOf) (history : List Event) (event : Event) (course : CourseOf) : Type 0 where
  pub kept : IsScript script
  pub lawful : is_lawful (world_after script history).fabric event ≡ true
  pub course_is : course ≡ course_after script history

-- `own` is `script`, a possible one, and its network has come as far as `course` with `history`.
pub record HasCome (own : ScriptOf) (course : CourseOf) (script : ScriptOf) (history : List Event) : Type 0 where
  pub kept : IsScript script
  pub own_is : own ≡ script
  pub course_is : course ≡ course_after script history

-- what an account reports
abbrev pub told_in : Account → AccountOf
told_in account =
    record { lines = account.lines.items; rows = map (λ rows. rows.items) account.rows.items }

-- an account that reports nothing
abbrev pub no_account : AccountOf
no_account = record { lines = []; rows = [] }

-- the next line does not belong to the event at this position
abbrev pub IsNotNext : ℕ → List PlacedLine → Type 0
IsNotNext place [] = Unit {0}
IsNotNext place (told ∷ more) = told.event ≢ place

-- what is left of the account of a caller before `events` come in a world
abbrev pub left_of : WorldOf → List Event → ℕ → AccountOf
left_of world events caller = record {
  lines = gathered placed_lines caller world events;
  rows = gathered loaded_rows caller world events;
}

-- what is left of the account of each caller, after the events `before`
abbrev pub AreLeft : ScriptOf → List Event → List Event → List AccountOf → Type 0
AreLeft script before events left = (caller : ℕ) → caller < length left
    → slice_index_or left caller no_account ≡ left_of (world_after script before) events caller

-- Before the lawful events `events`, `text` is the report so far, and `left` is what is left of the accounts of all
-- callers.
pub record IsRetelling (script : ScriptOf) (before events : List Event) (course : CourseOf)
    (left : List AccountOf) (text : List ℕ) : Type 0 where
  pub kept : IsScript script
  pub lawful : AreLawful (world_after script before) events
  pub course_is : course ≡ course_after script before
  pub callers : length left ≡ length script.wires.switches + 1
  pub left_are : AreLeft script before events left
  pub says : text ≡ codes "report 1\n" ++ events_text script (begun script) before
