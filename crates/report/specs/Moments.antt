-- The moments of a history, and a text that is printed moment by moment.

use Rattle.std.specs.Prelude.{◌≡◌, List, [], ◌∷◌, ◌++◌, ℕ, Option, Some}
use Rattle.std.specs.List.{flat_map}
use Rattle.std.specs.Option.{option_map_or}
use Rattle.an_base.specs.declared.event.Event.{Event}
use Rattle.net_script.specs.Scripts.{ScriptOf}
use Rattle.journal.specs.Texts.{IsJournal}
use Rattle.net_state.specs.declared.ending.Ending.{Ending}
use Rattle.net_state.specs.declared.line.Line.{Line}
use Rattle.net_world.specs.Histories.{IsLegal}
use Rattle.net_world.specs.Lines.{lines_of}
use Rattle.net_world.specs.World.{world_after}
use Rattle.net_settling.specs.Claims.{HoldsAndSettles}
use Rattle.fabric_book.specs.Nets.{NetOf}
use Rattle.replay.specs.Replays.{HasMade}

-- a moment: an event of a history, with the events before it
pub record Moment : Type 0 where
  pub before : List Event
  pub event : Event

-- the moments of the events that follow some events, and the moments of a history
abbrev pub moments_after : List Event → List Event → List Moment
moments_after before [] = []
moments_after before (event ∷ events) =
    record { before = before; event = event } ∷ moments_after (before ++ event ∷ []) events

abbrev pub moments : List Event → List Moment
moments history = moments_after [] history

-- What is printed of a history so far: a beginning, and what is printed at each moment. The whole text also has the
-- last line if an end has come.
unfoldable pub told_so_far : List ℕ → (Moment → List ℕ) → List Event → List ℕ
told_so_far first told history = first ++ flat_map told (moments history)

unfoldable pub told_whole :
    List ℕ → (Moment → List ℕ) → (Ending → List ℕ) → List Event → Option Ending → List ℕ
told_whole first told last history end = told_so_far first told history ++ option_map_or last end []

-- `history` is legal with the end `end`, all that is claimed of it holds, and `text` is what is printed of it.
pub record IsTold (script : ScriptOf) (history : List Event) (first : List ℕ) (told : Moment → List ℕ)
    (last : List Event → Ending → List ℕ) (end : Ending) (text : List ℕ) : Type 0 where
  pub legal : IsLegal script history end
  pub claims : HoldsAndSettles script history
  pub says : text ≡ told_whole first told (last history) history (Some end)

-- `bytes` begins with the text of a journal, `text` is what is printed of it, and what is kept belongs to its
-- events.
pub record IsToldOf (script : ScriptOf) (bytes first : List ℕ) (told : Moment → List ℕ)
    (last : List Event → Ending → List ℕ) (Stands : List Event → Type 0) (end : Ending) (text : List ℕ)
    : Type 0 where
  pub journal : List Event
  pub is_journal : IsJournal script bytes journal
  pub is_told : IsTold script journal first told last end text
  pub stands : Stands journal

-- A network has made `event` after the events `before`, each of which was lawful, and `lines` report the last one.
pub record IsHeard (before : List Event) (event : Event) (net : NetOf) (lines : List Line) : Type 0 where
  pub made : HasMade net.script (before ++ event ∷ []) net
  pub lines_are : lines ≡ lines_of (world_after net.script before) event
