-- The lines that report the events of each caller, with the positions of these events in the history.

use Rattle.std.specs.Prelude.{◌==◌, ℕ, List, [], ◌∷◌, ◌++◌, map, if◌then◌else◌}
use Rattle.an_base.specs.Rows.{RowOf}
use Rattle.an_base.specs.declared.event.Event.{Event}
use Rattle.an_base.specs.declared.event.Event.TheVariants.{Load}
use Rattle.net_script.specs.Scripts.{ScriptOf}
use Rattle.net_state.specs.declared.line.Line.{Line}
use Rattle.net_state.specs.declared.line.PlacedLine.{PlacedLine}
use Rattle.net_world.specs.Histories.{owner_of}
use Rattle.net_world.specs.Lines.{lines_of, rows_after}
use Rattle.net_world.specs.World.{WorldOf, begun, step}

-- what the events of a caller give, in order, where `give` says what each gives in the world before it
abbrev pub gathered : {A : Type 0} → (WorldOf → Event → List A) → ℕ → WorldOf → List Event → List A
gathered give caller world [] = []
gathered give caller world (event ∷ events) =
    (if owner_of event == caller then give world event else [])
    ++ gathered give caller (step world event) events

-- these lines with the position of their event in the history, from 1
abbrev pub placed : ℕ → List Line → List PlacedLine
placed place lines = map (λ line. record { event = place; line = line }) lines

-- the lines that report a lawful event, by the world before it, with its position
abbrev pub placed_lines : WorldOf → Event → List PlacedLine
placed_lines world event = placed (step world event).fabric.events (lines_of world event)

-- the rows of the table in use after a load, as a list of one element; empty for every other event
abbrev pub loaded_rows : WorldOf → Event → List (List RowOf)
loaded_rows world (Load place) = rows_after (step world (Load place)).fabric (Load place) ∷ []
loaded_rows world event = []

-- the lines that report the events of a caller, and the rows of each table that it loaded
pub record AccountOf : Type 0 where
  pub lines : List PlacedLine
  pub rows : List (List RowOf)

-- the account of a caller after this lawful history
abbrev pub account_of : ScriptOf → ℕ → List Event → AccountOf
account_of script caller history = record {
  lines = gathered placed_lines caller (begun script) history;
  rows = gathered loaded_rows caller (begun script) history;
}
