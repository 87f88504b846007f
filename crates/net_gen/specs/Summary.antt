-- How the run of a script on one thread ends, in one line.

use Rattle.std.specs.Prelude.{◌≡◌, ◌≤◌, ℕ, Bool, true, false, List, [], ◌∷◌, ◌++◌, All, length, count_by, Some, codes}
use Rattle.std.specs.Fmt.{decimal}
use Rattle.an_base.specs.declared.event.Event.{Event}
use Rattle.net_script.specs.Scripts.{ScriptOf}
use Rattle.net_state.specs.declared.ending.Ending.{Ending}
use Rattle.net_state.specs.declared.ending.Ending.TheVariants as ending
use Rattle.net_state.specs.declared.line.Line.{Line}
use Rattle.net_state.specs.declared.line.Line.TheVariants as line
use Rattle.net_world.specs.World.{begun, world_after}
use Rattle.net_world.specs.Lines.{all_lines}
use Rattle.net_world.specs.Solo.{IsSolo}

-- the line reports that a packet was delivered; that a packet was dropped
abbrev pub is_delivery : Line → Bool
is_delivery (line.Moved packet place epoch entry exit (Some host)) = true
is_delivery told = false

abbrev pub is_drop : Line → Bool
is_drop (line.Unsent packet from to why) = true
is_drop (line.Fell packet place why) = true
is_drop told = false

abbrev pub end_word : Ending → List ℕ
end_word ending.Settled = codes "settled"
end_word ending.Unsettled = codes "unsettled"
end_word ending.Full = codes "full"
end_word (ending.Spent life) = codes "spent"

-- a word and a number, each after a space
abbrev pub counted : List ℕ → ℕ → List ℕ
counted word number = codes " " ++ word ++ codes " " ++ decimal number

-- the line about a run that ended so, at a tick, with these numbers of events and packets
abbrev pub line_on : Ending → ℕ → ℕ → ℕ → ℕ → List ℕ
line_on end tick events delivered dropped =
    codes "# " ++ end_word end ++ counted (codes "tick") tick ++ counted (codes "events") events
    ++ counted (codes "delivered") delivered ++ counted (codes "dropped") dropped ++ codes "\n"

-- the line about a history with its end
unfoldable pub summary_text : ScriptOf → List Event → Ending → List ℕ
summary_text script history end =
    let lines : List Line = all_lines (begun script) history in
    line_on end (world_after script history).fabric.tick (length history) (count_by is_delivery lines)
    (count_by is_drop lines)

-- `text` is the line about the history that one thread makes
pub record IsSummary (script : ScriptOf) (text : List ℕ) : Type 0 where
  pub history : List Event
  pub end : Ending
  pub run : IsSolo script history end
  pub says : text ≡ summary_text script history end

-- `text` is a comment line: a number sign (35), spaces and printable bytes, at most 200 in total, and a line feed
-- (10)
pub record IsComment (text : List ℕ) : Type 0 where
  pub words : List ℕ
  pub parts : text ≡ 35 ∷ words ++ 10 ∷ []
  pub printed : All (λ byte. (32 ≤ byte) × (byte ≤ 126)) words
  pub few : length words ≤ 199
