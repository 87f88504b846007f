-- The lines that report the parts of an event.

use Rattle.std.specs.Prelude.{ℕ, List, [], ◌∷◌, ◌++◌, Bool, if◌then◌else◌}
use Rattle.std.specs.List.{flat_map}
use Rattle.port_monitor.specs.Histories.{externals}
use Rattle.switch_core.specs.Switch.{SwitchOf, note_of}
use Rattle.net_state.specs.declared.hand.Hand.{Hand}
use Rattle.net_state.specs.declared.hand.Hand.TheVariants as hand
use Rattle.net_state.specs.declared.line.Line.{Line}
use Rattle.net_state.specs.declared.line.Line.TheVariants as line
use Rattle.net_world.specs.Lines.{finish_lines, join_lines, no_frame_lines, port_line, no_epoch_lines}

-- one line if a condition holds, otherwise none
abbrev pub line_if : Bool → Line → List Line
line_if so one = if so then one ∷ [] else []

-- the line that reports bytes that are no frame
abbrev pub noise_lines : ℕ → Hand → Bool → List Line
noise_lines place hand.Empty noframe = []
noise_lines place (hand.Clock now samples) noframe = []
noise_lines place (hand.Frame port) noframe = line_if noframe (line.NoFrame place port)

-- all lines that report what a switch had in hand, except those about lost frames
abbrev pub hand_lines : ℕ → Hand → List ℕ → SwitchOf → SwitchOf → List Line
hand_lines place hand bytes before after =
    flat_map (port_line place (note_of before) (note_of after)) externals
    ++ no_frame_lines place hand bytes
    ++ join_lines place before after
    ++ no_epoch_lines place after
    ++ finish_lines place before after
