-- The lines of which texts of lanes consist, and what each says.
use Rattle.std.specs.Prelude.{◌==◌, ◌||◌, ◌+◌, ◌*◌, ℕ, Bool, List, [], ◌∷◌, length, map, codes, if◌then◌else◌}
use Rattle.std.specs.Prelude.{Option, Some, None, Result, Ok, Err}
use Rattle.std.specs.Option.{option_map_or}
use Rattle.std.specs.Str.{bytes_eq}
use Rattle.common_lines.specs.Lines.{words_of}
use Rattle.fabric_words.specs.Cuts.{after, begins, cut, ◌>>=◌}
use Rattle.fabric_words.specs.Digits.{number_to}
use Rattle.fabric_words.specs.Heads.{node_head}
use Rattle.fabric_words.specs.Says.{or_cause, unless_long}
use Rattle.fabric_words.specs.declared.head.NodeHead.{NodeHead}
use Rattle.fabric_words.specs.declared.lane_cause.LaneCause.{LaneCause}
use Rattle.fabric_words.specs.declared.lane_cause.LaneCause.TheVariants.{LineTooLong, UnknownLine, BadRow}
use Rattle.fabric_read_lanes.specs.declared.lane_line.LaneLine.{LaneLine}
use Rattle.fabric_read_lanes.specs.declared.lane_line.LaneLine.TheVariants.{Nothing, Dashes, Head, Asked, Row}

-- what a line says, or the cause why it says nothing
abbrev pub Said : Type 0
Said = Result LaneLine LaneCause

-- the number of a port
abbrev pub port_in : List ℕ → Option ℕ
port_in = number_to 255

-- lanes, each a number up to 15: four bits for each, the first the lowest
abbrev pub packed : List (List ℕ) → Option ℕ
packed [] = Some 0
packed (lane ∷ lanes) =
    packed lanes >>= (λ higher. number_to 15 lane >>= (λ lowest. Some (higher * 16 + lowest)))

-- the row of sixteen lanes
unfoldable pub lanes_in : List (List ℕ) → Option ℕ
lanes_in lanes = if length lanes == 16 then packed lanes else None

-- the lanes for a port in and a port out
abbrev pub row_said : (entry port : List ℕ) → List (List ℕ) → Said
row_said entry port lanes =
    or_cause (port_in entry) BadRow (λ from.
    or_cause (port_in port) BadRow (λ to.
    or_cause (lanes_in lanes) BadRow (λ row. Ok (Row from to row))))

-- .. if a colon is before them
abbrev pub said_after : (colon entry port : List ℕ) → List (List ℕ) → Said
said_after colon entry port lanes =
    if bytes_eq colon (codes ":") then row_said entry port lanes else Err UnknownLine

-- words: a port in, a port out, a colon and sixteen lanes
abbrev pub said_by : List (List ℕ) → Said
said_by [] = Ok Nothing
said_by (entry ∷ port ∷ colon ∷ lanes) = said_after colon entry port lanes
said_by words = Err UnknownLine

-- the head of a part, or else what words say
abbrev pub said_or_head : List (List ℕ) → Option NodeHead → Said
said_or_head words None = said_by words
said_or_head words (Some head) = Ok (Head head)

-- the LID at the front of a text, up to a space or the end
unfoldable pub front_lid : List ℕ → Option ℕ
front_lid text = option_map_or (λ parts. number_to 0xFFFF parts.0) (cut 32 text) (number_to 0xFFFF text)

-- the LID in the head of what `smpquery sl2vl` prints: `# SL2VL table: Lid 3`
unfoldable pub asked_lid : List ℕ → Option ℕ
asked_lid line = after (codes "# SL2VL table: Lid ") line >>= front_lid

-- the head with it; one that names the node otherwise is none
abbrev pub asked_head : Option ℕ → Said
asked_head None = Err UnknownLine
asked_head (Some lid) = Ok (Asked lid)

-- a row that it prints, with spaces in the places of its colons, commas and bars
abbrev pub is_parting : ℕ → Bool
is_parting byte = byte == 58 || (byte == 44 || byte == 124)

abbrev pub spaced : List ℕ → List ℕ
spaced line = map (λ byte. if is_parting byte then 32 else byte) line

-- the words of `ports: in  0, out  1: | 0| 1| .. |15|`
abbrev pub asked_row : List (List ℕ) → Said
asked_row (ports ∷ into ∷ entry ∷ out ∷ port ∷ lanes) = row_said entry port lanes
asked_row words = Err UnknownLine

-- What a line says. Dashes begin and end rows, and any other line that begins with `#` has no words, but for the
-- head of what `smpquery sl2vl` prints.
unfoldable pub said_in : List ℕ → Said
said_in line =
    unless_long line LineTooLong
    (if begins (codes "#-") line then Ok Dashes
    else if begins (codes "# SL2VL table:") line then asked_head (asked_lid line)
    else if begins (codes "ports: in ") line then asked_row (words_of (spaced line))
    else said_or_head (words_of line) (node_head line))
