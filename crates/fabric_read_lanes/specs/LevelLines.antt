-- The lines of which texts of levels consist, and what each says.
use Rattle.std.specs.Prelude.{◌≤◌, ℕ, List, [], ◌∷◌, codes, nat_lt, if◌then◌else◌}
use Rattle.std.specs.Prelude.{Option, Some, None, Result, Ok, Err}
use Rattle.std.specs.Str.{bytes_eq}
use Rattle.common_lines.specs.Lines.{words_of}
use Rattle.fabric_words.specs.Digits.{decimal, hex_after, number_to}
use Rattle.fabric_words.specs.Heads.{node_head}
use Rattle.fabric_words.specs.Says.{or_cause, unless_long}
use Rattle.fabric_words.specs.declared.head.NodeHead.{NodeHead}
use Rattle.fabric_words.specs.declared.lane_cause.LaneCause.{LaneCause}
use Rattle.fabric_words.specs.declared.lane_cause.LaneCause.TheVariants.{LineTooLong, UnknownLine, BadRow, LidRange}
use Rattle.fabric_read_lanes.specs.declared.level_line.LevelLine.{LevelLine}
use Rattle.fabric_read_lanes.specs.declared.level_line.LevelLine.TheVariants.{Nothing, Head, Level, Path}

-- what a line says, or the cause why it says nothing
abbrev pub Said : Type 0
Said = Result LevelLine LaneCause

-- a level is a number up to 15
abbrev pub level_in : List ℕ → Option ℕ
level_in = number_to 15

-- what says something of a LID: unicast LIDs end with 0xbfff
abbrev pub unicast : ℕ → LevelLine → Said
unicast lid line = if nat_lt 0xbfff lid then Err LidRange else Ok line

-- a LID in hexadecimal digits and a level
abbrev pub level_said : (lid level : List ℕ) → Said
level_said lid level =
    or_cause (hex_after lid) UnknownLine (λ to.
    or_cause (level_in level) BadRow (λ by. unicast to (Level to by)))

-- the GUID of an end port in hexadecimal digits, a LID in decimal ones and a level
abbrev pub path_said : (guid lid level : List ℕ) → Said
path_said guid lid level =
    or_cause (hex_after guid) UnknownLine (λ from.
    or_cause (decimal lid) BadRow (λ to.
    or_cause (level_in level) BadRow (λ by. unicast to (Path from to by))))

-- three words: the form with a colon is that of a part
abbrev pub said_by_three : (first second third : List ℕ) → Said
said_by_three first second third =
    if bytes_eq second (codes ":") then level_said first third else path_said first second third

abbrev pub said_by : List (List ℕ) → Said
said_by [] = Ok Nothing
said_by (first ∷ second ∷ third ∷ []) = said_by_three first second third
said_by words = Err UnknownLine

-- the head of a part, or else what words say
abbrev pub said_or_head : List (List ℕ) → Option NodeHead → Said
said_or_head words None = said_by words
said_or_head words (Some head) = Ok (Head head)

-- what a line says: one that begins with `#` has no words
unfoldable pub said_in : List ℕ → Said
said_in line = unless_long line LineTooLong (said_or_head (words_of line) (node_head line))

-- the level of a line is one of sixteen
abbrev pub HasLowLevel : LevelLine → Type 0
HasLowLevel Nothing = Unit {0}
HasLowLevel (Head head) = Unit {0}
HasLowLevel (Level lid level) = level ≤ 15
HasLowLevel (Path guid lid level) = level ≤ 15
