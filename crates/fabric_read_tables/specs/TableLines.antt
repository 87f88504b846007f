-- The lines of which texts of tables consist, and what each says.

use Rattle.std.specs.Prelude.{◌&&◌, ◌||◌, ℕ, Bool, List, [], ◌∷◌, ◌++◌, take, drop, codes, nat_lt, if◌then◌else◌}
use Rattle.std.specs.Prelude.{Option, Some, None, Result, Ok, Err, option_and_then}
use Rattle.std.specs.List.{list_all}
use Rattle.std.specs.Str.{bytes_eq}
use Rattle.std.specs.Char.{is_ascii_digit}
use Rattle.common_lines.specs.Lines.{words_of}
use Rattle.fabric_words.specs.Cuts.{after, begins, cut_first, ◌>>=◌}
use Rattle.fabric_words.specs.Digits.{guid, hex_after, decimal}
use Rattle.fabric_words.specs.Rows.{row}
use Rattle.fabric_words.specs.Says.{or_cause, unless_long}
use Rattle.fabric_read_tables.specs.declared.line.TableLine.{TableLine}
use Rattle.fabric_read_tables.specs.declared.line.TableLine.TheVariants.{Nothing, Head, Row, End, PlainHead, PlainSwitch}
use Rattle.fabric_read_tables.specs.declared.line.TableLine.TheVariants.{PlainRow, PlainEnd, ListedHead, ListedRow}
use Rattle.fabric_read_tables.specs.declared.cause.TablesCause.{TablesCause}
use Rattle.fabric_read_tables.specs.declared.cause.TablesCause.TheVariants.{LineTooLong, UnknownLine, BadRow, BadGuid}
use Rattle.fabric_read_tables.specs.declared.cause.TablesCause.TheVariants.{LidRange, PortRange}

-- what a line says, or the first cause why it says nothing
abbrev pub Said : Type 0
Said = Result TableLine TablesCause

-- what says something of a LID: unicast LIDs end with 0xbfff
abbrev pub unicast : ℕ → TableLine → Said
unicast lid line = if nat_lt 0xbfff lid then Err LidRange else Ok line

-- a row of a list, as `ibdiagnet2.fdbs` and `opensm.fdbs` are: that of a dump with `: ` before its port, where
-- `UNREACHABLE` is no port
abbrev pub listed_port : List ℕ → List ℕ
listed_port rest = if begins (codes "UNREACHABLE") rest then codes "255" else rest

unfoldable pub listed : List ℕ → Option (ℕ × ℕ)
listed line = after (codes ": ") (drop 7 line) >>= (λ rest. row (take 7 line ++ listed_port rest))

-- a row as the tools print it: of a dump, with the LID in four hexadecimal digits and the port in three decimal ones,
-- or else of a list
abbrev pub listed_row : List ℕ → Said
listed_row line = or_cause (listed line) BadRow (λ found. unicast found.0 (ListedRow found.0 found.1))

abbrev pub printed_by : List ℕ → Option (ℕ × ℕ) → Said
printed_by line (Some found) = unicast found.0 (Row found.0 found.1)
printed_by line None = listed_row line

abbrev pub printed_row : List ℕ → Said
printed_row line = printed_by line (row line)

-- the head of a switch's table: its GUID stands in 16 digits after the first ` guid 0x`
abbrev pub table_guid : List ℕ → Option ℕ
table_guid line = option_and_then (λ parts. guid (take 16 parts.1)) (cut_first (codes " guid 0x") line)

abbrev pub head : List ℕ → Said
head line = or_cause (table_guid line) BadGuid (λ found. Ok (Head found))

-- a row in plain words: a LID and a port, both in decimal
abbrev pub plain_port : ℕ → ℕ → Said
plain_port lid port = if nat_lt 255 port then Err PortRange else unicast lid (PlainRow lid port)

abbrev pub plain_row : (lid port : List ℕ) → Said
plain_row lid port =
    or_cause (decimal lid) UnknownLine (λ to. or_cause (decimal port) UnknownLine (λ by. plain_port to by))

-- the switch to which the next plain rows belong: its GUID has 1 to 16 digits after `0x`
abbrev pub plain_table : List ℕ → Said
plain_table word = or_cause (hex_after word) BadGuid (λ found. Ok (PlainSwitch found))

-- the switch to which the next rows of a list belong: the same, after the name of the function that printed it
abbrev pub is_lister : List ℕ → Bool
is_lister word =
    bytes_eq word (codes "dump_ucast_routes:") || bytes_eq word (codes "osm_ucast_mgr_dump_ucast_routes:")

abbrev pub listed_head : List ℕ → Said
listed_head word = or_cause (hex_after word) BadGuid (λ found. Ok (ListedHead found))

-- whether a word is one of digits
abbrev pub is_count : List ℕ → Bool
is_count word = list_all is_ascii_digit word

-- one word, two, three, four and seven
abbrev pub said_by_one : List ℕ → Said
said_by_one word = if bytes_eq word (codes "end") then Ok PlainEnd else Err UnknownLine

abbrev pub said_by_two : (first second : List ℕ) → Said
said_by_two first second =
    if bytes_eq first (codes "switch") then plain_table second
    else (if bytes_eq first (codes "Port") && bytes_eq second (codes "Info") then Ok Nothing
    else (if bytes_eq first (codes "tables") && bytes_eq second (codes "1") then Ok PlainHead
    else plain_row first second))

abbrev pub said_by_three : (first second third : List ℕ) → Said
said_by_three first second third =
    if bytes_eq first (codes "Lid") && (bytes_eq second (codes "Out") && bytes_eq third (codes "Destination"))
    then Ok Nothing
    else (if is_count first && (bytes_eq second (codes "lids") && bytes_eq third (codes "dumped"))
    then Ok End
    else (if is_lister first && bytes_eq second (codes "Switch") then listed_head third else Err UnknownLine))

abbrev pub said_by_four : (first second third fourth : List ℕ) → Said
said_by_four first second third fourth =
    if is_count first && (bytes_eq second (codes "valid")
    && (bytes_eq third (codes "lids") && bytes_eq fourth (codes "dumped")))
    then Ok End else Err UnknownLine

abbrev pub said_by_seven : (first second third fourth fifth sixth seventh : List ℕ) → Said
said_by_seven first second third fourth fifth sixth seventh =
    if bytes_eq first (codes "LID") && (bytes_eq second (codes ":") && (bytes_eq third (codes "Port")
    && (bytes_eq fourth (codes ":") && (bytes_eq fifth (codes "Hops")
    && (bytes_eq sixth (codes ":") && bytes_eq seventh (codes "Optimal"))))))
    then Ok Nothing else Err UnknownLine

-- words that are no row and no head of a dump; dump_lfts ends with a warning of which the first word is `***`
abbrev pub said_by : List (List ℕ) → Said
said_by [] = Ok Nothing
said_by (first ∷ []) = said_by_one first
said_by (first ∷ second ∷ []) = said_by_two first second
said_by (first ∷ second ∷ third ∷ []) = said_by_three first second third
said_by (first ∷ second ∷ third ∷ fourth ∷ []) = said_by_four first second third fourth
said_by (first ∷ second ∷ third ∷ fourth ∷ fifth ∷ sixth ∷ seventh ∷ []) =
    said_by_seven first second third fourth fifth sixth seventh
said_by words = Err UnknownLine

-- what a line says, or why it is none of a text of tables
unfoldable pub said_in : List ℕ → Said
said_in line =
    unless_long line LineTooLong
    (if begins (codes "0x") line then printed_row line
    else (if begins (codes "Unicast lids ") line then head line
    else (if begins (codes "*** WARNING ***") line then Ok Nothing else said_by (words_of line))))
