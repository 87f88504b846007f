-- The lines of an answer.

use Rattle.std.specs.Prelude.{◌==◌, ℕ, List, [], ◌∷◌, ◌++◌, Option, Some, None, length, map, codes, if◌then◌else◌}
use Rattle.std.specs.Fmt.{decimal}
use Rattle.common_lines.specs.Lines.{lines_text}
use Rattle.common_lines.specs.Words.{hex_text}
use Rattle.fabric_print.specs.declared.answer.Answer.{Answer}
use Rattle.fabric_print.specs.declared.answer.Read.{Read}
use Rattle.fabric_print.specs.declared.answer.Routes.{Routes}
use Rattle.fabric_print.specs.declared.answer.LoopStep.{LoopStep}
use Rattle.fabric_print.specs.declared.answer.Lost.{Lost}
use Rattle.fabric_print.specs.declared.answer.LostCounts.{LostCounts}
use Rattle.fabric_print.specs.declared.answer.Name.{Name}
use Rattle.fabric_print.specs.declared.answer.WhyLost.{WhyLost}
use Rattle.fabric_print.specs.declared.answer.WhyLost.TheVariants.{Missing, Dead, Wrong, Loop}

-- the words of a line
abbrev pub Row : Type 0
Row = List (List ℕ)

-- a GUID: `0x` and sixteen digits
abbrev pub guid_word : ℕ → List ℕ
guid_word guid = codes "0x" ++ hex_text 16 guid

-- what was read: links are those between switches
abbrev pub read_row : Read → Row
read_row read =
    codes "read" ∷ codes "switches" ∷ decimal read.switches ∷ codes "ends" ∷ decimal read.ends
    ∷ codes "links" ∷ decimal read.links ∷ codes "rows" ∷ decimal read.rows
    ∷ codes "unowned" ∷ decimal read.unowned ∷ []

-- the routes that were judged
abbrev pub judged_row : List ℕ → Row
judged_row traffic =
    codes "judged" ∷ codes "traffic" ∷ traffic ∷ codes "lanes" ∷ codes "one" ∷ []

-- how many of the routes that arrive go to LIDs that nobody owns, if the traffic has such routes
abbrev pub unowned_words : Option ℕ → Row
unowned_words None = []
unowned_words (Some many) = codes "unowned" ∷ decimal many ∷ []

abbrev pub routes_row : Routes → Row
routes_row of =
    codes "routes" ∷ decimal of.routes ∷ codes "arrived" ∷ decimal of.arrived
    ∷ codes "hops" ∷ decimal of.hops ∷ unowned_words of.unowned

abbrev pub channels_row : (channels dependencies : ℕ) → Row
channels_row channels dependencies =
    codes "channels" ∷ decimal channels ∷ codes "dependencies" ∷ decimal dependencies ∷ []

-- a channel of the cycle, with the route that takes it and then, directly, the next one
abbrev pub channel_row : LoopStep → Row
channel_row step =
    codes "channel" ∷ guid_word step.guid ∷ decimal step.port ∷ codes "lid" ∷ decimal step.lid
    ∷ codes "from" ∷ guid_word step.source ∷ []

-- the cycle, if there is one, with a row for each of its channels
abbrev pub cycle_word : ℕ → List ℕ
cycle_word many = if many == 0 then codes "none" else decimal many

abbrev pub cycle_rows_by : {Channel : Type 0} → (Channel → Row) → List Channel → List Row
cycle_rows_by row_of cycle = (codes "cycle" ∷ cycle_word (length cycle) ∷ []) ∷ map row_of cycle

abbrev pub cycle_rows : List LoopStep → List Row
cycle_rows cycle = cycle_rows_by channel_row cycle

abbrev pub losses_row : LostCounts → Row
losses_row losses =
    codes "lost" ∷ decimal losses.all ∷ codes "missing" ∷ decimal losses.missing
    ∷ codes "dead" ∷ decimal losses.dead ∷ codes "wrong" ∷ decimal losses.wrong
    ∷ codes "loop" ∷ decimal losses.looping ∷ []

abbrev pub cause_word : WhyLost → List ℕ
cause_word Missing = codes "missing"
cause_word Dead = codes "dead"
cause_word Wrong = codes "wrong"
cause_word Loop = codes "loop"

abbrev pub lost_row : Lost → Row
lost_row lost =
    cause_word lost.cause ∷ codes "lid" ∷ decimal lost.lid ∷ codes "from" ∷ guid_word lost.source
    ∷ codes "at" ∷ guid_word lost.at ∷ []

-- the routes that are lost, if any are
abbrev pub lost_rows : LostCounts → List Lost → List Row
lost_rows losses lost = if losses.all == 0 then [] else losses_row losses ∷ map lost_row lost

-- the ports whose base LID says that nobody has set it, if there are any
abbrev pub unset_rows : ℕ → List Row
unset_rows unset =
    if unset == 0 then [] else (codes "note" ∷ codes "unset" ∷ decimal unset ∷ []) ∷ []

-- a name is last on its line, because it can contain spaces
abbrev pub name_row : Name → Row
name_row name = codes "name" ∷ guid_word name.guid ∷ name.text ∷ []

-- all rows of an answer
unfoldable pub answer_rows : Answer → List Row
answer_rows answer =
    (codes "fabric" ∷ codes "1" ∷ []) ∷ read_row answer.read ∷ judged_row answer.traffic.now
    ∷ routes_row answer.routes ∷ channels_row answer.channels answer.dependencies
    ∷ (cycle_rows answer.cycle.items ++ lost_rows answer.losses answer.lost.items ++ unset_rows answer.unset
    ++ map name_row answer.names.items)

abbrev pub answer_text : Answer → List ℕ
answer_text answer = lines_text (answer_rows answer)
