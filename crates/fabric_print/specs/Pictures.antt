-- The lines of a picture of a credit loop, in the language of Graphviz.

use Rattle.std.specs.Prelude.{◌==◌, ◌||◌, ℕ, List, [], ◌∷◌, ◌++◌, length, map, codes, if◌then◌else◌, nat_lt}
use Rattle.std.specs.Fmt.{decimal}
use Rattle.std.specs.List.{flat_map}
use Rattle.common_lines.specs.Lines.{lines_text}
use Rattle.fabric_print.specs.declared.answer.Name.{Name}
use Rattle.fabric_print.specs.declared.picture.Arrow.{Arrow}
use Rattle.fabric_print.specs.declared.picture.Picture.{Picture}
use Rattle.fabric_print.specs.Answers.{Row, guid_word}

-- `escape`: a byte of a name in a label: a quote (34) or a backslash (92) after a backslash, an ampersand
-- (38) as `&amp;`, a control byte as a question mark
abbrev pub escape : ℕ → List ℕ
escape byte = if (byte == 34) || (byte == 92)
    then 92 ∷ byte ∷ []
    else if byte == 38 then codes "&amp;"
    else if nat_lt byte 32 || (byte == 127) then codes "?"
    else byte ∷ []

abbrev pub escaped : List ℕ → List ℕ
escaped name = flat_map escape name

-- the number of channels of a loop, or that there is no loop, at the end of a text in quotes
abbrev pub loop_word : ℕ → List ℕ
loop_word many = if many == 0
    then codes "has no credit loop\""
    else codes "has a credit loop of " ++ (decimal many ++ codes " channels\"")

-- `closed_word`: a GUID at the end of a text in quotes; `switch_word`: a switch by its GUID
abbrev pub closed_word : ℕ → List ℕ
closed_word guid = guid_word guid ++ codes "\""

abbrev pub switch_word : ℕ → List ℕ
switch_word guid = codes "\"" ++ closed_word guid

-- a name, and under it the GUID of the switch, which `\N` represents
abbrev pub label_word : List ℕ → List ℕ
label_word name = codes "\"" ++ (escaped name ++ codes "\\n\\N\"")

-- a switch with its name
abbrev pub switch_row : Name → Row
switch_row name = switch_word name.guid ∷ codes "[ label =" ∷ label_word name.text ∷ codes "]" ∷ []

-- A channel: from its switch out of a port, to another one into a port, with the route that makes it depend
-- on the next. Its label begins with `label`.
abbrev pub arrow_row_by : List ℕ → Arrow → Row
arrow_row_by label arrow =
    switch_word arrow.step.guid ∷ codes "->" ∷ switch_word arrow.to
    ∷ codes "[ taillabel =" ∷ decimal arrow.step.port ∷ codes "headlabel =" ∷ decimal arrow.entry
    ∷ label ∷ decimal arrow.step.lid ∷ codes "from" ∷ closed_word arrow.step.source ∷ codes "]" ∷ []

-- a channel without lanes
abbrev pub arrow_row : Arrow → Row
arrow_row arrow = arrow_row_by (codes "label = \"lid") arrow

-- the start of the label on a lane: the lane and the service level of the route have a line of their own
abbrev pub lane_label : (lane level : ℕ) → List ℕ
lane_label lane level =
    codes "label = \"lane " ++ (decimal lane ++ (codes " level " ++ (decimal level ++ codes "\\nlid")))

-- how boxes and the numbers of ports are drawn
abbrev pub style_rows : List Row
style_rows = (codes "node [ shape = box ]" ∷ []) ∷ (codes "edge [ labeldistance = 2 ]" ∷ []) ∷ []

abbrev pub end_rows : List Row
end_rows = (codes "}" ∷ []) ∷ []

-- all rows of a picture: what was judged and what loop there is, the switches that have names, and the
-- channels
unfoldable pub picture_rows_by : {Channel : Type 0} → (Channel → Row) → Row → List Name → List Channel → List Row
picture_rows_by row_of title names channels =
    (codes "digraph cycle {" ∷ []) ∷ (codes "label = \"traffic" ∷ title)
    ∷ (style_rows ++ map switch_row names ++ map row_of channels ++ end_rows)

abbrev pub picture_text_by : {Channel : Type 0} → (Channel → Row) → Row → List Name → List Channel → List ℕ
picture_text_by row_of title names channels = lines_text (picture_rows_by row_of title names channels)

abbrev pub picture_text : Picture → List ℕ
picture_text picture =
    picture_text_by arrow_row (picture.traffic.now ∷ loop_word (length picture.arrows.items) ∷ [])
    picture.names.items picture.arrows.items
