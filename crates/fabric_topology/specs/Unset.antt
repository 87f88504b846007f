-- How many end ports of a topology have the base LID 65535: their link is up, and no subnet manager has given
-- them a LID.
use Rattle.std.specs.Prelude.{◌==◌, ◌++◌, ◌∷◌, [], ℕ, List, length, Option, Some, None, if◌then◌else◌, nat_eq}
use Rattle.std.specs.Prelude.{fold, option_to_list}
use Rattle.std.specs.List.{filter_map, list_any}
use Rattle.std.specs.Option.{option_map_or}
use Rattle.common_lines.specs.Lines.{lines_of}
use Rattle.fabric_topology.specs.declared.fact.Fact.{Fact}
use Rattle.fabric_topology.specs.declared.fact.Fact.TheVariants as fact
use Rattle.fabric_topology.specs.declared.fact.Line.{Line}
use Rattle.fabric_topology.specs.declared.fact.Part.{Part}
use Rattle.fabric_topology.specs.declared.fact.Part.TheVariants as part
use Rattle.fabric_topology.specs.Texts.{says}

-- the facts of a line
abbrev pub facts_in : Line → List Fact
facts_in said = option_to_list said.first ++ (option_to_list said.second ++ option_to_list said.third)

-- the facts of the lines, up to the first line without a meaning
abbrev pub facts_told : Part → List (List ℕ) → List Fact
facts_told here [] = []
facts_told here (line ∷ lines) =
    option_map_or (λ said. facts_in said ++ facts_told said.part lines) (says here line) []

-- `guid`, if the base LID is 65535
abbrev pub if_unset : (guid base : ℕ) → Option ℕ
if_unset guid base = if base == 0xFFFF then Some guid else None

-- the switch or end port that has the base LID 65535, by this fact
abbrev pub unset_end : Fact → Option ℕ
unset_end (fact.Switch guid ports base lmc) = if_unset guid base
unset_end (fact.Host guid base lmc) = if_unset guid base
unset_end (fact.Link one other) = None
unset_end (fact.Neighbour guid base) = None
unset_end (fact.HasSwitch guid) = None

-- `numbers` with `number` added, unless it is there already
abbrev pub put_once : List ℕ → ℕ → List ℕ
put_once numbers number = if list_any (nat_eq number) numbers then numbers else numbers ++ number ∷ []

-- the switches and end ports that have the base LID 65535, by these facts, each once
abbrev pub unset_ends : List Fact → List ℕ
unset_ends facts = fold put_once [] (filter_map unset_end facts)

-- how many switches and end ports of a text have the base LID 65535
abbrev pub unset_of : List ℕ → ℕ
unset_of bytes = length (unset_ends (facts_told part.Start (lines_of bytes)))
