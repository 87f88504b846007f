-- The names that a topology gives to its nodes: a switch by its GUID, an end port of an adapter or router by
-- the GUID of the port. A name is any bytes, unchanged. If several lines name a node, the first counts.
use Rattle.std.specs.Prelude.{◌≡◌, ◌++◌, ◌∷◌, [], ℕ, List, Option, Some, None, codes, nat_eq}
use Rattle.std.specs.Prelude.{option_to_list, Contains}
use Rattle.std.specs.Map.{lookup}
use Rattle.std.specs.Option.{option_map, option_map_or, option_zip}
use Rattle.common_lines.specs.Lines.{lines_of}
use Rattle.fabric_words.specs.Cuts.{◌>>=◌, after, cut, cut_first, cut_last}
use Rattle.fabric_topology.specs.declared.fact.Fact.{Fact}
use Rattle.fabric_topology.specs.declared.fact.Fact.TheVariants as fact
use Rattle.fabric_topology.specs.declared.fact.Line.{Line}
use Rattle.fabric_topology.specs.declared.fact.Part.{Part}
use Rattle.fabric_topology.specs.declared.fact.Part.TheVariants as part
use Rattle.fabric_topology.specs.Discovered.{quoted}
use Rattle.fabric_topology.specs.Dumped.{far_parts, near_parts}
use Rattle.fabric_topology.specs.Texts.{says}

-- the description in the head of a node, after the first word:
-- `36 "S-0002c90000000001"\t\t# "MF0;leaf1" enhanced port 0 lid 6 lmc 0`
unfoldable pub head_name : List ℕ → Option (List ℕ)
head_name text = do
  id ← quoted text
  comment ← cut_first (codes "# \"") id.1
  name ← cut_last (codes "\"") comment.1
  Some name.0

-- the description of the adapter or router in whose section `line` is: from `line`, if it is a head, else
-- `before`
unfoldable pub section_name : Option (List ℕ) → List ℕ → Option (List ℕ)
section_name before line =
    option_map_or head_name (after (codes "Ca\t") line)
    (option_map_or head_name (after (codes "Rt\t") line) before)

-- the descriptions in both sides of a line of `opensm-subnet.lst`, each between braces:
-- `{ SW Ports:24 SystemGUID:.. {leaf1} LID:0006 PN:01 } { CA .. SystemGUID:.. {node2} LID:.. } PHY=..`
unfoldable pub braced : List ℕ → Option (List ℕ)
braced side = option_map (λ parts. parts.1) (cut_first (codes " {") side)

unfoldable pub near_braced : List ℕ → Option (List ℕ)
near_braced heads = do
  sides ← cut_last (codes " } { ") heads
  parts ← near_parts sides.0
  braced parts.1

-- what follows the first space
unfoldable pub past : List ℕ → Option (List ℕ)
past text = option_map (λ parts. parts.1) (cut 32 text)

-- what follows the fourth space
abbrev pub past_four : List ℕ → Option (List ℕ)
past_four text = past text >>= past >>= past >>= past

-- the name after the last number of a plain line:
-- `switch ID PORTS LID LMC NAME`, `host ID LID LMC SWITCH PORT NAME`
unfoldable pub plain_name : List ℕ → Option (List ℕ)
plain_name line =
    option_map_or past_four (after (codes "switch ") line) (after (codes "host ") line >>= past_four >>= past)

-- `near_name`: the name, in `line` at this part, of the node of its first fact; `far_name`: of its second
-- fact
unfoldable pub near_name : Part → Option (List ℕ) → List ℕ → Option (List ℕ)
near_name (part.Switch guid) section line = after (codes "Switch\t") line >>= head_name
near_name part.Adapter section line = section
near_name (part.Dumped lmc) section line = far_parts line >>= λ parts. near_braced parts.0
near_name part.Plain section line = plain_name line
near_name part.Start section line = None
near_name (part.Lmc lmc) section line = None
near_name part.Outside section line = None
near_name part.Ended section line = None

unfoldable pub far_name : Part → List ℕ → Option (List ℕ)
far_name (part.Dumped lmc) line = far_parts line >>= λ parts. braced parts.1
far_name (part.Switch guid) line = None
far_name part.Adapter line = None
far_name part.Plain line = None
far_name part.Start line = None
far_name (part.Lmc lmc) line = None
far_name part.Outside line = None
far_name part.Ended line = None

-- the node of a fact
abbrev pub node_told : Option Fact → Option ℕ
node_told None = None
node_told (Some (fact.Switch guid ports base lmc)) = Some guid
node_told (Some (fact.Host guid base lmc)) = Some guid
node_told (Some (fact.Link one other)) = None
node_told (Some (fact.Neighbour guid base)) = None
node_told (Some (fact.HasSwitch guid)) = None

-- a node with its name, if both are present
abbrev pub named : Option ℕ → Option (List ℕ) → List (ℕ × List ℕ)
named guid name = option_to_list (option_zip guid name)

-- the nodes that `line` names, in the section of an adapter or router with the description `section`
abbrev pub names_in : Option (List ℕ) → List ℕ → Line → List (ℕ × List ℕ)
names_in section line said = named (node_told said.first) (near_name said.part section line)
    ++ named (node_told said.second) (far_name said.part line)

-- the nodes that the lines name, up to the first line without a meaning
abbrev pub names_told : Part → Option (List ℕ) → List (List ℕ) → List (ℕ × List ℕ)
names_told here section [] = []
names_told here section (line ∷ lines) = option_map_or
    (λ said. names_in (section_name section line) line said
    ++ names_told said.part (section_name section line) lines)
    (says here line) []

-- the name that the text gives to the node with `guid`, if any
abbrev pub name_of : List ℕ → ℕ → Option (List ℕ)
name_of bytes guid = lookup (nat_eq guid) (names_told part.Start None (lines_of bytes))

-- `names` has the name of each node in `guids` that has one, and nothing else
pub record AreNamesBy (name : ℕ → Option (List ℕ)) (guids : List ℕ) (names : List (ℕ × List ℕ)) : Type 0 where
  pub asked : (guid : ℕ) → Contains guids guid → lookup (nat_eq guid) names ≡ name guid
  pub others : (guid : ℕ) → ¬ Contains guids guid → lookup (nat_eq guid) names ≡ None

-- `AreNamesBy` with the names that the text `bytes` gives
abbrev pub AreNamesOf : List ℕ → List ℕ → List (ℕ × List ℕ) → Type 0
AreNamesOf bytes = AreNamesBy (name_of bytes)
