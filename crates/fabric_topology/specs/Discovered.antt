use Rattle.std.specs.Prelude.{◌==◌, ◌||◌, ℕ, Bool, List, length, Option, Some, None, codes, if◌then◌else◌}
use Rattle.std.specs.Option.{option_map_or}
use Rattle.fabric_words.specs.Cuts.{◌>>=◌, after, cut, cut_first, cut_last}
use Rattle.fabric_words.specs.Digits.{decimal, guid, hex}
use Rattle.fabric_topology.specs.declared.fact.Fact.TheVariants as fact
use Rattle.fabric_topology.specs.declared.fact.PortTold.{PortTold}
use Rattle.fabric_topology.specs.declared.fact.PortTold.TheVariants.{OfSwitch, OfHost}
use Rattle.fabric_topology.specs.declared.fact.Line.{Line}
use Rattle.fabric_topology.specs.declared.fact.Part.{Part}
use Rattle.fabric_topology.specs.declared.fact.Part.TheVariants as part
use Rattle.fabric_topology.specs.Fronts.{begins, number_then, front_number}
use Rattle.fabric_topology.specs.Facts.{guid_of, silent, telling, telling_two, telling_three}

-- The lines that `ibnetdiscover` prints. Descriptions of nodes are any bytes, so an id is the first word in
-- quotes, and the LID of a node that follows a description is what follows the last ` lid `.

-- the first word in quotes, and what follows it
unfoldable pub quoted : List ℕ → Option (List ℕ × List ℕ)
quoted text = do
  parts ← cut 34 text
  cut 34 parts.1

-- the number in brackets at the start of `text`
unfoldable pub in_brackets : List ℕ → Option ℕ
in_brackets text = do
  rest ← after (codes "[") text
  parts ← cut 93 rest
  decimal parts.0

-- the GUID in the first parentheses of `text`
unfoldable pub in_parentheses : List ℕ → Option ℕ
in_parentheses text = do
  parts ← cut 40 text
  word ← cut 41 parts.1
  hex word.0

-- `switch_id`: the GUID in the id of a switch; `adapter_id`: the GUID in the id of an adapter or router
unfoldable pub switch_id : List ℕ → Option ℕ
switch_id id = after (codes "S-") id >>= guid

unfoldable pub adapter_id : List ℕ → Option ℕ
adapter_id id = option_map_or guid (after (codes "H-") id) (after (codes "R-") id >>= guid)

-- the port at the far end of a link: `"S-0002c90000000002"[3]`, or `"H-0008f10400000010"[1](8f10400000011)`
unfoldable pub far_port : (id rest : List ℕ) → Option PortTold
far_port id rest =
    option_map_or (λ guid. in_brackets rest >>= λ port. Some (OfSwitch guid port)) (switch_id id)
    (adapter_id id >>= λ node. in_parentheses rest >>= λ guid. Some (OfHost guid))

-- the port at the far end of a link, as in `far_port`, in `line`, and what follows its id
unfoldable pub far_end : List ℕ → Option (PortTold × List ℕ)
far_end line = do
  id ← quoted line
  port ← far_port id.0 id.1
  Some (port, id.1)

-- the LID after the last ` lid `
unfoldable pub last_lid : List ℕ → Option ℕ
last_lid text = do
  parts ← cut_last (codes " lid ") text
  front_number parts.1

-- a base LID and an LMC: `6 lmc 0`
unfoldable pub own_lids : List ℕ → Option (ℕ × ℕ)
own_lids text = do
  base ← number_then text
  rest ← after (codes "lmc ") base.1
  lmc ← front_number rest
  Some (base.0, lmc)

-- `36 "S-0002c90000000001"\t\t# "MF0;leaf1" enhanced port 0 lid 6 lmc 0`, after `Switch\t`
unfoldable pub switch_head : List ℕ → Option Line
switch_head text = do
  ports ← number_then text
  id ← quoted ports.1
  guid ← switch_id id.0
  parts ← cut_last (codes " lid ") id.1
  lids ← own_lids parts.1
  Some (telling (part.Switch guid) (fact.Switch guid ports.0 lids.0 lids.1))

-- `2 "H-0008f10400000020"\t\t# "node2"`, after `Ca\t` or `Rt\t`
unfoldable pub adapter_head : List ℕ → Option Line
adapter_head text = do
  ports ← number_then text
  id ← quoted ports.1
  guid ← adapter_id id.0
  Some (silent part.Adapter)

-- `[3]\t"S-0002c90000000002"[3]\t\t# "leaf2" lid 7 4xSDR`, in the section of a switch
unfoldable pub switch_port : ℕ → List ℕ → Option Line
switch_port guid line = do
  port ← in_brackets line
  far ← far_end line
  base ← last_lid far.1
  Some (telling_two (part.Switch guid) (fact.Link (OfSwitch guid port) far.0)
      (fact.Neighbour (guid_of far.0) base))

-- the GUID of the port of an adapter, which precedes the id of the far end
unfoldable pub own_guid : List ℕ → Option ℕ
own_guid line = do
  port ← in_brackets line
  own ← cut 34 line
  in_parentheses own.0

-- the LIDs of the port of an adapter
unfoldable pub port_lids : List ℕ → Option (ℕ × ℕ)
port_lids text = do
  numbers ← cut_first (codes "# lid ") text
  own_lids numbers.1

-- `[1](8f10400000011) \t"S-0002c90000000001"[1]\t\t# lid 1 lmc 0 "leaf1" lid 6 4xSDR`, in the section of an
-- adapter or router
unfoldable pub adapter_port : List ℕ → Option Line
adapter_port line = do
  guid ← own_guid line
  far ← far_end line
  lids ← port_lids far.1
  far_base ← last_lid far.1
  Some (telling_three part.Adapter (fact.Host guid lids.0 lids.1) (fact.Link (OfHost guid) far.0)
      (fact.Neighbour (guid_of far.0) far_base))

-- the head of a node
unfoldable pub head_line : List ℕ → Option Line
head_line line =
    option_map_or switch_head (after (codes "Switch\t") line)
    (option_map_or adapter_head (after (codes "Ca\t") line)
    (after (codes "Rt\t") line >>= adapter_head))

-- the line of a port, in the section of a node
unfoldable pub port_line : Part → List ℕ → Option Line
port_line (part.Switch guid) line = switch_port guid line
port_line part.Adapter line = adapter_port line
port_line part.Start line = None
port_line part.Outside line = None
port_line (part.Lmc lmc) line = None
port_line (part.Dumped lmc) line = None
port_line part.Plain line = None
port_line part.Ended line = None

-- `is_of_chassis`: whether `line` names a chassis; `is_of_ids`: whether it is one of the ids before the head
-- of a node
abbrev pub is_of_chassis : List ℕ → Bool
is_of_chassis line = begins (codes "Chassis ") line || begins (codes "Non-Chassis Nodes") line

abbrev pub is_of_ids : List ℕ → Bool
is_of_ids line =
    ((begins (codes "vendid=") line || begins (codes "devid=") line)
    || (begins (codes "sysimgguid=") line || begins (codes "switchguid=") line))
    || (begins (codes "caguid=") line || begins (codes "rtguid=") line)

-- whether `line` is ignored: a chassis, an id, or a comment
unfoldable pub is_passed_over : List ℕ → Bool
is_passed_over line = begins (codes "#") line || (is_of_chassis line || is_of_ids line)

-- the meaning of `line` at part `here`: an empty line ends a section
unfoldable pub discovered : Part → List ℕ → Option Line
discovered here line =
    if length line == 0 then Some (silent part.Outside)
    else if begins (codes "[") line then port_line here line
    else if is_passed_over line then Some (silent here) else head_line line
