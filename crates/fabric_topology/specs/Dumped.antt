use Rattle.std.specs.Prelude.{◌||◌, ℕ, List, Option, Some, None, codes, if◌then◌else◌}
use Rattle.fabric_words.specs.Cuts.{◌>>=◌, after, cut, cut_first, cut_last}
use Rattle.fabric_words.specs.Digits.{guid, hex, number_to}
use Rattle.fabric_topology.specs.declared.fact.Fact.{Fact}
use Rattle.fabric_topology.specs.declared.fact.Fact.TheVariants as fact
use Rattle.fabric_topology.specs.declared.fact.PortTold.{PortTold}
use Rattle.fabric_topology.specs.declared.fact.PortTold.TheVariants.{OfSwitch, OfHost}
use Rattle.fabric_topology.specs.declared.fact.Line.{Line}
use Rattle.fabric_topology.specs.declared.fact.Part.TheVariants as part
use Rattle.fabric_topology.specs.Facts.{silent, telling_three}
use Rattle.fabric_topology.specs.Fronts.{begins}

-- The lines of `opensm-subnet.lst`, one for each end of each link: `{ SW Ports:24 SystemGUID:.. NodeGUID:..
-- PortGUID:.. .. {leaf1} LID:0006 PN:01 } { CA .. } PHY=4x ..`. Descriptions are any bytes, so what follows
-- one is found from the right.

-- the number in hexadecimal digits before the first space, and what follows that space
unfoldable pub hex_then : List ℕ → Option (ℕ × List ℕ)
hex_then text = do
  parts ← cut 32 text
  number ← hex parts.0
  Some (number, parts.1)

-- the GUID in sixteen digits before the first space, and what follows that space
unfoldable pub guid_then : List ℕ → Option (ℕ × List ℕ)
guid_then text = do
  parts ← cut 32 text
  number ← guid parts.0
  Some (number, parts.1)

-- the GUIDs of a node and of its port, after ` SystemGUID:`
unfoldable pub guids : List ℕ → Option (ℕ × ℕ)
guids text = do
  parts ← cut_first (codes " NodeGUID:") text
  node ← guid_then parts.1
  rest ← after (codes "PortGUID:") node.1
  port ← guid_then rest
  Some (node.0, port.0)

-- a LID and the number of a port: `0006 PN:01`
unfoldable pub at : List ℕ → Option (ℕ × ℕ)
at text = do
  base ← hex_then text
  word ← after (codes "PN:") base.1
  port ← hex word
  Some (base.0, port)

-- The node and port of a side, by its kind. The lines do not contain an LMC: port 0 of a switch has 0, and
-- all end ports of adapters and routers have `lmc`.
unfoldable pub told_by : (lmc : ℕ) (kind : List ℕ) (ports : ℕ) (guids at : ℕ × ℕ) → Option (Fact × PortTold)
told_by lmc kind ports guids at =
    if begins (codes "SW") kind
    then Some (fact.Switch guids.0 ports at.0 0, OfSwitch guids.0 at.1)
    else if begins (codes "CA") kind || begins (codes "Rt") kind
    then Some (fact.Host guids.1 at.0 lmc, OfHost guids.1) else None

-- the node and port of one side of a line: from `SW Ports:24`, from what follows ` SystemGUID:`, and from
-- `0006 PN:01`
unfoldable pub side : (lmc : ℕ) (head rest numbers : List ℕ) → Option (Fact × PortTold)
side lmc head rest numbers = do
  kind ← cut 32 head
  word ← after (codes "Ports:") kind.1
  ports ← hex word
  both ← guids rest
  place ← at numbers
  told_by lmc kind.0 ports both place

-- the parts of the first side: its head, what follows ` SystemGUID:`, and what follows the description
unfoldable pub near_parts : List ℕ → Option (List ℕ × List ℕ × List ℕ)
near_parts text = do
  numbers ← cut_last (codes "} LID:") text
  both ← cut_first (codes " SystemGUID:") numbers.0
  Some (both.0, both.1, numbers.1)

-- the parts of the second side, found from the right: its head with all that precedes it, what follows `
-- SystemGUID:`, and what follows the description
unfoldable pub far_parts : List ℕ → Option (List ℕ × List ℕ × List ℕ)
far_parts line = do
  both ← cut_last (codes " } PHY=") line
  numbers ← cut_last (codes "} LID:") both.0
  heads ← cut_last (codes " SystemGUID:") numbers.0
  Some (heads.0, heads.1, numbers.1)

-- the node and port of the first side of a line
unfoldable pub near_side : (lmc : ℕ) → List ℕ → Option (Fact × PortTold)
near_side lmc text = do
  parts ← near_parts text
  head ← after (codes "{ ") parts.0
  side lmc head parts.1 parts.2

-- the meaning of `line`: the first side is found in what precedes the second
unfoldable pub dumped : (lmc : ℕ) → List ℕ → Option Line
dumped lmc line = do
  parts ← far_parts line
  heads ← cut_last (codes " } { ") parts.0
  one ← near_side lmc heads.0
  other ← side lmc heads.1 parts.1 parts.2
  Some (telling_three (part.Dumped lmc) one.0 other.0 (fact.Link one.1 other.1))

-- the LMC of all end ports of adapters and routers, which OpenSM's configuration has as `lmc 1`: 0 to 7
unfoldable pub lmc_line : List ℕ → Option Line
lmc_line line = do
  word ← after (codes "lmc ") line
  lmc ← number_to 7 word
  Some (silent (part.Lmc lmc))
