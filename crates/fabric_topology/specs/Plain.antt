use Rattle.std.specs.Prelude.{◌==◌, ◌||◌, ℕ, Bool, List, length, Option, Some, None, codes, if◌then◌else◌}
use Rattle.std.specs.Option.{option_map_or}
use Rattle.std.specs.Str.{bytes_eq}
use Rattle.fabric_words.specs.Cuts.{◌>>=◌, after, cut}
use Rattle.fabric_words.specs.Digits.{hex}
use Rattle.fabric_topology.specs.declared.fact.Fact.TheVariants as fact
use Rattle.fabric_topology.specs.declared.fact.PortTold.TheVariants.{OfSwitch, OfHost}
use Rattle.fabric_topology.specs.declared.fact.Line.{Line}
use Rattle.fabric_topology.specs.declared.fact.Part.TheVariants as part
use Rattle.fabric_topology.specs.Facts.{silent, telling, telling_three}
use Rattle.fabric_topology.specs.Fronts.{begins, number_then, front_number}

-- The lines of the plain format. After the last number of a line, a space and a name can follow. A SWITCH is
-- the id of a switch of the text.

-- the id, `0x` and hexadecimal digits, before the first space, and what follows that space
unfoldable pub id_then : List ℕ → Option (ℕ × List ℕ)
id_then text = do
  parts ← cut 32 text
  word ← after (codes "0x") parts.0
  number ← hex word
  Some (number, parts.1)

-- `switch ID PORTS LID LMC`
unfoldable pub plain_switch : List ℕ → Option Line
plain_switch text = do
  guid ← id_then text
  ports ← number_then guid.1
  base ← number_then ports.1
  lmc ← front_number base.1
  Some (telling part.Plain (fact.Switch guid.0 ports.0 base.0 lmc))

-- `host ID LID LMC SWITCH PORT`
unfoldable pub plain_host : List ℕ → Option Line
plain_host text = do
  guid ← id_then text
  base ← number_then guid.1
  lmc ← number_then base.1
  switch ← id_then lmc.1
  port ← front_number switch.1
  Some (telling_three part.Plain (fact.Host guid.0 base.0 lmc.0) (fact.HasSwitch switch.0)
      (fact.Link (OfHost guid.0) (OfSwitch switch.0 port)))

-- `link SWITCH PORT SWITCH PORT`
unfoldable pub plain_link : List ℕ → Option Line
plain_link text = do
  one ← id_then text
  port ← number_then one.1
  other ← id_then port.1
  far_port ← front_number other.1
  Some (telling_three part.Plain (fact.HasSwitch one.0) (fact.HasSwitch other.0)
      (fact.Link (OfSwitch one.0 port.0) (OfSwitch other.0 far_port)))

-- the meaning of a line, by its first word
unfoldable pub item : List ℕ → Option Line
item line =
    option_map_or plain_switch (after (codes "switch ") line)
    (option_map_or plain_host (after (codes "host ") line)
    (after (codes "link ") line >>= plain_link))

-- whether `line` is empty or a comment
abbrev pub is_silent : List ℕ → Bool
is_silent line = (length line == 0) || begins (codes "#") line

-- the meaning of a line between the first and the last, which is `end`
unfoldable pub plain : List ℕ → Option Line
plain line =
    if is_silent line then Some (silent part.Plain)
    else if bytes_eq line (codes "end") then Some (silent part.Ended) else item line

-- the meaning of a line after the last
unfoldable pub ended : List ℕ → Option Line
ended line = if is_silent line then Some (silent part.Ended) else None
