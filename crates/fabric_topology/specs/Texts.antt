use Rattle.std.specs.Prelude.{ℕ, Bool, true, false, List, Option, Some, codes}
use Rattle.std.specs.Prelude.{if◌then◌else◌}
use Rattle.std.specs.Str.{bytes_eq}
use Rattle.fabric_topology.specs.declared.fact.Line.{Line}
use Rattle.fabric_topology.specs.declared.fact.Part.{Part}
use Rattle.fabric_topology.specs.declared.fact.Part.TheVariants as part
use Rattle.fabric_topology.specs.Facts.{silent}
use Rattle.fabric_topology.specs.Fronts.{begins}
use Rattle.fabric_topology.specs.Discovered.{discovered}
use Rattle.fabric_topology.specs.Dumped.{dumped, lmc_line}
use Rattle.fabric_topology.specs.Plain.{is_silent, plain, ended}

-- The text of a topology: each line has a meaning at its part of the text.

-- the meaning of `line` in an `opensm-subnet.lst` with this LMC
abbrev pub dumped_or_silent : Part → (lmc : ℕ) → List ℕ → Option Line
dumped_or_silent here lmc line = if is_silent line then Some (silent here) else dumped lmc line

-- The first line that is not silent says what the text is: `{` begins an `opensm-subnet.lst`, and so does
-- `lmc N` before it. `topology 1` begins a plain text, and every other line belongs to `ibnetdiscover`.
unfoldable pub first : List ℕ → Option Line
first line =
    if is_silent line then Some (silent part.Start)
    else if begins (codes "{") line then dumped 0 line
    else if begins (codes "lmc ") line then lmc_line line
    else if bytes_eq line (codes "topology 1") then Some (silent part.Plain)
    else discovered part.Outside line

-- the meaning of a line, by the part of the text
unfoldable pub says : Part → List ℕ → Option Line
says part.Start line = first line
says part.Outside line = discovered part.Outside line
says (part.Switch guid) line = discovered (part.Switch guid) line
says part.Adapter line = discovered part.Adapter line
says (part.Lmc lmc) line = dumped_or_silent (part.Lmc lmc) lmc line
says (part.Dumped lmc) line = dumped_or_silent (part.Dumped lmc) lmc line
says part.Plain line = plain line
says part.Ended line = ended line

-- a text can end here: a line has said what it is, and a plain text has had its `end`
abbrev pub may_end : Part → Bool
may_end part.Start = false
may_end part.Outside = true
may_end (part.Switch guid) = true
may_end part.Adapter = true
may_end (part.Lmc lmc) = false
may_end (part.Dumped lmc) = true
may_end part.Plain = false
may_end part.Ended = true
