use Rattle.std.proofs.Common.{length, ◌+◌, ◌≤◌}
use Rattle.common_lines.proofs.ChainLaws.{IsReadBy}
use Rattle.fabric_topology.specs.declared.fact.Part.TheVariants as part
use Rattle.fabric_read_topology.specs.Lines.{AddsLine}
use Rattle.fabric_read_topology.proofs.lines.read_lines.Given as goal

-- the lines before the rest are good, and no more than the bytes before it
abbrev pub invariant-lines : goal.invariant-lines
invariant-lines g l = record {
  read : IsReadBy (AddsLine g.T.Takes.adds) (part.Start, l.fn.told) l.bytes l.rest (l.part, l.told) l.line;
  few : l.line + length l.rest ≤ length l.bytes + 1;
}

abbrev pub decreases-lines : goal.decreases-lines
decreases-lines g l = length l.rest
