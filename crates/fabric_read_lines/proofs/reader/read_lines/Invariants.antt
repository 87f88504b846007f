use Rattle.std.proofs.Common.{◌+◌, ◌-◌, ◌<◌, ◌≤◌, length, drop}
use Rattle.fabric_read_lines.specs.Pieces.{ReadsOn}
use Rattle.fabric_read_lines.proofs.reader.read_lines.Given as goal

-- the lines before this place were read, and are no more than its bytes
abbrev pub invariant-lines : goal.invariant-lines
invariant-lines g l = record {
  read : ReadsOn (g.T.TakesLines.adds l.fabric) l.bytes l.initial.told l.initial.line l.told l.line (drop l.from l.bytes);
  fit : g.T.TakesLines.is_fit l.fabric l.told;
  counted : g.T.TakesLines.count l.told < l.line;
  within : l.from ≤ length l.bytes;
  few : l.line + (length l.bytes - l.from) ≤ l.initial.line + length l.bytes;
}

abbrev pub decreases-lines : goal.decreases-lines
decreases-lines g l = length l.bytes - l.from
