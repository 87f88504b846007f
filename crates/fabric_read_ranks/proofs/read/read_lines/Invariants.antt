use Rattle.std.proofs.Common.{length, ◌+◌, ◌≤◌}
use Rattle.common_lines.proofs.ChainLaws.{IsReadBy}
use Rattle.fabric_read_ranks.specs.Ranks.{AddsTo, none_told}
use Rattle.fabric_read_ranks.specs.Readings.{HasPlaces, told_of}
use Rattle.fabric_read_ranks.proofs.read.read_lines.Given as goal

-- the lines before the rest are good, and no more than the bytes before it
abbrev pub invariant-lines : goal.invariant-lines
invariant-lines l = record {
  read : IsReadBy (AddsTo l.fabric) (none_told l.fabric) l.bytes l.rest (told_of l.reading) l.line;
  few : l.line + length l.rest ≤ length l.bytes + 1;
  places : HasPlaces l.fabric l.reading;
}

abbrev pub decreases-lines : goal.decreases-lines
decreases-lines l = length l.rest
