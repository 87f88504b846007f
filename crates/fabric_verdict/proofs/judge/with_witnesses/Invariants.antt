use Rattle.std.proofs.Common.{map}
use Rattle.fabric_tables.specs.Cells.{tables_of}
use Rattle.fabric_verdict.specs.Verdict.{spot_at}
use Rattle.fabric_verdict.proofs.WitnessLemmas.{AreSoFar}
use Rattle.fabric_verdict.proofs.judge.with_witnesses.Given as goal

-- the channels so far
abbrev pub invariant-places : goal.invariant-places
invariant-places l = AreSoFar l.fabric (tables_of l.cells) l.traffic (map (spot_at l.most) l.places) l.at l.channels.items
