use Rattle.std.proofs.Common.{map}
use Rattle.fabric_tables.specs.Cells.{tables_of}
use Rattle.fabric_verdict.specs.Verdict.{spot_at}
use Rattle.fabric_verdict.proofs.LoopLemmas.{AreSoFar}
use Rattle.fabric_mixtures.proofs.VerdictLemmas.{Fits, channel_in}
use Rattle.fabric_mixtures.proofs.judge.with_turns.Given as goal

-- the channels so far
abbrev pub invariant-places : goal.invariant-places
invariant-places l = AreSoFar channel_in (Fits l.fabric (tables_of l.old) (tables_of l.new)) (map (spot_at l.most) l.places) l.at l.channels.items
