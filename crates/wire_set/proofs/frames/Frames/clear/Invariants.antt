use Rattle.std.proofs.Common.{◌≡◌}
use Rattle.wire_set.proofs.StoreLemmas.{cleared}
use Rattle.wire_set.proofs.frames.Frames.clear.Given as goal

-- so many frames are given up
abbrev pub invariant-frames : goal.invariant-frames
invariant-frames l = l.self ≡ cleared l.counter l.q l.fn.self
