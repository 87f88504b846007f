use Rattle.std.proofs.Common.{arith}
use Rattle.frame_codec.proofs.FrameReaders.{entries_are}
use Rattle.frame_codec.proofs.reader.Reader.entries.Goals as goal

pub new-requires-clause-some : goal.new-requires-clause-some
new-requires-clause-some c =
    let h = entries_are c.in_ok-count.count c.within.new.self c.in_ok-entries.entries.items c.entries_of.new.self c.in_ok-entries.ensures in
    omega (arith, h.0, c.in_ok-count.ensures.within.0)

pub new-requires-clause-most : goal.new-requires-clause-most
new-requires-clause-most c =
    let h = entries_are c.in_ok-count.count c.within.new.self c.in_ok-entries.entries.items c.entries_of.new.self c.in_ok-entries.ensures in
    omega (arith, h.0, c.in_ok-count.ensures.within.1)

pub new-requires-clause-rising : goal.new-requires-clause-rising
new-requires-clause-rising c = (entries_are c.in_ok-count.count c.within.new.self c.in_ok-entries.entries.items c.entries_of.new.self c.in_ok-entries.ensures).1
