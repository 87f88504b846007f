use Rattle.std.proofs.Common.{take}
use Rattle.broadcast_flood.proofs.DownLemmas.{AreHopsOf}
use Rattle.broadcast_flood.proofs.flood.hops_down.Given as goal

-- the hops of the members so far
abbrev pub invariant-heights : goal.invariant-heights
invariant-heights l = AreHopsOf l.graph l.children (take l.height-index l.height-items) l.hops.items
