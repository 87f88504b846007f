use Rattle.std.proofs.Common.{take}
use Rattle.fcfc_router.proofs.BitLemmas.{HasBits}
use Rattle.fcfc_router.proofs.router.set_of.Given as goal

-- the bits are the ports so far
abbrev pub invariant-ports : goal.invariant-ports
invariant-ports l = HasBits l.set (take l.port-index l.ports)
