use Rattle.std.proofs.Common.{◌≡◌, drop}
use Rattle.switch_core.specs.Steps.{peer_among}
use Rattle.switch_core.proofs.control.peer_of.Given as goal

-- the links to come have the port where all have it
abbrev pub invariant-links : goal.invariant-links
invariant-links l = peer_among l.link-items l.port ≡ peer_among (drop l.link-index l.link-items) l.port
