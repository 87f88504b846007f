use Rattle.std.proofs.Common.{take}
use Rattle.flow_channels.specs.Sets.{AreSetsOf}
use Rattle.flow_channels.proofs.exits.sets_of.Given as goal

-- the sets have the ports of the ways so far
abbrev pub invariant-ways : goal.invariant-ways
invariant-ways l = AreSetsOf (take l.way-index l.ways) l.up l.sets
