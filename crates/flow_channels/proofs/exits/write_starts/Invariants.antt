use Rattle.flow_channels.specs.Sets.{AreStartsBelow}
use Rattle.flow_channels.proofs.exits.write_starts.Given as goal

-- the entries so far have their starts
abbrev pub invariant-entries : goal.invariant-entries
invariant-entries l = AreStartsBelow l.graph l.x l.at l.up l.down l.entry l.fn.starts.items l.starts.items
