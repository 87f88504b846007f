use Rattle.std.proofs.Common.{length}
use Rattle.std.specs.Option.{option_copied}
use Rattle.fabric_topology.proofs.NameLemmas.{IsReadTo}
use Rattle.fabric_topology.proofs.names.note_names.Given as goal

-- the names of the lines before the rest are noted
abbrev pub invariant-lines : goal.invariant-lines
invariant-lines l = IsReadTo l.bytes l.rest l.part (option_copied l.section) l.guids.keys l.names.entries

abbrev pub decreases-lines : goal.decreases-lines
decreases-lines l = length l.rest
