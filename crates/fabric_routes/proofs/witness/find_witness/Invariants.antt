use Rattle.std.proofs.Common.{◌<◌, ℕ}
use Rattle.fabric_tables.specs.Cells.{tables_of}
use Rattle.fabric_routes.specs.Found.{channel_of}
use Rattle.fabric_routes.specs.Witness.{NoSourceTakes}
use Rattle.fabric_routes.proofs.witness.find_witness.Given as goal

-- no route to a LID so far takes the two
abbrev pub invariant-lids : goal.invariant-lids
invariant-lids l = (other : ℕ) → other < l.lid → NoSourceTakes l.fabric (tables_of l.cells) l.traffic other (channel_of l.channel) (channel_of l.next)
