use Rattle.fabric_tables.specs.Cells.{tables_of}
use Rattle.fabric_routes.proofs.AudienceLemmas.{AreTargetsBelow}
use Rattle.fabric_routes.proofs.audience.targets_of.Given as goal

abbrev pub invariant-bits : goal.invariant-bits
invariant-bits l = AreTargetsBelow l.fabric (tables_of l.cells) l.traffic l.block l.bit l.targets
