use Rattle.epoch_core.proofs.LawLemmas.{adds-unnamed, finish-unnamed}
use Rattle.epoch_core.proofs.law.an_unnamed_topology_adds_nothing.Goals as goal

pub returns-clause-adds : goal.returns-clause-adds
returns-clause-adds c = adds-unnamed

pub returns-clause-finish : goal.returns-clause-finish
returns-clause-finish c = finish-unnamed
