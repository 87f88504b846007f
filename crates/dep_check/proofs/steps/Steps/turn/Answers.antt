use Rattle.dep_check.proofs.steps.Steps.turn.Goals as goal

pub table-requires : goal.table-requires
table-requires c = rw c.requires.rows.count c.requires.to
