use Rattle.tests_parts.proofs.flows.over.Given as goal

-- the rows that are at hand
abbrev pub ghost-entered : goal.ghost-entered
ghost-entered a = a._rows.now
