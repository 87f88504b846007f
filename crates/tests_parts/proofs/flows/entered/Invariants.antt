use Rattle.tests_parts.proofs.flows.entered.Given as goal

-- the rows of the exits
abbrev pub ghost-new : goal.ghost-new
ghost-new g a = g.own
