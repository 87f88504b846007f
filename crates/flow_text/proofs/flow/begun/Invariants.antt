use Rattle.flow_text.proofs.flow.begun.Given as goal

-- the rows of the layout
abbrev pub ghost-new : goal.ghost-new
ghost-new g a = g.layout.rows
