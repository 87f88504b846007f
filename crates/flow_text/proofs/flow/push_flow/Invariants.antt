use Rattle.flow_text.proofs.flow.push_flow.Given as goal

-- the ranks of the flow's channels
abbrev pub ghost-push_turns : goal.ghost-push_turns
ghost-push_turns g a = g.ranks
