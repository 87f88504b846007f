use Rattle.flow_channels.proofs.RankedLaws.{ranks_in}
use Rattle.flow_text.proofs.flow.push_run.Given as goal

-- the layout of the component, and the ranks of its channels
abbrev pub ghost-begun : goal.ghost-begun
ghost-begun g a = g.layout

abbrev pub ghost-push_flow : goal.ghost-push_flow
ghost-push_flow g a = ranks_in g.layout
