use Rattle.flow_channels.specs.Layout.{layout_of}
use Rattle.flow_text.proofs.FlowTurns.{member_rows}
use Rattle.flow_text.proofs.flow.push_entering.Given as goal

-- the layout of the component
abbrev pub ghost-push_run : goal.ghost-push_run
ghost-push_run a = layout_of a.tabled.graph a.tabled.numbers (member_rows a.tabled.graph a.script.now.any_routes) a.b
