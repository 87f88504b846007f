use Rattle.std.proofs.Common.{take}
use Rattle.flow_channels.specs.Layout.{LayoutOf}
use Rattle.flow_channels.specs.View.{IsOver}
use Rattle.flow_text.specs.FlowRuns.{HasEntered}
use Rattle.flow_text.specs.Sends.{MayAllEnter}
use Rattle.flow_text.proofs.flow.enter_all.Given as goal

-- those so far have entered
abbrev pub invariant-sends : goal.invariant-sends
invariant-sends l = HasEntered l.home (take l.sent-index l.sends) l.fn.flow l.flow × ((layout : LayoutOf) → IsOver layout l.fn.flow → MayAllEnter layout.numbers l.home l.sends → IsOver layout l.flow)
