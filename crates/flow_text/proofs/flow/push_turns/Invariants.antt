use Rattle.std.proofs.Common.{◌≤◌, length, List}
use Rattle.an_base.specs.Values.{EntryOf}
use Rattle.net_script.specs.Scripts.{ScriptOf}
use Rattle.switch_numbering.specs.Numbering.{numbering}
use Rattle.flow_channels.specs.Layout.{LayoutOf}
use Rattle.flow_channels.specs.Runs.{moves_left}
use Rattle.flow_channels.specs.View.{IsOver}
use Rattle.flow_text.specs.FlowRuns.{AreNames, IsRanked}
use Rattle.flow_text.proofs.FlowTexts.{IsToldSoFar}
use Rattle.flow_text.proofs.flow.push_turns.Given as goal

-- the turns so far, of which each takes one from the moves that may be left, and their lines
abbrev pub invariant-turns : goal.invariant-turns
invariant-turns g l =
    IsRanked g.ranks l.flow
    × ((layout : LayoutOf) (script : ScriptOf) (entries : List EntryOf) → IsOver layout l.fn.flow → AreNames script entries (numbering entries) 256 l.names → IsOver layout l.flow × IsToldSoFar layout script entries l.fn.flow.flow l.flow.flow l.fn.text.items l.text.items l.fn.out l.out)
    × (l.out ≤ length l.text.items)

abbrev pub decreases-turns : goal.decreases-turns
decreases-turns g l = moves_left g.ranks l.flow.flow
