use Rattle.std.proofs.Common.{◌≤◌, length, take}
use Rattle.std.specs.List.{flat_map}
use Rattle.flow_text.specs.Flows.{fate_lines, flow_told}
use Rattle.flow_text.proofs.FlowTexts.{AreToldParts}
use Rattle.flow_text.proofs.flow.text_with.Given as goal

-- the components so far
abbrev pub invariant-components : goal.invariant-components
invariant-components l = AreToldParts l.script l.b (take l.component-index l.forest) (flow_told (flat_map (fate_lines l.script l.homes) l.sends)) l.text.items l.out × (l.out ≤ length l.text.items)
