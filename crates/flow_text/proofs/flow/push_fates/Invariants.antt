use Rattle.std.proofs.Common.{◌≡◌, ◌++◌, take}
use Rattle.std.specs.Prelude.{filter}
use Rattle.std.specs.List.{flat_map}
use Rattle.flow_text.specs.Flows.{fate_lines, flow_told}
use Rattle.flow_text.specs.Sends.{is_entering}
use Rattle.flow_text.proofs.flow.push_fates.Given as goal

-- the packets so far
abbrev pub invariant-sends : goal.invariant-sends
invariant-sends l =
    (l.text.items ≡ l.fn.text.items ++ flow_told (flat_map (fate_lines l.script l.homes) (take l.sent-index l.sends)))
    × (l.those.items ≡ filter (is_entering l.homes) (take l.sent-index l.sends))
