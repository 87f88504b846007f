use Rattle.std.proofs.Common.{◌≡◌, take}
use Rattle.flow_text.specs.Sends.{entering}
use Rattle.flow_text.proofs.sent.entering.Given as goal

-- those so far
abbrev pub invariant-sends : goal.invariant-sends
invariant-sends l = l.those.items ≡ entering l.home (take l.sent-index l.sends)
