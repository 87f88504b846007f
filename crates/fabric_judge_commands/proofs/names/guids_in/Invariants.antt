use Rattle.std.proofs.Common.{◌≡◌, [], take}
use Rattle.fabric_judge_commands.specs.Names.{mentioned}
use Rattle.fabric_judge_commands.proofs.names.guids_in.Given as goal

-- the nodes so far
abbrev pub invariant-steps : goal.invariant-steps
invariant-steps l = l.guids.keys ≡ mentioned (take l.step-index l.steps) []

abbrev pub invariant-lost : goal.invariant-lost
invariant-lost l = l.guids.keys ≡ mentioned l.steps (take l.route-index l.lost)
