use Rattle.std.proofs.Common.{◌≡◌, map, take}
use Rattle.fabric_judge_commands.specs.Judged.{step_of}
use Rattle.fabric_judge_commands.proofs.steps.steps_of.Given as goal

-- the steps so far
abbrev pub invariant-channels : goal.invariant-channels
invariant-channels l = l.steps.items ≡ map (step_of l.fabric) (take l.one-index l.cycle)
